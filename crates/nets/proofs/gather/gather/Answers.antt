use Rattle.std.proofs.Common.{◌≡◌, ◌≤◌, map, length, sym, ap, ◌∙◌, subst, rules}
use Rattle.bag.specs.Bag.{Canonical}
use Rattle.settling.specs.Keys.{keyed}
use Rattle.std.proofs.lemmas.Result.{err_from_is_err_and}
use Rattle.table.specs.Tables.{items}
use Rattle.plan.specs.Plans.{nodes_of}
use Rattle.nets.specs.Nets.{nets_of}
use Rattle.nets.specs.GatherRefusal.{gather_refusal}
use Rattle.nets.specs.Gathered.{gathered_until}
use Rattle.nets.proofs.LaidNets.{laid_in_run, answer_ok, answer_err}
use Rattle.nets.proofs.gather.gather.Goals as goal

pub invariant_of-sums : goal.invariant_of-sums
invariant_of-sums c = record { canonical = subst Canonical (sym (ap (map keyed) c.new-table.ensures.empty)) tt }

pub returns-in_err-add_up : goal.returns-in_err-add_up
returns-in_err-add_up c =
    let n = length c.args.nets.now in
    let nodes = nodes_of c.args.plan.now in
    let bytes = c.args.message.now in
    let made = c.new-table.ensures in
    let sum = c.in_err-add_up.ensures in
    let p = err_from_is_err_and c.from_residual.result c.from_residual.ensures.1 in
    let laid = laid_in_run nodes bytes c.add_up.new.nets.table.now n (sum.same.long ∙ made.long) (λ l. sum.added made.empty (rw made.long l)) in
    record {
      long = search rules;
      refusal = rw (p.1, p.2) sum.refusal;
      answer = λ (l : 1024 ≤ n). rw (p.1, p.2) (answer_err nodes bytes (gather_refusal c.in_err-add_up.field-0.0) sum.refusal);
      left = search (rules, laid.0);
      nets = search (rules, laid.1);
    }

pub returns : goal.returns
returns c =
    let n = length c.args.nets.now in
    let nodes = nodes_of c.args.plan.now in
    let bytes = c.args.message.now in
    let made = c.new-table.ensures in
    let sum = c.in_ok-add_up.ensures in
    let count : c.len.result ≡ length (items c.add_up.new.nets.table.now) = search rules in
    let are : 1024 ≤ n → items c.add_up.new.nets.table.now ≡ nets_of (gathered_until nodes bytes) = λ l. sum.added made.empty (rw made.long l) in
    let laid = laid_in_run nodes bytes c.add_up.new.nets.table.now n (sum.same.long ∙ made.long) are in
    record {
      long = search rules;
      refusal = sum.refusal;
      answer = λ (l : 1024 ≤ n). answer_ok nodes bytes c.len.result sum.refusal (count ∙ ap length (are l));
      left = search (rules, laid.0);
      nets = search (rules, laid.1);
    }
