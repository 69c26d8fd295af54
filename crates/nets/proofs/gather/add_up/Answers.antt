use Rattle.std.proofs.Common.{◌≡◌, ℕ, ◌≤◌, List, length, Some, None, Ok, Err, Option, refl, sym, ap, ◌∙◌, subst, arith, rules}
use Rattle.std.proofs.lemmas.List.{length-take}
use Rattle.std.proofs.lemmas.Result.{err_from_is_err_and}
use Rattle.table.proofs.Kept.{unchanged}
use Rattle.bag.specs.Refusal.{Refusal}
use Rattle.message.specs.declared.record.Record.{Record}
use Rattle.message.specs.Refusal.{read_refusal}
use Rattle.message.specs.Reading.{Step, step, ends, refused}
use Rattle.message.proofs.Readings.{onward, step_ended, step_refused, step_read_one, Read}
use Rattle.plan.specs.declared.plan.Plan.{Plan}
use Rattle.plan.specs.Plans.{nodes_of}
use Rattle.nets.specs.GatherRefusal.{of_message, table_refusal, fault_in}
use Rattle.nets.proofs.Gathering.{Counted, Reached, reached_first, reached_more, reached_end, reached_refused, reached_misfit, reached_nets}
use Rattle.nets.proofs.gather.add_up.Goals as goal

-- what a step of the reader answered, over the message that it was lent
module _ (m b : List ℕ) (same : b ≡ m) (at seen to then : ℕ) where
  read_one : (o : Option Record) (r : Record) → o ≡ Some r → ◌≡◌ {A = Step} (Ok o, to, then) (step b at seen) → Read m at seen to then r
  read_one o r is s = step_read_one m at seen to then r (sym (ap (λ (v : Option Record). (Ok v, to, then)) is) ∙ (s ∙ ap (λ v. step v at seen) same))

  read_none : (o : Option Record) → o ≡ None → ◌≡◌ {A = Step} (Ok o, to, then) (step b at seen) → onward m at seen ≡ ends
  read_none o is s = step_ended m at seen to then (sym (ap (λ (v : Option Record). (Ok v, to, then)) is) ∙ (s ∙ ap (λ v. step v at seen) same))

  read-fault : (e : Refusal) → ◌≡◌ {A = Step} (Err e, to, then) (step b at seen) → onward m at seen ≡ refused e
  read-fault e s = step_refused m at seen to then e (s ∙ ap (λ v. step v at seen) same)

few-nodes : (p : Plan) → p.len ≤ 16 → length (nodes_of p) ≤ 16
few-nodes p h = let l = length-take p.len p.nodes in omega arith

pub loop-movement-init : goal.loop-movement-init
loop-movement-init c =
    let s = c.args.nets.now.table.now in
    let nodes = nodes_of c.args.plan.now in
    let m = c.args.message.now in
    let at = c.new-reader.ensures.at in
    let seen = c.new-reader.ensures.seen in
    (refl, unchanged s, c.new-reader.ensures.bytes, sym at, subst (λ n. Reached nodes m s s c.new-reader.result.at n) (sym seen) (subst (λ n. Reached nodes m s s n 0) (sym at) (reached_first nodes m s)))

pub returns-in_err-movement : goal.returns-in_err-movement
returns-in_err-movement c =
    let s = c.args.nets.now.table.now in
    let t = c.loop-movement.nets.table.now in
    let nodes = nodes_of c.args.plan.now in
    let m = c.args.message.now in
    let at = c.loop-movement.reader.at in
    let seen = c.loop-movement.reader.seen in
    let i = c.loop-movement.invariant in
    let e = read_refusal c.in_err-movement.field-0.0 in
    let few : c.args.plan.now.len ≤ 16 = search rules in
    let p = err_from_is_err_and c.from_residual.result c.from_residual.ensures.1 in
    let o = read-fault m c.loop-movement.reader.bytes.now i.2 at seen c.next.new.self.at c.next.new.self.seen e c.in_err-movement.ensures.step in
    let d = reached_refused nodes m s t at seen i.4 i.1 e o in
    record {
      lender = i.0;
      same = i.1;
      refusal = rw (p.1, p.2) (ap fault_in (sym d.answer));
      added = reached_nets nodes m s t at seen i.4 i.1 (Err (of_message e)) d (few-nodes c.args.plan.now few);
    }

pub returns-then-not-is_of_base : goal.returns-then-not-is_of_base
returns-then-not-is_of_base c =
    let s = c.args.nets.now.table.now in
    let t = c.loop-movement.nets.table.now in
    let nodes = nodes_of c.args.plan.now in
    let m = c.args.message.now in
    let at = c.loop-movement.reader.at in
    let seen = c.loop-movement.reader.seen in
    let i = c.loop-movement.invariant in
    let r = c.in-Some.movement in
    let to = c.next.new.self.at in
    let then = c.next.new.self.seen in
    let few : c.args.plan.now.len ≤ 16 = search rules in
    let v = read_one m c.loop-movement.reader.bytes.now i.2 at seen to then c.in_ok-movement.field-0 r c.in-Some.is c.in_ok-movement.ensures.step in
    let d = reached_misfit nodes m s t at seen i.4 i.1 r to then v c.if-not-is_of_base.ensures in
    record {
      lender = i.0;
      same = i.1;
      refusal = ap (λ n. Some (table_refusal n)) i.3 ∙ ap fault_in (sym d.answer);
      added = reached_nets nodes m s t at seen i.4 i.1 (Err (table_refusal at)) d (few-nodes c.args.plan.now few);
    }

was_read : (c : goal.After-place-place) → Read c.args.message.now c.loop-movement.reader.at c.loop-movement.reader.seen c.next.new.self.at c.next.new.self.seen c.in-Some.movement
was_read c = read_one c.args.message.now c.loop-movement.reader.bytes.now c.loop-movement.invariant.2 c.loop-movement.reader.at c.loop-movement.reader.seen c.next.new.self.at c.next.new.self.seen c.in_ok-movement.field-0 c.in-Some.movement c.in-Some.is c.in_ok-movement.ensures.step

pub loop-movement-smaller : goal.loop-movement-smaller
loop-movement-smaller c = let v = was_read c in omega (arith, v.forward, v.inside)

pub loop-movement-preserved : goal.loop-movement-preserved
loop-movement-preserved c =
    let s = c.args.nets.now.table.now in
    let t = c.loop-movement.nets.table.now in
    let u = c.add.new.self.table.now in
    let nodes = nodes_of c.args.plan.now in
    let m = c.args.message.now in
    let i = c.loop-movement.invariant in
    let r = c.in-Some.movement in
    let add = c.add.ensures in
    let counted : Counted r = search rules in (
      add.lender ∙ i.0,
      record { lender = add.same.lender ∙ i.1.lender; long = add.same.long ∙ i.1.long },
      c.next.ensures.same ∙ i.2,
      c.place-place.ensures,
      reached_more nodes m s t c.loop-movement.reader.at c.loop-movement.reader.seen i.4 i.1 r c.next.new.self.at c.next.new.self.seen u (was_read c) (sym c.if-not-is_of_base.ensures) counted add.added,
    )

pub returns : goal.returns
returns c =
    let s = c.args.nets.now.table.now in
    let t = c.loop-movement.nets.table.now in
    let nodes = nodes_of c.args.plan.now in
    let m = c.args.message.now in
    let at = c.loop-movement.reader.at in
    let seen = c.loop-movement.reader.seen in
    let i = c.loop-movement.invariant in
    let few : c.args.plan.now.len ≤ 16 = search rules in
    let o = read_none m c.loop-movement.reader.bytes.now i.2 at seen c.next.new.self.at c.next.new.self.seen c.in_ok-movement.field-0 c.in_default.is c.in_ok-movement.ensures.step in
    let d = reached_end nodes m s t at seen i.4 i.1 o in
    record {
      lender = i.0;
      same = i.1;
      refusal = ap fault_in (sym d.answer);
      added = reached_nets nodes m s t at seen i.4 i.1 (Ok i.4.movements) d (few-nodes c.args.plan.now few);
    }
