use Rattle.std.proofs.Common.{◌≡◌, ◌<◌, min, List, [], length, take, Ok, Err, Result, sym, refl, ap, ◌∙◌, arith, length-set, rules}
use Rattle.std.proofs.ByRecursion.{All-from_get_or}
use Rattle.std.proofs.lemmas.List.{take_more_set}
use Rattle.std.proofs.lemmas.Result.{err_from_is_err_and}
use Rattle.bag.specs.Bytes.{Bytes}
use Rattle.plan.specs.Refusal.{cause_number, fault_at}
use Rattle.plan.specs.declared.fault.Cause.TheVariants.{Nodes}
use Rattle.plan.specs.declared.fault.PlanFault.{PlanFault}
use Rattle.plan.specs.declared.node.Node.{Node}
use Rattle.plan.specs.Lawful.{width}
use Rattle.plan.specs.Check.{node, nodes, checked}
use Rattle.plan.proofs.Breaks.{plan_or_broken}
use Rattle.plan.proofs.Growth.{lawful_none, widths_none, grown_lawful, grown_wide}
use Rattle.plan.proofs.Nodes.{node_was}
use Rattle.plan.proofs.Shown.{checked_kept}
use Rattle.plan.proofs.Taken.{after, after_none, checked_is, checked_none, nodes_full, nodes_stop, step_again, end_again, mapped_ok, mapped_err}
use Rattle.plan.proofs.plan.Plan.check.Goals as goal

pub loop-fields-init : goal.loop-fields-init
loop-fields-init c =
    let k = c.min-showing.result in
    let b = c.args.bytes.now in
    let z : 0 < length b = search rules in
    record {
      few = omega arith;
      node_places = refl;
      width_places = refl;
      fit = lawful_none k;
      wide = sym (widths_none k);
      some = omega arith;
      left = after_none (nodes 16 k 0 [] b) ∙ sym (checked_is k b z);
    }

abbrev refused : PlanFault → Result (List Node) PlanFault
refused f = Err f

pub returns-then-is_empty : goal.returns-then-is_empty
returns-then-is_empty c =
    let b = c.args.bytes.now in
    let z : length b ≡ 0 = search rules in
    let h : Bytes b = All-from_get_or _ b 0 (λ i m. search rules) in
    let a = sym (checked_none c.args.shown b z) in
    record { answer = a; meaning = plan_or_broken c.args.shown b (refused (fault_at 0 Nodes)) h a; shown = tt }

pub returns-then-len-ge16 : goal.returns-then-len-ge16
returns-then-len-ge16 c =
    let l = c.loop-fields in
    let k = c.min-showing.result in
    let b = c.args.bytes.now in
    let z : k ≡ min c.args.shown 8 = c.min-showing.ensures in
    let r : 0 < length l.fields.rest.now = search rules in
    let few = l.invariant.few in
    let s = nodes_full k l.len (take l.len l.widths) l.fields.rest.now (omega arith) r in
    let a = sym (ap (after (take l.len l.nodes)) s) ∙ (l.invariant.left ∙ (ap (λ n. checked n b) z ∙ checked_kept c.args.shown b)) in
    let h : Bytes b = All-from_get_or _ b 0 (λ i m. search rules) in
    record { answer = a; meaning = plan_or_broken c.args.shown b (refused (fault_at 16 Nodes)) h a; shown = tt }

pub returns-in_err-node : goal.returns-in_err-node
returns-in_err-node c =
    let l = c.loop-fields in
    let k = c.min-showing.result in
    let b = c.args.bytes.now in
    let z : k ≡ min c.args.shown 8 = c.min-showing.ensures in
    let p = err_from_is_err_and c.from_residual.result c.from_residual.ensures.1 in
    let m = mapped_err c.node.result c.map_err.result _ c.map_err.ensures.cases c.in_err-node.field-0.0 c.in_err-node.was in
    let told = m.2 in
    let f : c.in_err-node.field-0.0 ≡ fault_at l.len m.0 = search rules in
    let e : c.from_residual.result ≡ Err (fault_at l.len m.0) = p.1 ∙ ap Err (p.2 ∙ f) in
    let n : node k (take l.len l.widths) l.fields.rest.now ≡ Err (cause_number m.0) = rw m.1 at c.node.ensures in
    let r : 0 < length l.fields.rest.now = search rules in
    let s = nodes_stop k l.len (take l.len l.widths) l.fields.rest.now (cause_number m.0) (omega arith) r n in
    let a = sym (ap (after (take l.len l.nodes)) s) ∙ (l.invariant.left ∙ (ap (λ n. checked n b) z ∙ checked_kept c.args.shown b)) in
    let h : Bytes b = All-from_get_or _ b 0 (λ i m. search rules) in
    record { answer = rw e a; meaning = rw e (plan_or_broken c.args.shown b (refused (fault_at l.len m.0)) h a); shown = rw e tt }

pub width-width-requires : goal.width-width-requires
width-width-requires c =
    let l = c.loop-fields in
    let m = mapped_ok c.node.result c.map_err.result _ c.map_err.ensures.cases c.in_ok-node.node c.in_ok-node.was in
    let e : node c.min-showing.result (take l.len l.widths) l.fields.rest.now ≡ Ok (c.in_ok-node.node, c.node.new.fields.rest.now) = rw m at c.node.ensures in
    (node_was c.min-showing.result (take l.len l.widths) l.fields.rest.now c.in_ok-node.node c.node.new.fields.rest.now e).fit

pub loop-fields-preserved : goal.loop-fields-preserved
loop-fields-preserved c =
    let l = c.loop-fields in
    let i = l.invariant in
    let x = c.in_ok-node.node in
    let left = c.node.new.fields.rest.now in
    let w = c.width-width.result in
    let k = c.min-showing.result in
    let ws = take l.len l.widths in
    let m = mapped_ok c.node.result c.map_err.result _ c.map_err.ensures.cases x c.in_ok-node.was in
    let e : node k ws l.fields.rest.now ≡ Ok (x, left) = rw m at c.node.ensures in
    let v : w ≡ width k ws x = c.width-width.ensures in
    let g = node_was k ws l.fields.rest.now x left e in
    let ln : l.len < length l.nodes = omega (arith, i.node_places) in
    let lw : l.len < length l.widths = omega (arith, i.width_places) in
    let r : 0 < length l.fields.rest.now = search rules in
    let s = step_again k l.len (take l.len l.nodes) ws l.fields.rest.now x left w (omega arith) r e v in
    record {
      few = omega arith;
      node_places = length-set l.nodes l.len x ∙ i.node_places;
      width_places = length-set l.widths l.len w ∙ i.width_places;
      fit = grown_lawful k l.nodes l.widths l.len x w ln lw i.wide i.fit g.fit;
      wide = grown_wide k l.nodes l.widths l.len x w ln lw i.wide v;
      some = omega arith;
      left = rw (take_more_set l.nodes l.len x ln, take_more_set l.widths l.len w lw) (s ∙ i.left);
    }

pub returns : goal.returns
returns c =
    let l = c.loop-fields in
    let k = c.min-showing.result in
    let b = c.args.bytes.now in
    let z : k ≡ min c.args.shown 8 = c.min-showing.ensures in
    let r : length l.fields.rest.now ≡ 0 = search rules in
    let s = end_again k l.len (take l.len l.nodes) (take l.len l.widths) l.fields.rest.now r in
    let a = sym s ∙ (l.invariant.left ∙ (ap (λ n. checked n b) z ∙ checked_kept c.args.shown b)) in
    let h : Bytes b = All-from_get_or _ b 0 (λ i m. search rules) in
    record { answer = a; meaning = plan_or_broken c.args.shown b (Ok (take l.len l.nodes)) h a; shown = z }
