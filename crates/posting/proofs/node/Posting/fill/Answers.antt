use Rattle.std.proofs.Common.{◌≡◌, ◌<◌, length, get_or, Ok, Err, sym, refl, ◌∙◌, subst, arith}
use Rattle.std.proofs.lemmas.Result.{err_from_is_err_and}
use Rattle.plan.specs.declared.node.Node.TheVariants.{Base}
use Rattle.plan.specs.Afresh.{board, afresh}
use Rattle.plan.specs.Plans.{nodes_of, widths_of}
use Rattle.posting.specs.Changes.{Reached, Step}
use Rattle.posting.proofs.NodeSetting.{few_nodes}
use Rattle.posting.proofs.PlanStep.{plan_more, judged_more, judged_refused, reached_none, reached_all}
use Rattle.posting.proofs.node.Posting.fill.Goals as goal

pub loop-node-init : goal.loop-node-init
loop-node-init g c = (
  refl,
  λ ms net net' k ready nets on.
      (reached_none g.M.Measure.model (nodes_of c.args.self.now.plan.now) (widths_of c.args.self.now.plan.now) (g.S.Stock.meaning c.args.self.now.stock.now) net' (length c.args.sheet.now) c.args.sheet.now on, refl),
)

pub returns-in_err-used-clause-worked : goal.returns-in_err-used-clause-worked
returns-in_err-used-clause-worked g c = λ ms net net' k ready nets on.
    let M = g.M.Measure.model in
    let h = g.S.Stock.meaning c.args.self.now.stock.now in
    let p = c.args.self.now.plan.now in
    let xs = nodes_of p in
    let ws = widths_of p in
    let news = afresh M xs net' in
    let room = length c.args.sheet.now in
    let few = few_nodes p in
    let n = c.loop-node.node in
    let used = c.loop-node.used in
    let long = c.loop-node.invariant.0 in
    let inv = c.loop-node.invariant.1 ms net net' k ready nets on in
    let here : n < length xs = omega (arith, c.loop-node-test.true, c.len-node-end.ensures.answer, few) in
    let x = get_or xs n (Base 0) in
    let made : Step M h news room used n x c.append_node.new.sheet (Err c.in_err-used.field-0.0) =
    subst (λ r. Step M h news r used n x c.append_node.new.sheet (Err c.in_err-used.field-0.0)) long
    (c.in_err-used.ensures.step ms net net' (Base 0) k ready nets here (subst (λ r. Reached ws h news n r c.loop-node.sheet used) (sym long) inv.0)) in
    let f = c.in_err-used.field-0.0 in
    let told = err_from_is_err_and c.from_residual.result c.from_residual.ensures.1 in
    let worked = judged_refused M xs h net' room used n here c.append_node.new.sheet f made inv.1 in
    rw (told.1, told.2) worked

pub loop-node-preserved : goal.loop-node-preserved
loop-node-preserved g c = (
  c.in_ok-used.ensures.long ∙ c.loop-node.invariant.0,
  λ ms net net' k ready nets on.
      let M = g.M.Measure.model in
      let L = g.met.M.Measure.lawful in
      let h = g.S.Stock.meaning c.args.self.now.stock.now in
      let law = g.S.Stock.lawful c.args.self.now.stock.now in
      let p = c.args.self.now.plan.now in
      let xs = nodes_of p in
      let ws = widths_of p in
      let news = afresh M xs net' in
      let room = length c.args.sheet.now in
      let few = few_nodes p in
      let n = c.loop-node.node in
      let used = c.loop-node.used in
      let long = c.loop-node.invariant.0 in
      let inv = c.loop-node.invariant.1 ms net net' k ready nets on in
      let here : n < length xs = omega (arith, c.loop-node-test.true, c.len-node-end.ensures.answer, few) in
      let x = get_or xs n (Base 0) in
      let made : Step M h news room used n x c.append_node.new.sheet (Ok c.in_ok-used.used) =
      subst (λ r. Step M h news r used n x c.append_node.new.sheet (Ok c.in_ok-used.used)) long
      (c.in_ok-used.ensures.step ms net net' (Base 0) k ready nets here (subst (λ r. Reached ws h news n r c.loop-node.sheet used) (sym long) inv.0)) in (
        plan_more M L p k h law (board ms) net net' few ready n here room c.loop-node.sheet used inv.0 c.append_node.new.sheet (Ok c.in_ok-used.used) made c.in_ok-used.used refl,
        sym (judged_more M xs h net' room used n here c.append_node.new.sheet c.in_ok-used.used made) ∙ inv.1,
      ),
)

pub returns-clause-worked : goal.returns-clause-worked
returns-clause-worked g c = λ ms net net' k ready nets on.
    let M = g.M.Measure.model in
    let h = g.S.Stock.meaning c.args.self.now.stock.now in
    let law = g.S.Stock.lawful c.args.self.now.stock.now in
    let p = c.args.self.now.plan.now in
    let xs = nodes_of p in
    let ws = widths_of p in
    let room = length c.args.sheet.now in
    let few = few_nodes p in
    let n = c.loop-node.node in
    let used = c.loop-node.used in
    let long = c.loop-node.invariant.0 in
    let inv = c.loop-node.invariant.1 ms net net' k ready nets on in
    reached_all M xs ws h net' room c.loop-node.sheet used n (omega (arith, c.loop-node-test.false, c.len-node-end.ensures.answer, c.loop-node.auto.node-end, few)) law.sixteen few inv.0 inv.1
