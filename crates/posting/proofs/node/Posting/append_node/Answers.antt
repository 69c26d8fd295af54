use Rattle.std.proofs.Common.{◌≡◌, ◌+◌, ◌-◌, ◌<◌, ◌≤◌, ◌++◌, length, get_or, refl, ap, ◌∙◌, subst, arith, Ok}
use Rattle.std.proofs.lemmas.Result.{err_from_is_err_and}
use Rattle.plan.specs.Afresh.{afresh}
use Rattle.plan.specs.Plans.{nodes_of}
use Rattle.posting.specs.Changes.{Step}
use Rattle.posting.proofs.AfreshAt.{afresh_long}
use Rattle.posting.proofs.NodeSetting.{few_nodes}
use Rattle.posting.proofs.Stepped.{split_here, step_off, step_on}
use Rattle.posting.proofs.node.Posting.append_node.Goals as goal

pub returns-in_err-lines-clause-step : goal.returns-in_err-lines-clause-step
returns-in_err-lines-clause-step g c = λ ms net net' d k ready nets here reached.
    let M = g.M.Measure.model in
    let h = g.S.Stock.meaning c.args.self.now.stock.now in
    let law = g.S.Stock.lawful c.args.self.now.stock.now in
    let p = c.args.self.now.plan.now in
    let xs = nodes_of p in
    let news = afresh M xs net' in
    let sheet = c.args.sheet.now in
    let at = c.min-used.result in
    let long = afresh_long M xs net' in
    let many : length news ≤ 16 = omega (arith, long, few_nodes p) in
    let among : c.args.node < length news = omega (arith, long, here) in
    let lines = reached.lines in
    let x = get_or xs c.args.node d in
    let front = c.split_at_mut-done.result.0.now in
    let split = split_here M h news law.sixteen many sheet c.args.used c.args.node among x lines at c.min-used.ensures front c.split_at_mut-done.result.1.now c.split_at_mut-done.ensures.front c.split_at_mut-done.ensures.back in
    let left = c.in_err-lines.ensures.long ∙ split.left in
    let made = c.in_err-lines.ensures.wrote ms net net' d k ready nets here reached.lower split.done split.short split.blank in
    let f = c.in_err-lines.field-0.0 in
    let told = err_from_is_err_and c.from_residual.result c.from_residual.ensures.1 in
    let step = step_off M h news law.sixteen many sheet c.args.used c.args.node among x lines c.write_node.new.page left f made in
    rw (told.1, told.2) (step _)

pub returns-clause-step : goal.returns-clause-step
returns-clause-step g c = λ ms net net' d k ready nets here reached.
    let M = g.M.Measure.model in
    let h = g.S.Stock.meaning c.args.self.now.stock.now in
    let law = g.S.Stock.lawful c.args.self.now.stock.now in
    let p = c.args.self.now.plan.now in
    let xs = nodes_of p in
    let news = afresh M xs net' in
    let sheet = c.args.sheet.now in
    let at = c.min-used.result in
    let long = afresh_long M xs net' in
    let many : length news ≤ 16 = omega (arith, long, few_nodes p) in
    let among : c.args.node < length news = omega (arith, long, here) in
    let lines = reached.lines in
    let x = get_or xs c.args.node d in
    let front = c.split_at_mut-done.result.0.now in
    let split = split_here M h news law.sixteen many sheet c.args.used c.args.node among x lines at c.min-used.ensures front c.split_at_mut-done.result.1.now c.split_at_mut-done.ensures.front c.split_at_mut-done.ensures.back in
    let left = c.in_ok-lines.ensures.long ∙ split.left in
    let made = c.in_ok-lines.ensures.wrote ms net net' d k ready nets here reached.lower split.done split.short split.blank in
    let same = split.behind_used in
    let step = step_on M h news law.sixteen many sheet c.args.used c.args.node among x lines c.write_node.new.page left c.in_ok-lines.lines made (front ++ c.write_node.new.page) (ap (λ t. t ++ c.write_node.new.page) split.done) in
    let on = (step.lines (c.args.used + c.in_ok-lines.lines) refl).on_sheet in
    let many = on.many in
    let small = on.small in
    let whole : c.args.used + c.in_ok-lines.lines ≡ c.saturating_add.result = omega (arith, many, small, same, c.saturating_add.ensures) in
    subst (λ n. Step M h news (length sheet) c.args.used c.args.node x (front ++ c.write_node.new.page) (Ok n)) whole step
