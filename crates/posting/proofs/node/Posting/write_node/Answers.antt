use Rattle.std.proofs.Common.{◌≡◌, [], get_or, sym, refl, ap, ◌∙◌, subst, rules}
use Rattle.std.proofs.lemmas.Result.{err_from_is_err_and}
use Rattle.plan.specs.Afresh.{board, afresh}
use Rattle.plan.specs.Plans.{nodes_of, widths_of}
use Rattle.delta.specs.Writing.{Written}
use Rattle.delta.specs.Changed.{NodeChange}
use Rattle.posting.specs.Faults.{fault_at}
use Rattle.posting.specs.Working.{groups_fit}
use Rattle.plan.proofs.Taken.{mapped_ok, mapped_err}
use Rattle.posting.proofs.Paged.{told_here, page_refused, page_told, told_or}
use Rattle.posting.proofs.node.Posting.write_node.Goals as goal

pub returns-in_err-map_err-clause-wrote : goal.returns-in_err-map_err-clause-wrote
returns-in_err-map_err-clause-wrote g c = λ ms net net' d k ready nets here lower done short blank.
    let M = g.M.Measure.model in
    let h = g.S.Stock.meaning c.args.self.now.stock.now in
    let xs = nodes_of c.args.self.now.plan.now in
    let news = afresh M xs net' in
    let x = get_or xs c.args.node d in
    let v = c.new-writer.result in
    let w = c.change_of_node.new.writer in
    let over = ap g.S.Stock.meaning c.new-writer.ensures.stock in
    let at = c.new-writer.ensures.node in
    let empty : Written g.S.Stock.meaning v [] = c.new-writer.ensures.none blank in
    let here_made =
    told_here g.S.Stock.meaning M xs (widths_of c.args.self.now.plan.now) (board ms) net net' h c.args.node d c.args.done.now v w c.change_of_node.result over at (λ r n l a. c.change_of_node.ensures.changed (board ms) ms net net' d k r nets refl n l a short empty) ready here lower done in
    let told = err_from_is_err_and c.from_residual.result c.from_residual.ensures.1 in
    let m = mapped_err c.change_of_node.result c.map_err.result _ c.map_err.ensures.cases c.in_err-map_err.field-0.0 c.in_err-map_err.was in
    let said = m.2 in
    let fault : c.in_err-map_err.field-0.0 ≡ fault_at c.args.node m.0 = search rules in
    let step = page_refused g.S.Stock.meaning M h news c.args.node x v w over at m.0 (subst (NodeChange g.S.Stock.meaning v w (board news c.args.node) (groups_fit M x news)) m.1 here_made) in
    rw (told.1, told.2, fault) (step _)

pub returns-clause-wrote : goal.returns-clause-wrote
returns-clause-wrote g c = λ ms net net' d k ready nets here lower done short blank.
    let M = g.M.Measure.model in
    let h = g.S.Stock.meaning c.args.self.now.stock.now in
    let xs = nodes_of c.args.self.now.plan.now in
    let news = afresh M xs net' in
    let x = get_or xs c.args.node d in
    let v = c.new-writer.result in
    let w = c.change_of_node.new.writer in
    let over = ap g.S.Stock.meaning c.new-writer.ensures.stock in
    let at = c.new-writer.ensures.node in
    let empty : Written g.S.Stock.meaning v [] = c.new-writer.ensures.none blank in
    let here_made =
    told_here g.S.Stock.meaning M xs (widths_of c.args.self.now.plan.now) (board ms) net net' h c.args.node d c.args.done.now v w c.change_of_node.result over at (λ r n l a. c.change_of_node.ensures.changed (board ms) ms net net' d k r nets refl n l a short empty) ready here lower done in
    let ok = mapped_ok c.change_of_node.result c.map_err.result _ c.map_err.ensures.cases tt c.in_ok-map_err.was in
    let step = page_told g.S.Stock.meaning M h news c.args.node x v w over at c.change_of_node.ensures.same (subst (NodeChange g.S.Stock.meaning v w (board news c.args.node) (groups_fit M x news)) ok here_made)
    c.lines.result (sym c.lines.ensures) c.ok_or.result (c.ok_or.ensures.value ∙ told_or c.args.node c.lines.result) in
    search rules
