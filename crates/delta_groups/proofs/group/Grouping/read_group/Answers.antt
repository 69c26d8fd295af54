use Rattle.std.proofs.Common.{length, ap, ◌∙◌, sym, arith}
use Rattle.bag.specs.Bag.{next}
use Rattle.bag.specs.Propagation.{below_group}
use Rattle.stock.specs.Holding.{next_answer, shelf_of}
use Rattle.delta_groups.proofs.GroupRows.{read_some}
use Rattle.delta_groups.proofs.group.Grouping.read_group.Goals as goal

pub returns : goal.returns
returns g c room key =
    let h = g.S.Stock.meaning c.args.stock.now in
    let width = length c.args.self.now.columns.now in
    read_some g.M.Measure.model width c.args.group.now (next (shelf_of h c.args.node) (below_group width c.args.group.now)) c.in-Some.found c.read_row.result
    (sym c.in-Some.is ∙ c.next.ensures.answer ∙ ap (next_answer h c.args.node) (c.below.ensures (omega arith))) (λ m. c.read_row.ensures m room key)
