use Rattle.std.proofs.Common.{pos, ◌+ℤ◌, sym, ap, ◌∙◌}
use lib.Signed.{lt_z}
use Rattle.bag.specs.Bag.{count}
use Rattle.stock.specs.Holding.{shelf_of}
use Rattle.stock.proofs.Accepted.{count_is_copies}
use Rattle.delta.proofs.Counts.{sum_is, over_is}
use Rattle.delta.proofs.writer.is_over.Goals as goal

pub returns : goal.returns
returns g c =
    let h = g.S.Stock.meaning c.args.stock.now in
    let is = count_is_copies h (g.S.Stock.lawful c.args.stock.now) c.args.node c.args.row.now in
    ap (lt_z (pos 65535)) (sum_is c.count.result c.args.change c.count.type_inv c.ranges.change ∙ ap (λ x. x +ℤ c.args.change) (ap pos c.count.ensures.answer ∙ sym is))
    ∙ over_is (count (shelf_of h c.args.node) c.args.row.now +ℤ c.args.change)
