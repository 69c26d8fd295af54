use Rattle.std.proofs.Common.{◌≡◌, arith}
use Rattle.stock.specs.Holding.{lines_of}
use Rattle.ordered_stock.specs.Ordered.{held}
use Rattle.ordered_stock.proofs.SoundOrdered.{lines_held}
use Rattle.ordered_stock.proofs.ordered.OrderedStockStock.lines.Goals as goal

pub returns : goal.returns
returns c =
    let stock = c.args.self.now in
    let len = c.len.ensures.answer in
    let low = c.min.ensures in
    let n = lines_held stock.table stock.lines in
    let r = stock.holding.room in
    let l : c.min.result ≡ lines_of (held stock) = omega arith in
    record { answer = l }
