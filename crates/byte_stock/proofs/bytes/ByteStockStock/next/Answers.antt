use Rattle.std.proofs.Common.{◌∙◌}
use Rattle.byte_stock.proofs.StockLeft.{next_of}
use Rattle.byte_stock.proofs.bytes.ByteStockStock.next.Goals as goal

pub returns-in_err-line : goal.returns-in_err-line
returns-in_err-line c = record { answer = c.from_residual.ensures ∙ next_of c.args.self.now c.stored.result.now c.args.shelf c.args.row.now _ c.stored.ensures.lines c.in_err-line.ensures }

pub returns : goal.returns
returns c = record { answer = next_of c.args.self.now c.stored.result.now c.args.shelf c.args.row.now _ c.stored.ensures.lines c.in_ok-line.ensures }
