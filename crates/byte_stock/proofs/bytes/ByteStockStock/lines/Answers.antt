use Rattle.std.proofs.Common.{sym, ◌∙◌}
use Rattle.byte_stock.specs.ByteStocks.{stored}
use Rattle.byte_stock.specs.ByteTally.{lines_are_length}
use Rattle.byte_stock.proofs.ByteKept.{length_stored}
use Rattle.byte_stock.proofs.bytes.ByteStockStock.lines.Goals as goal

pub returns : goal.returns
returns c =
    let stock = c.args.self.now in
    record { answer = sym (length_stored stock.bytes.now stock.len) ∙ sym (lines_are_length (stored stock) stock.lawful stock.apart) }
