use Rattle.std.proofs.Common.{◌/◌, length, take, map, ap, ◌∙◌, arith}
use Rattle.byte_stock.specs.ByteLines.{line_in}
use Rattle.byte_stock.proofs.ByteChunks.{take_chunks, lines_in_chunks}
use Rattle.byte_stock.proofs.bytes.ByteStock.stored.Goals as goal

pub returns-clause-lines : goal.returns-clause-lines
returns-clause-lines c =
    let stock = c.args.self.now in
    let b = stock.bytes.now in
    let fits = stock.room in
    ap (λ x. map line_in (take stock.len x)) c.as_chunks.ensures.front
    ∙ ap (map line_in) (take_chunks 35 stock.len (length b / 35) b (omega arith))
    ∙ lines_in_chunks b stock.len
