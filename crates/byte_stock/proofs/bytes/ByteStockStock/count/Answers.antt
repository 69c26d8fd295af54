use Rattle.std.proofs.Common.{◌≡◌, ℕ, List, get_or, [], None, Some, Option, sym, ap, ◌∙◌, rules, arith}
use Rattle.bag.specs.declared.lines.StockLine.{StockLine}
use Rattle.stock.specs.Holding.{copies}
use Rattle.byte_stock.specs.ByteLines.{line_in}
use Rattle.byte_stock.specs.ByteStored.{place_of}
use Rattle.byte_stock.specs.ByteStocks.{stored, held}
use Rattle.byte_stock.proofs.ByteCalls.{line_read, count_found, count_none}
use Rattle.byte_stock.proofs.ByteKept.{found_at, length_stored}
use Rattle.byte_stock.proofs.StockLeft.{sound_of}
use Rattle.byte_stock.proofs.bytes.ByteStockStock.count.Goals.{After-map_or}
use Rattle.byte_stock.proofs.bytes.ByteStockStock.count.Goals as goal

abbrev count_at : List (List ℕ) → Option ℕ → ℕ
count_at lines None = 0
count_at lines (Some i) = (line_in (get_or lines i [])).count

counted : (c : After-map_or) (o : Option ℕ) → o ≡ place_of c.args.shelf c.args.row.now (stored c.args.self.now) → count_at c.stored-lines.result.now o ≡ copies (held c.args.self.now) c.args.shelf c.args.row.now
counted c None e = let stock = c.args.self.now in sym (count_none stock.bytes.now stock.len c.args.shelf c.args.row.now (sound_of stock) (sym e))
counted c (Some i) e =
    let stock = c.args.self.now in
    let there = found_at c.args.shelf c.args.row.now (stored stock) i (sym e) in
    let inside = there.inside in
    let n = length_stored stock.bytes.now stock.len in
    let m = c.stored-lines.ensures.count in
    ap (λ (l : StockLine). l.count) (line_read c.stored-lines.result.now (stored stock) i c.stored-lines.ensures.lines (omega arith))
    ∙ sym (count_found stock.bytes.now stock.len c.args.shelf c.args.row.now (sound_of stock) i (sym e))

pub returns : goal.returns
returns c =
    let found : c.map_or.result ≡ count_at c.stored-lines.result.now c.find.result = search rules in
    record { answer = found ∙ counted (goal.at.returns c).After-map_or c.find.result (c.find.ensures.place ∙ ap (place_of c.args.shelf c.args.row.now) c.stored-lines.ensures.lines) }
