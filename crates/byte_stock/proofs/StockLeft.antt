-- From bytes to the stock over them. Assumes nothing.
--     sound_of                     what the type says of every stock
--     put_leaves, take_leaves      what a call leaves, told of the stock
--     found_in                     where a search finds a line, the line is of the row
--     none_in                      where it finds none, no line is
--     put_at, take_at              what a call leaves where a line is found, told of the row
--     next_of                      what is found after a row is what the stock's meaning answers
use Rattle.std.proofs.Common.{◌≡◌, ℕ, List, map, length, None, Some, Option, Result, sym, ap, ◌∙◌, subst}
use Rattle.std.specs.Option.{option_map}
use Rattle.bag.specs.Order.{Row}
use Rattle.bag.specs.declared.lines.StockLine.{StockLine}
use Rattle.stock.specs.Holding.{next_answer}
use Rattle.stock.specs.declared.fault.StockFault.{StockFault}
use Rattle.byte_stock.specs.declared.bytes.ByteStock.{ByteStock}
use Rattle.byte_stock.specs.ByteLines.{line_in, capacity_in}
use Rattle.byte_stock.specs.ByteStored.{line_of, place_of, line_after}
use Rattle.byte_stock.specs.ByteStocks.{stored, held, PutLeaves, TakeLeaves, PutLeavesAt, TakeLeavesAt}
use Rattle.byte_stock.proofs.ByteKept.{SoundLines, PutLeft, TakeLeft, LineAtPlace, found_at}
use Rattle.byte_stock.proofs.ByteNext.{next_read}

pub sound_of : (stock : ByteStock) → SoundLines stock.bytes.now stock.len
sound_of stock = record { room = stock.room; lawful = stock.lawful; apart = stock.apart; whole = stock.whole }

pub put_leaves : (old new : ByteStock) (s : ℕ) (r : Row) (n : ℕ) (x : Result (Unit {0}) StockFault) → PutLeft old.bytes.now old.len s r n x new.bytes.now new.len → PutLeaves old s r n x new
put_leaves old new s r n x m = record { answer = m.answer; after = m.after; lines = m.lines; bytes = m.bytes }

pub take_leaves : (old new : ByteStock) (s : ℕ) (r : Row) (n : ℕ) (x : Result (Unit {0}) StockFault) → TakeLeft old.bytes.now old.len s r n x new.bytes.now new.len → TakeLeaves old s r n x new
take_leaves old new s r n x m = record { answer = m.answer; after = m.after; lines = m.lines; bytes = m.bytes }

-- the line that a search finds is of the row that it was asked for
pub found_in : (stock : ByteStock) (chunks : List (List ℕ)) (s : ℕ) (r : Row) (i : ℕ) → map line_in chunks ≡ stored stock → Some i ≡ place_of s r (map line_in chunks) → LineAtPlace (stored stock) s r i
found_in stock chunks s r i e h = found_at s r (stored stock) i (ap (place_of s r) (sym e) ∙ sym h)

pub put_at : (old new : ByteStock) (s : ℕ) (r : Row) (n : ℕ) (x : Result (Unit {0}) StockFault) (i : ℕ) → LineAtPlace (stored old) s r i → PutLeavesAt old i n x new → PutLeaves old s r n x new
put_at old new s r n x i p h = subst (λ t. PutLeaves old t r n x new) p.shelf (subst (λ q. PutLeaves old (line_of (stored old) i).shelf q n x new) p.row h)

pub take_at : (old new : ByteStock) (s : ℕ) (r : Row) (n : ℕ) (x : Result (Unit {0}) StockFault) (i : ℕ) → LineAtPlace (stored old) s r i → TakeLeavesAt old i n x new → TakeLeaves old s r n x new
take_at old new s r n x i p h = subst (λ t. TakeLeaves old t r n x new) p.shelf (subst (λ q. TakeLeaves old (line_of (stored old) i).shelf q n x new) p.row h)

pub none_in : (stock : ByteStock) (chunks : List (List ℕ)) (s : ℕ) (r : Row) → map line_in chunks ≡ stored stock → None ≡ place_of s r (map line_in chunks) → place_of s r (stored stock) ≡ None
none_in stock chunks s r e h = ap (place_of s r) (sym e) ∙ sym h

pub next_of : (stock : ByteStock) (chunks : List (List ℕ)) (s : ℕ) (r : Row) (o : Option StockLine) → map line_in chunks ≡ stored stock → o ≡ line_after s r (map line_in chunks) →
    option_map (λ (l : StockLine). (l.row, l.count)) o ≡ next_answer (held stock) s r
next_of stock chunks s r o e h =
    ap (option_map (λ (l : StockLine). (l.row, l.count))) (h ∙ ap (line_after s r) e)
    ∙ sym (next_read s r (capacity_in (length stock.bytes.now)) (stored stock) stock.lawful stock.apart)
