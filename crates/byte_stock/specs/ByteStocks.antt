-- What a stock in lent bytes means, what stands in its bytes, and what its calls leave. Assumes nothing.
--     stored, held, lent_bytes      the lines of a stock, what it means, and the name of its memory
--     lawful_held                   every stock means a lawful holding
--     SameMemory old new            the stock stands over the memory that it stood over, as long as it was
--     PutLeaves, TakeLeaves         all that a put and a take leave in memory, and what they answer
--     PutLeavesAt, TakeLeavesAt     the same where a line of the row is there
use Rattle.std.specs.Prelude.{◌≡◌, ℕ, length, Result}
use Rattle.std.proofs.Common.{arith}
use Rattle.std.proofs.lemmas.List.FromFn.{length-map-range_with_len}
use Rattle.bag.specs.Order.{Row}
use Rattle.stock.specs.declared.fault.StockFault.{StockFault}
use Rattle.byte_stock.specs.declared.bytes.ByteStock.{ByteStock}
use Rattle.stock.specs.Refusal.{told}
use Rattle.stock.specs.Holding.{Holding, LawfulHolding, put_answer, after_put, take_answer, after_take}
use Rattle.byte_stock.specs.ByteLines.{capacity_in, line_at, stored_in, padded}
use Rattle.byte_stock.specs.ByteStored.{Stored, line_of, holding_of, lines_after_put, lines_after_take}
use Rattle.byte_stock.specs.ByteLawful.{lawful_stored}

abbrev pub stored : ByteStock → Stored
stored stock = stored_in stock.len stock.bytes.now

abbrev pub held : ByteStock → Holding
held stock = holding_of (capacity_in (length stock.bytes.now)) (stored stock)

pub lawful_held : (stock : ByteStock) → LawfulHolding (held stock)
lawful_held stock =
    let n = length-map-range_with_len (line_at stock.bytes.now) 0 stock.len in
    let m = stock.room in
    lawful_stored (capacity_in (length stock.bytes.now)) (stored stock) stock.lawful stock.apart (omega arith) (omega arith)

abbrev pub lent_bytes : ByteStock → ℕ
lent_bytes stock = stock.bytes.ghost_name

pub record SameMemory (old new : ByteStock) : Type 0 where
  pub lender : lent_bytes new ≡ lent_bytes old
  pub long : length new.bytes.now ≡ length old.bytes.now

-- the bytes are as long as they were, and hold exactly the lines that the call makes of those before, and 00 behind them
pub record PutLeaves (old : ByteStock) (s : ℕ) (r : Row) (n : ℕ) (answered : Result (Unit {0}) StockFault) (new : ByteStock) : Type 0 where
  pub answer : told answered ≡ put_answer (held old) s r n
  pub after : held new ≡ after_put (held old) s r n
  pub lines : stored new ≡ lines_after_put (capacity_in (length old.bytes.now)) s r n (stored old)
  pub bytes : new.bytes.now ≡ padded (length old.bytes.now) (lines_after_put (capacity_in (length old.bytes.now)) s r n (stored old))

pub record TakeLeaves (old : ByteStock) (s : ℕ) (r : Row) (n : ℕ) (answered : Result (Unit {0}) StockFault) (new : ByteStock) : Type 0 where
  pub answer : told answered ≡ take_answer (held old) s r n
  pub after : held new ≡ after_take (held old) s r n
  pub lines : stored new ≡ lines_after_take (capacity_in (length old.bytes.now)) s r n (stored old)
  pub bytes : new.bytes.now ≡ padded (length old.bytes.now) (lines_after_take (capacity_in (length old.bytes.now)) s r n (stored old))

-- the same of the row of line i, on its shelf
abbrev pub PutLeavesAt : ByteStock → ℕ → ℕ → Result (Unit {0}) StockFault → ByteStock → Type 0
PutLeavesAt old i n answered new = PutLeaves old (line_of (stored old) i).shelf (line_of (stored old) i).row n answered new

abbrev pub TakeLeavesAt : ByteStock → ℕ → ℕ → Result (Unit {0}) StockFault → ByteStock → Type 0
TakeLeavesAt old i n answered new = TakeLeaves old (line_of (stored old) i).shelf (line_of (stored old) i).row n answered new
