-- What a stock means: a capacity and sixteen bags, and what its calls answer and leave. Assumes nothing.
--     Holding                        a capacity, which never changes, and the bags on shelves 0 to 15
--     shelf_of h s                   the bag on shelf s; a shelf above 15 is empty
--     copies h s r                   the count of the row r on shelf s
--     lines_on bags, lines_of h      how many lines there are: rows on shelves with a count above 0
--     next_answer h s r              the smallest row of shelf s greater than r, with its count, or none
--     with_copies h s r z            z more copies of r on shelf s; a row whose copies come to 0 is gone
--     put_answer, after_put          what putting n copies of r on shelf s is answered, and what it leaves
--     take_answer, after_take        the same of taking
--     empty_holding c                sixteen empty shelves
--     LawfulLine l                   a line on one of sixteen shelves, of a row, with a count from 1 to 65,535
--     LawfulHolding h                sixteen bags of such rows, counts up to 65,535, no more lines than the capacity, and that at most 4,096
use Rattle.std.specs.Prelude.{◌≡◌, ℕ, ◌+◌, ◌≤◌, Bool, cond, ◌&&◌, List, [], ◌∷◌, length, replicate, ℤ, pos, neg_ℤ, Ok, Err, Option, Result, ◌==◌, nat_lt, slice_index_or, slice_set, unsigned_abs}
use Rattle.std.specs.Option.{option_map}
use Rattle.bag.specs.declared.lines.StockLine.{StockLine}
use Rattle.bag.specs.Order.{Row}
use Rattle.bag.specs.Columns.{IsRow}
use Rattle.bag.specs.Bag.{Line, Lines, count, add_copies, next, IsBag, EachRow}
use Rattle.bag.specs.Refusal.{Refusal, refusal, left_by}

pub record Holding : Type 0 where
  pub capacity : ℕ
  pub shelves : List Lines

abbrev pub shelf_of : Holding → ℕ → Lines
shelf_of h s = slice_index_or h.shelves s []

-- the counts of a bag are above 0, so its absolute value is the count itself
abbrev pub copies : Holding → ℕ → Row → ℕ
copies h s r = unsigned_abs (count (shelf_of h s) r)

unfoldable pub lines_on : List Lines → ℕ
lines_on [] = 0
lines_on (bag ∷ bags) = length bag + lines_on bags

abbrev pub lines_of : Holding → ℕ
lines_of h = lines_on h.shelves

abbrev pub row_and_count : Line → Row × ℕ
row_and_count e = (e.0, unsigned_abs e.1)

abbrev pub next_answer : Holding → ℕ → Row → Option (Row × ℕ)
next_answer h s r = option_map row_and_count (next (shelf_of h s) r)

abbrev pub with_copies : Holding → ℕ → Row → ℤ → Holding
with_copies h s r z = record { capacity = h.capacity; shelves = slice_set h.shelves s (add_copies r z (shelf_of h s)) }

-- a new line is wanted, and there is no room for it
abbrev pub lacks_room : Holding → ℕ → Row → ℕ → Bool
lacks_room h s r n = nat_lt 0 n && (copies h s r == 0 && lines_of h == h.capacity)

abbrev pub put_answer : Holding → ℕ → Row → ℕ → Result (Unit {0}) Refusal
put_answer h s r n =
    cond (nat_lt 15 s) (Err (refusal 14 s))
    (cond (nat_lt 65535 (copies h s r + n)) (Err (refusal 6 s))
    (cond (lacks_room h s r n) (Err (refusal 9 h.capacity))
    (Ok tt)))

abbrev pub take_answer : Holding → ℕ → Row → ℕ → Result (Unit {0}) Refusal
take_answer h s r n =
    cond (nat_lt 15 s) (Err (refusal 14 s))
    (cond (nat_lt (copies h s r) n) (Err (refusal 5 s))
    (Ok tt))

abbrev pub after_put : Holding → ℕ → Row → ℕ → Holding
after_put h s r n = left_by (put_answer h s r n) h (with_copies h s r (pos n))

abbrev pub after_take : Holding → ℕ → Row → ℕ → Holding
after_take h s r n = left_by (take_answer h s r n) h (with_copies h s r (neg_ℤ (pos n)))

abbrev pub empty_holding : ℕ → Holding
empty_holding c = record { capacity = c; shelves = replicate 16 [] }

pub record LawfulHolding (h : Holding) : Type 0 where
  pub sixteen : length h.shelves ≡ 16
  pub bags : (s : ℕ) → IsBag (shelf_of h s)
  pub rows : (s : ℕ) → EachRow IsRow (shelf_of h s)
  pub counts : (s : ℕ) (r : Row) → copies h s r ≤ 65535
  pub room : lines_of h ≤ h.capacity
  pub small : h.capacity ≤ 4096

pub record LawfulLine (l : StockLine) : Type 0 where
  pub shelf : l.shelf ≤ 15
  pub row : IsRow l.row
  pub some : 1 ≤ l.count
  pub most : l.count ≤ 65535
