-- The lines that a stock keeps in bytes, in the order in which they stand there, and what its calls make of them. Assumes nothing.
--     Stored                         lines in the order in which they stand
--     Apart ls                       no two lines are of the same shelf and row
--     bag_on s ls, shelves_of ls     the bag that the lines of shelf s make; those of the sixteen shelves
--     holding_of c ls                what the lines mean
--     has_key s r l                  the line is of row r on shelf s
--     comes_after s r l              the line is on shelf s, and its row is greater than r
--     place_of s r ls                the place of the line of row r on shelf s
--     nearer k l                     of two lines, the one with the smaller row
--     line_after s r ls              of the lines on shelf s with a row greater than r, the one with the smallest
--     added s r n ls                 n copies more: in the line that there is, or in a new line behind the last
--     freed i ls                     line i is gone, and the last line stands in its place
--     removed s r n ls               n copies less; a line without copies is freed
--     lines_after_put, lines_after_take      what a put and a take leave, refused ones too
use Rattle.std.specs.Prelude.{◌≡◌, ℕ, suc, ◌+◌, ◌-◌, ◌<◌, Bool, cond, ◌&&◌, List, [], ◌∷◌, ◌++◌, map, length, take, ℤ, pos, Some, None, Option, ◌==◌, slice_index_or, slice_set}
use Rattle.std.specs.List.{range_with_len, flat_map, filter, reduce}
use Rattle.std.specs.Option.{option_map}
use Rattle.std.specs.Ordering.{is_eq, is_lt, min_by_ordering}
use Rattle.bag.specs.Order.{Row, row_order}
use Rattle.bag.specs.Bag.{Lines, collect}
use Rattle.bag.specs.Lines.{blank_stock_line}
use Rattle.bag.specs.declared.lines.StockLine.{StockLine}
use Rattle.bag.specs.Refusal.{left_by}
use Rattle.stock.specs.Holding.{Holding, put_answer, take_answer}

abbrev pub Stored : Type 0
Stored = List StockLine

abbrev pub line_of : Stored → ℕ → StockLine
line_of ls i = slice_index_or ls i blank_stock_line

abbrev pub Apart : Stored → Type 0
Apart ls = (i j : ℕ) → i < length ls → j < length ls → (line_of ls i).shelf ≡ (line_of ls j).shelf → (line_of ls i).row ≡ (line_of ls j).row → i ≡ j

-- n copies of r on shelf s, as far as shelf t has them
abbrev pub put_on : ℕ → ℕ → Row → ℤ → Lines
put_on t s r n = cond (s == t) ((r, n) ∷ []) []

abbrev pub line_on : ℕ → StockLine → Lines
line_on t l = put_on t l.shelf l.row (pos l.count)

unfoldable pub bag_on : ℕ → Stored → Lines
bag_on t ls = collect (flat_map (line_on t) ls)

unfoldable pub shelves_of : Stored → List Lines
shelves_of ls = map (λ t. bag_on t ls) (range_with_len 0 16)

abbrev pub holding_of : ℕ → Stored → Holding
holding_of c ls = record { capacity = c; shelves = shelves_of ls }

abbrev pub has_key : ℕ → Row → StockLine → Bool
has_key s r l = l.shelf == s && is_eq (row_order l.row r)

abbrev pub comes_after : ℕ → Row → StockLine → Bool
comes_after s r l = l.shelf == s && is_lt (row_order r l.row)

unfoldable pub place_of : ℕ → Row → Stored → Option ℕ
place_of s r [] = None
place_of s r (l ∷ ls) = cond (has_key s r l) (Some 0) (option_map suc (place_of s r ls))

-- the first where the rows are the same
abbrev pub nearer : StockLine → StockLine → StockLine
nearer k l = min_by_ordering (row_order k.row l.row) k l

abbrev pub line_after : ℕ → Row → Stored → Option StockLine
line_after s r ls = reduce nearer (filter (comes_after s r) ls)

abbrev pub new_line : ℕ → Row → ℕ → StockLine
new_line s r n = record { shelf = s; row = r; count = n }

abbrev pub added_at : Option ℕ → ℕ → Row → ℕ → Stored → Stored
added_at (Some i) s r n ls = slice_set ls i (new_line s r ((line_of ls i).count + n))
added_at None s r n ls = cond (n == 0) ls (ls ++ new_line s r n ∷ [])

abbrev pub added : ℕ → Row → ℕ → Stored → Stored
added s r n ls = added_at (place_of s r ls) s r n ls

abbrev pub freed : ℕ → Stored → Stored
freed i ls = take (length ls - 1) (slice_set ls i (line_of ls (length ls - 1)))

abbrev pub removed_at : Option ℕ → ℕ → Row → ℕ → Stored → Stored
removed_at (Some i) s r n ls = cond ((line_of ls i).count == n) (freed i ls) (slice_set ls i (new_line s r ((line_of ls i).count - n)))
removed_at None s r n ls = ls

abbrev pub removed : ℕ → Row → ℕ → Stored → Stored
removed s r n ls = removed_at (place_of s r ls) s r n ls

abbrev pub lines_after_put : ℕ → ℕ → Row → ℕ → Stored → Stored
lines_after_put c s r n ls = left_by (put_answer (holding_of c ls) s r n) ls (added s r n ls)

abbrev pub lines_after_take : ℕ → ℕ → Row → ℕ → Stored → Stored
lines_after_take c s r n ls = left_by (take_answer (holding_of c ls) s r n) ls (removed s r n ls)
