-- Lines of a stock as bytes: a line is 35 bytes, its shelf, its eight columns and its count, numbers with the highest byte first
-- (big-endian). Assumes nothing.
--     four_at b p, two_at b p     the numbers that stand in four and in two bytes from place p on
--     line_bytes l                a line as bytes
--     layout ls                   lines as bytes, one behind the other
--     padded n ls                 the same, followed by 00 up to n bytes
--     row_at b p, line_at b i     the row from place p on; the line at place i among the lines
--     line_in b                   the line that the bytes b begin with
--     stored_in n b               the first n lines
--     capacity_in n               how many lines fit into n bytes: whole lines of 35 bytes, at most 4,096
--     laid b at xs                b with the bytes xs from place `at` on, and all else as it was
--     freed_bytes b i used        line i overwritten by the last of the used lines, and the place of that line blank
use Rattle.std.specs.Prelude.{ℕ, ◌+◌, ◌-◌, ◌*◌, ◌/◌, min, List, [], ◌∷◌, ◌++◌, map, length, take, drop, replicate, ℤ, slice_index}
use Rattle.std.proofs.Common.{to_z}
use Rattle.std.specs.Int.{w32}
use Rattle.std.specs.List.{flat_map, range_with_len}
use Rattle.bag.specs.Bytes.{in_four, in_two}
use Rattle.bag.specs.Order.{Row}
use Rattle.bag.specs.declared.lines.StockLine.{StockLine}

abbrev pub four_at : List ℕ → ℕ → ℤ
four_at b p = to_z w32 (slice_index b p * 16777216 + slice_index b (p + 1) * 65536 + slice_index b (p + 2) * 256 + slice_index b (p + 3))

abbrev pub two_at : List ℕ → ℕ → ℕ
two_at b p = slice_index b p * 256 + slice_index b (p + 1)

unfoldable pub line_bytes : StockLine → List ℕ
line_bytes l = l.shelf ∷ (flat_map in_four l.row ++ in_two l.count)

unfoldable pub layout : List StockLine → List ℕ
layout [] = []
layout (l ∷ ls) = line_bytes l ++ layout ls

abbrev pub padded : ℕ → List StockLine → List ℕ
padded n ls = layout ls ++ replicate (n - 35 * length ls) 0

unfoldable pub row_at : List ℕ → ℕ → Row
row_at b p =
    four_at b p ∷ four_at b (p + 4) ∷ four_at b (p + 8) ∷ four_at b (p + 12) ∷ four_at b (p + 16) ∷ four_at b (p + 20) ∷ four_at b (p + 24) ∷ four_at b (p + 28) ∷ []

unfoldable pub line_at : List ℕ → ℕ → StockLine
line_at b i = record { shelf = slice_index b (35 * i); row = row_at b (35 * i + 1); count = two_at b (35 * i + 33) }

abbrev pub line_in : List ℕ → StockLine
line_in b = line_at b 0

abbrev pub stored_in : ℕ → List ℕ → List StockLine
stored_in n b = map (line_at b) (range_with_len 0 n)

abbrev pub capacity_in : ℕ → ℕ
capacity_in n = min (n / 35) 4096

unfoldable pub laid : List ℕ → ℕ → List ℕ → List ℕ
laid b at xs = take at b ++ (xs ++ drop (at + length xs) b)

-- the last of `used` lines written over line i, and its own place blank
unfoldable pub freed_bytes : List ℕ → ℕ → ℕ → List ℕ
freed_bytes b i used = laid (laid b (35 * i) (line_bytes (line_at b (used - 1)))) (35 * (used - 1)) (replicate 35 0)
