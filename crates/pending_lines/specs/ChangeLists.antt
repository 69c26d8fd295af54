-- Lists of changes by key, of which there are at most 64: where a key belongs, and what adding a change makes of them. Assumes nothing.
--     no_line                  a change of 0 at no key
--     with_change p xs         the change of the line p added to the others
--     rank xs k                how many changes stand before the first key that is not less than k
--     found_at xs k            the place of the change at the key k, or else the place where it would go in
--     has_place xs k           the key k has a line, or there is a free one
--     add_answer xs k          what adding a change at the key k is answered
--     after_add xs p           what it leaves: the others, where there is no place
--     changed_at xs i n        n more at place i; a change that comes to 0 is gone
--     IsCount z                z is from 0 to 65,535
--     IsNext f r answer        the smallest row greater than r where f is not 0, with its number, or none
use Rattle.std.specs.Prelude.{◌≡◌, ℕ, suc, Bool, false, cond, not, ◌||◌, [], ◌∷◌, ◌++◌, length, take, drop, ℤ, pos, ◌+ℤ◌, ◌≤ℤ◌, Some, None, Option, Ok, Err, Result, nat_lt, slice_index_or}
use Rattle.std.specs.declared.cmp.Ordering.TheVariants.{Less}
use Rattle.bag.specs.declared.lines.ChangeLine.{ChangeLine}
use Rattle.bag.specs.Order.{Row, row_order}
use Rattle.bag.specs.Bag.{Line, Lines, is_zero, count, with_line, add_copies, if_less}
use Rattle.table.specs.declared.full.Full.{Full}
use Rattle.settling.specs.Keys.{key_of}

-- what is read past the last line
abbrev pub no_line : Line
no_line = ([], pos 0)

abbrev pub with_change : ChangeLine → Lines → Lines
with_change p xs = add_copies (key_of p) p.change xs

unfoldable pub rank : Lines → Row → ℕ
rank [] k = 0
rank (e ∷ xs) k = if_less (row_order e.0 k) (suc (rank xs k)) 0

abbrev pub found_at : Lines → Row → Result ℕ ℕ
found_at xs k = cond (is_zero (count xs k)) (Err (rank xs k)) (Ok (rank xs k))

abbrev pub has_place : Lines → Row → Bool
has_place xs k = not (is_zero (count xs k)) || nat_lt (length xs) 64

abbrev pub add_answer : Lines → Row → Result (Unit {0}) Full
add_answer xs k = cond (has_place xs k) (Ok tt) (Err (record { places = 64 }))

abbrev pub after_add : Lines → ChangeLine → Lines
after_add xs p = cond (has_place xs (key_of p)) (with_change p xs) xs

abbrev pub changed_at : Lines → ℕ → ℤ → Lines
changed_at xs i n = take i xs ++ with_line (slice_index_or xs i no_line).0 (n +ℤ (slice_index_or xs i no_line).1) (drop (suc i) xs)

abbrev pub IsCount : ℤ → Type 0
IsCount z = (pos 0 ≤ℤ z) × (z ≤ℤ pos 65535)

abbrev pub IsNext : (Row → ℤ) → Row → Option Line → Type 0
IsNext f r (Some e) =
    (is_zero e.1 ≡ false) × (f e.0 ≡ e.1) × (row_order r e.0 ≡ Less)
    × ((q : Row) → row_order r q ≡ Less → row_order q e.0 ≡ Less → f q ≡ pos 0)
IsNext f r None = (q : Row) → row_order r q ≡ Less → f q ≡ pos 0
