-- A group of a total as code has it. It describes how code works, not what a total means. Assumes nothing.
--     IsGroup n k                   k is n values, and zeros behind
--     RoomForGroup M n              n values, the copies and what the measure shows fit into a row
--     row_if_fits M n k c v         the row of the group k of c copies and the value v, or none if the value does not fit
--     row_if_there M n k c v        the same, and none if there are no copies
--     one_of r                      one copy of a row, or no line
--     plus_if_equal G o v w         v with w added to it, if the rows compared are equal
--     ValuesOf M j is d xs vs       to each group of xs, in order, stands its value over the change d
use Rattle.std.specs.Prelude.{◌≡◌, ℕ, ◌+◌, ◌<◌, ◌≤◌, cond, List, [], ◌∷◌, length, get_or, take, ℤ, pos, Some, None, Option, slice_index_or}
use Rattle.std.specs.declared.cmp.Ordering.TheVariants.{Less, Equal, Greater}
use Rattle.std.specs.declared.cmp.Ordering.{Ordering}
use Rattle.bag.specs.Order.{Row}
use Rattle.bag.specs.Columns.{padded}
use Rattle.bag.specs.Bag.{Line, Lines, is_zero}
use Rattle.bag.specs.Group.{Group}
use Rattle.bag.specs.Measure.{Measure}
use Rattle.bag.specs.Operators.{total_row, total_value}

abbrev pub IsGroup : ℕ → Row → Type 0
IsGroup n k = (length (take n k) ≡ n) × (k ≡ padded (take n k))

abbrev pub one_of : Option Row → Lines
one_of None = []
one_of (Some r) = (r, pos 1) ∷ []

abbrev pub plus_if_equal : {V : Type 0} → Group V → Ordering → V → V → V
plus_if_equal G Less v w = v
plus_if_equal G Equal v w = G.plus v w
plus_if_equal G Greater v w = v

module _ {V : Type 0} (M : Measure V) where
  abbrev pub RoomForGroup : ℕ → Type 0
  RoomForGroup n = n + 1 + M.shows ≤ 8

  abbrev pub row_if_fits : ℕ → Row → ℤ → V → Option Row
  row_if_fits n k c v = cond (M.fits v) (Some (total_row M n k c v)) None

  abbrev pub row_if_there : ℕ → Row → ℤ → V → Option Row
  row_if_there n k c v = cond (is_zero c) None (row_if_fits n k c v)

  abbrev pub ValuesOf : ℕ → List ℕ → Lines → Lines → List V → Type 0
  ValuesOf j is d xs vs = (i : ℕ) (e : Line) (z : V) → i < length xs → slice_index_or vs i z ≡ total_value M j is d (get_or xs i e).0
