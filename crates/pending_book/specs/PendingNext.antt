-- How a book finds the next row: it steps over the rows below and the pending lines together. It describes how a book works, not what
-- it means. Assumes nothing.
--     earlier_of a b             the smaller of two rows, where there are two
--     IsCandidate f g r found    the smallest row greater than r where f or g is not 0, or none
use Rattle.std.specs.Prelude.{◌≡◌, ℕ, false, ◌⊎◌, ℤ, pos, Some, None, Option}
use Rattle.std.specs.declared.cmp.Ordering.TheVariants.{Less}
use Rattle.bag.specs.Order.{Row, row_order}
use Rattle.bag.specs.Bag.{Line, is_zero, if_less}

abbrev pub earlier_of : Option (Row × ℕ) → Option Line → Option Row
earlier_of None None = None
earlier_of None (Some y) = Some y.0
earlier_of (Some x) None = Some x.0
earlier_of (Some x) (Some y) = if_less (row_order y.0 x.0) (Some y.0) (Some x.0)

abbrev pub IsCandidate : (Row → ℤ) → (Row → ℤ) → Row → Option Row → Type 0
IsCandidate f g r (Some p) =
    (row_order r p ≡ Less) × ((is_zero (f p) ≡ false) ⊎ (is_zero (g p) ≡ false))
    × ((q : Row) → row_order r q ≡ Less → row_order q p ≡ Less → (f q ≡ pos 0) × (g q ≡ pos 0))
IsCandidate f g r None = (q : Row) → row_order r q ≡ Less → (f q ≡ pos 0) × (g q ≡ pos 0)
