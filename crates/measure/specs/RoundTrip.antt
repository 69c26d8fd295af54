-- The round trip of a measure's values through rows. Assumes nothing.
--     shown_again M v        what is read from the row that shows v, or none if v does not fit
--     if_it_fits M v         v, or none if it does not fit
--     RowOf M v row          what is owed of a row that shows v
--     RoundTrip ok M         each row that a value is shown in is such a row, and zero is shown
use Rattle.std.specs.Prelude.{◌≡◌, ℕ, ◌<◌, cond, negsuc, Some, None, Option, ◌≢◌}
use Rattle.bag.specs.Order.{Row}
use Rattle.bag.specs.Columns.{column_of, padded, OfWidth}
use Rattle.bag.specs.Measure.{Measure}
use Rattle.measure.specs.Shown.{shown, read_from}

module _ {V : Type 0} (M : Measure V) where
  abbrev pub shown_again : V → Option V
  shown_again v = cond (M.fits v) (Some (read_from M (padded (M.columns v)))) None

  abbrev pub if_it_fits : V → Option V
  if_it_fits v = cond (M.fits v) (Some v) None

pub record RowOf {V : Type 0} (M : Measure V) (v : V) (row : Row) : Type 0 where
  pub reads_back : read_from M row ≡ v
  -- eight columns, 0 in those from K on
  pub zero_behind : OfWidth M.shows row
  -- no column of the first K is −2,147,483,648
  pub never_lowest : (j : ℕ) → j < M.shows → column_of row j ≢ negsuc 2147483647

pub record RoundTrip {V : Type 0} (ok : V → Type 0) (M : Measure V) : Type 0 where
  pub of_each_value : (v : V) → ok v → (row : Row) → shown M v ≡ Some row → RowOf M v row
  pub zero_is_shown : shown M M.group.zero ≡ Some (padded (M.columns M.group.zero))
