-- What a measure's value looks like in a row of eight columns, and what is read from such a row. Assumes nothing.
--     shown M v           the value's columns in front and 0 behind them, or none if it does not fit
--     read_from M row     the value that the first K columns of a row are read back as
use Rattle.std.specs.Prelude.{cond, take, Some, None, Option}
use Rattle.bag.specs.Order.{Row}
use Rattle.bag.specs.Columns.{padded}
use Rattle.bag.specs.Measure.{Measure}

module _ {V : Type 0} (M : Measure V) where
  abbrev pub shown : V → Option Row
  shown v = cond (M.fits v) (Some (padded (M.columns v))) None

  abbrev pub read_from : Row → V
  read_from row = M.reads (take M.shows row)
