-- What holds of every two measures side by side, beyond the laws of a measure. Assumes nothing.
--     ShowsTheFirstThenTheSecond ok ok' A B      below eight columns, the columns of a pair that fits are the first's and then the second's
--     ShowsAsFarAsThereIsRoom ok ok' A B         the same as long as the first leaves room for a column; a row then shows the front eight
--                                                of them
use Rattle.std.specs.Prelude.{◌≡◌, ◌+◌, ◌<◌, true, ◌++◌}
use Rattle.bag.specs.Measure.{Measure}
use Rattle.measure.specs.SideBySide.{OkPair, side_by_side}

module _ {V W : Type 0} (ok : V → Type 0) (ok' : W → Type 0) (A : Measure V) (B : Measure W) where
  abbrev pub ShowsTheFirstThenTheSecond : Type 0
  ShowsTheFirstThenTheSecond = A.shows + B.shows < 8 → (v : V × W) → OkPair ok ok' v → (side_by_side A B).fits v ≡ true →
      (side_by_side A B).columns v ≡ A.columns v.0 ++ B.columns v.1

  abbrev pub ShowsAsFarAsThereIsRoom : Type 0
  ShowsAsFarAsThereIsRoom = A.shows < 8 → (v : V × W) → OkPair ok ok' v → (side_by_side A B).fits v ≡ true →
      (side_by_side A B).columns v ≡ A.columns v.0 ++ B.columns v.1
