-- Values worked out by hand, as equations that the measures' definitions meet. Assumes nothing.
--     fits_as M v zs          v fits, and shows the columns zs
--     does_not_fit M v        v does not fit
--     four_marks              four check marks side by side, two in two
--     WorkedValues            marks, sums at the bounds of what fits, measures side by side, nested and past eight columns
use Rattle.std.specs.Prelude.{◌≡◌, ℕ, List, [], ◌∷◌, ℤ, pos, negsuc, Some, None}
use Rattle.bag.specs.Columns.{padded}
use Rattle.bag.specs.Measure.{Measure}
use Rattle.measure.specs.Shown.{shown, read_from}
use Rattle.measure.specs.HeadCount.{head_count}
use Rattle.measure.specs.Sum.{sum}
use Rattle.measure.specs.CheckMark.{check_mark}
use Rattle.measure.specs.SideBySide.{side_by_side}

module _ {V : Type 0} (M : Measure V) where
  abbrev pub fits_as : V → List ℤ → Type 0
  fits_as v zs = shown M v ≡ Some (padded zs)

  abbrev pub does_not_fit : V → Type 0
  does_not_fit v = shown M v ≡ None

-- eight columns
abbrev pub four_marks : Measure ((ℕ × ℕ) × (ℕ × ℕ))
four_marks = side_by_side (side_by_side check_mark check_mark) (side_by_side check_mark check_mark)

pub record WorkedValues : Type 0 where
  -- 70,000 is 1 times 65,536 and 4,464
  pub mark_of_70000_once : fits_as check_mark (check_mark.worth (pos 70000) (pos 1)) (pos 1 ∷ pos 4464 ∷ [])
  pub mark_of_70000_taken : fits_as check_mark (check_mark.worth (pos 70000) (negsuc 0)) (pos 1 ∷ pos 4464 ∷ [])
  pub mark_of_5_twice : fits_as check_mark (check_mark.worth (pos 5) (pos 2)) (pos 0 ∷ pos 0 ∷ [])
  pub mark_of_minus_1 : fits_as check_mark (check_mark.worth (negsuc 0) (pos 1)) (pos 65535 ∷ pos 65535 ∷ [])
  pub mark_read_back : read_from check_mark (padded (pos 1 ∷ pos 4464 ∷ [])) ≡ 70000
  pub sum_at_the_top : fits_as sum (sum.worth (pos 2147483647) (pos 1)) (pos 2147483647 ∷ [])
  pub sum_past_the_top : does_not_fit sum (sum.group.plus (pos 2147483647) (pos 1))
  pub sum_at_the_bottom : fits_as sum (sum.worth (negsuc 2147483646) (pos 1)) (negsuc 2147483646 ∷ [])
  pub sum_past_the_bottom : does_not_fit sum (sum.group.plus (negsuc 2147483646) (negsuc 0))
  -- copies that are taken count negative: 3 times 7 less 2 times 7
  pub sum_of_7_taken : fits_as sum (sum.group.plus (sum.worth (pos 7) (pos 3)) (sum.worth (pos 7) (negsuc 1))) (pos 7 ∷ [])
  pub head_count_shows_nothing : fits_as head_count (head_count.worth (pos 9) (pos 4)) []
  -- the sum in front, then the two halves of the mark, also where another pair stands in it
  pub sum_beside_mark : fits_as (side_by_side sum check_mark) ((side_by_side sum check_mark).worth (pos 70000) (pos 3)) (pos 210000 ∷ pos 1 ∷ pos 4464 ∷ [])
  pub nested : fits_as (side_by_side head_count (side_by_side check_mark sum)) ((side_by_side head_count (side_by_side check_mark sum)).worth (pos 70000) (pos 3)) (pos 1 ∷ pos 4464 ∷ pos 210000 ∷ [])
  pub fits_only_if_both_fit : does_not_fit (side_by_side check_mark sum) ((side_by_side check_mark sum).worth (pos 2147483647) (pos 2))
  -- nine columns: the pair says eight, and shows the front of the nine
  pub nine_say_eight : (side_by_side sum four_marks).shows ≡ 8
  pub nine_show_eight : fits_as (side_by_side sum four_marks) ((side_by_side sum four_marks).worth (pos 70000) (pos 1)) (pos 70000 ∷ pos 1 ∷ pos 4464 ∷ pos 1 ∷ pos 4464 ∷ pos 1 ∷ pos 4464 ∷ pos 1 ∷ [])
