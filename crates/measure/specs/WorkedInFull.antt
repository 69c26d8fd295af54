-- The values worked out by hand once more, and some more, with all columns that a measure shows. Assumes nothing.
--     fits_in_full M v zs     v fits, and shows the columns zs, K of them
--     WorkedValuesInFull      marks, sums at the bounds of what fits, measures side by side, nested and past eight columns
use Rattle.std.specs.Prelude.{◌≡◌, List, [], ◌∷◌, length, ℤ, pos, negsuc}
use Rattle.bag.specs.Columns.{padded}
use Rattle.bag.specs.Measure.{Measure}
use Rattle.measure.specs.Shown.{read_from}
use Rattle.measure.specs.HeadCount.{head_count}
use Rattle.measure.specs.Sum.{sum}
use Rattle.measure.specs.CheckMark.{check_mark}
use Rattle.measure.specs.SideBySide.{side_by_side}
use Rattle.measure.specs.WorkedValues.{fits_as, does_not_fit, four_marks}

abbrev pub fits_in_full : {V : Type 0} → Measure V → V → List ℤ → Type 0
fits_in_full M v zs = fits_as M v zs × (length zs ≡ M.shows)

pub record WorkedValuesInFull : Type 0 where
  -- 70,000 is 1 times 65,536 and 4,464
  pub mark_of_70000_once : fits_in_full check_mark (check_mark.worth (pos 70000) (pos 1)) (pos 1 ∷ pos 4464 ∷ [])
  pub mark_of_70000_taken : fits_in_full check_mark (check_mark.worth (pos 70000) (negsuc 0)) (pos 1 ∷ pos 4464 ∷ [])
  pub mark_of_5_twice : fits_in_full check_mark (check_mark.worth (pos 5) (pos 2)) (pos 0 ∷ pos 0 ∷ [])
  -- copies that are taken cancel as well
  pub mark_of_5_taken_twice : fits_in_full check_mark (check_mark.worth (pos 5) (negsuc 1)) (pos 0 ∷ pos 0 ∷ [])
  -- the smallest number's pattern has the highest bit alone
  pub mark_of_the_smallest : fits_in_full check_mark (check_mark.worth (negsuc 2147483647) (pos 1)) (pos 32768 ∷ pos 0 ∷ [])
  pub mark_of_minus_1 : fits_in_full check_mark (check_mark.worth (negsuc 0) (pos 1)) (pos 65535 ∷ pos 65535 ∷ [])
  pub mark_read_back : read_from check_mark (padded (pos 1 ∷ pos 4464 ∷ [])) ≡ 70000
  pub sum_at_the_top : fits_in_full sum (sum.worth (pos 2147483647) (pos 1)) (pos 2147483647 ∷ [])
  pub sum_past_the_top : does_not_fit sum (sum.group.plus (pos 2147483647) (pos 1))
  pub sum_at_the_bottom : fits_in_full sum (sum.worth (negsuc 2147483646) (pos 1)) (negsuc 2147483646 ∷ [])
  pub sum_past_the_bottom : does_not_fit sum (sum.group.plus (negsuc 2147483646) (negsuc 0))
  -- copies that are taken count negative: 3 times 7 less 2 times 7
  pub sum_of_7_taken : fits_in_full sum (sum.group.plus (sum.worth (pos 7) (pos 3)) (sum.worth (pos 7) (negsuc 1))) (pos 7 ∷ [])
  pub sum_of_the_smallest : does_not_fit sum (sum.worth (negsuc 2147483647) (pos 1))
  -- 2^63 − 1 and 1 are −2^63, and 4 times 2^62 + 1 is 4: modulo 2^64
  pub sum_wraps : sum.group.plus (pos 9223372036854775807) (pos 1) ≡ negsuc 9223372036854775807
  pub sum_of_copies_wraps : fits_in_full sum (sum.worth (pos 4) (pos 4611686018427387905)) (pos 4 ∷ [])
  pub head_count_shows_nothing : fits_in_full head_count (head_count.worth (pos 9) (pos 4)) []
  -- the sum in front, then the two halves of the mark, also where another pair stands in it
  pub sum_beside_mark : fits_in_full (side_by_side sum check_mark) ((side_by_side sum check_mark).worth (pos 70000) (pos 3)) (pos 210000 ∷ pos 1 ∷ pos 4464 ∷ [])
  -- the smallest number and 1: each part by itself, −2,147,483,648 does not fit and −2,147,483,647 does
  pub smallest_beside : does_not_fit (side_by_side sum check_mark) ((side_by_side sum check_mark).worth (negsuc 2147483647) (pos 1))
  pub smallest_and_1_beside :
      fits_in_full (side_by_side sum check_mark) ((side_by_side sum check_mark).group.plus ((side_by_side sum check_mark).worth (negsuc 2147483647) (pos 1)) ((side_by_side sum check_mark).worth (pos 1) (pos 1)))
      (negsuc 2147483646 ∷ pos 32768 ∷ pos 1 ∷ [])
  pub nested : fits_in_full (side_by_side head_count (side_by_side check_mark sum)) ((side_by_side head_count (side_by_side check_mark sum)).worth (pos 70000) (pos 3)) (pos 1 ∷ pos 4464 ∷ pos 210000 ∷ [])
  pub fits_only_if_both_fit : does_not_fit (side_by_side check_mark sum) ((side_by_side check_mark sum).worth (pos 2147483647) (pos 2))
  -- nine columns: the pair says eight, and shows the front of the nine
  pub nine_say_eight : (side_by_side sum four_marks).shows ≡ 8
  pub nine_show_eight : fits_in_full (side_by_side sum four_marks) ((side_by_side sum four_marks).worth (pos 70000) (pos 1)) (pos 70000 ∷ pos 1 ∷ pos 4464 ∷ pos 1 ∷ pos 4464 ∷ pos 1 ∷ pos 4464 ∷ pos 1 ∷ [])
