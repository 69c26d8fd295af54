-- The worked values with all columns that a measure shows, by computing. Assumes nothing.
--     worked_values_in_full        all of them
use Rattle.std.proofs.Common.{refl}
use Rattle.std.specs.Int.{int_wrap}
use Rattle.measure.specs.WorkedInFull.{WorkedValuesInFull}

pub worked_values_in_full : WorkedValuesInFull
unfolding int_wrap
worked_values_in_full = record {
  mark_of_70000_once = (refl, refl);
  mark_of_70000_taken = (refl, refl);
  mark_of_5_twice = (refl, refl);
  mark_of_5_taken_twice = (refl, refl);
  mark_of_the_smallest = (refl, refl);
  mark_of_minus_1 = (refl, refl);
  mark_read_back = refl;
  sum_at_the_top = (refl, refl);
  sum_past_the_top = refl;
  sum_at_the_bottom = (refl, refl);
  sum_past_the_bottom = refl;
  sum_of_7_taken = (refl, refl);
  sum_of_the_smallest = refl;
  sum_wraps = refl;
  sum_of_copies_wraps = (refl, refl);
  head_count_shows_nothing = (refl, refl);
  sum_beside_mark = (refl, refl);
  smallest_beside = refl;
  smallest_and_1_beside = (refl, refl);
  nested = (refl, refl);
  fits_only_if_both_fit = refl;
  nine_say_eight = refl;
  nine_show_eight = (refl, refl);
}
