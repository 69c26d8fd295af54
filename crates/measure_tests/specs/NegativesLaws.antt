-- The measure `negatives` keeps the laws of a measure. Assumes nothing.
--     negatives_laws        all of them
use Rattle.std.specs.Prelude.{◌≡◌, ℤ, pos, negsuc, ◌+ℤ◌, FitsSigned}
use Rattle.std.proofs.Common.{sym, ◌∙◌, arith}
use Rattle.std.specs.Int.{int_wrap, w64}
use Rattle.std.proofs.lemmas.Int.{int_wrap-add_left, int_wrap-add_right, SFits-int_wrap}
use Rattle.bag.specs.Group.{AddsUp}
use Rattle.bag.specs.Measure.{MeasureLaws, ShowingLaws}
use Rattle.measure.specs.Sum.{sums, sum}
use Rattle.measure.specs.SumLaws.{sum_laws, wrapped_zero}
use Rattle.measure_tests.specs.Negatives.{if_negative, negatives}

copies : AddsUp (FitsSigned w64) sums negatives.worth
copies = record { ok_worth = λ v n. SFits-int_wrap w64 (if_negative v n); at_zero = at_zero; adds = adds }
  where
    at_zero : (v : ℤ) → int_wrap w64 (if_negative v (pos 0)) ≡ pos 0
    at_zero (pos v) = wrapped_zero
    at_zero (negsuc v) = wrapped_zero

    adds : (v m n : ℤ) → int_wrap w64 (if_negative v (m +ℤ n)) ≡ int_wrap w64 (int_wrap w64 (if_negative v m) +ℤ int_wrap w64 (if_negative v n))
    adds (pos v) m n = sym (int_wrap-add_left w64 (pos 0) (int_wrap w64 (pos 0)) ∙ int_wrap-add_right w64 (pos 0) (pos 0))
    adds (negsuc v) m n = sym (int_wrap-add_left w64 m (int_wrap w64 n) ∙ int_wrap-add_right w64 m n)

showing : ShowingLaws (FitsSigned w64) sum → ShowingLaws (FitsSigned w64) negatives
showing S = record { as_many = S.as_many; read_back = S.read_back; never_lowest = S.never_lowest; zero_fits = S.zero_fits }

pub negatives_laws : MeasureLaws (FitsSigned w64) negatives
negatives_laws = record { group_laws = sum_laws.group_laws; adds_up = copies; at_most_eight = omega arith; showing = λ few. showing (sum_laws.showing few) }
