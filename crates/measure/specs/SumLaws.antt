-- Sum keeps the laws of a measure. Assumes nothing.
--     sum_laws        all of them
--     wrapped_zero    zero modulo 2^64
use Rattle.std.specs.Prelude.{◌≡◌, pos, ◌+ℤ◌, ◌*ℤ◌, neg_ℤ, FitsSigned, refl}
use Rattle.std.proofs.Common.{sym, ap, ◌∙◌, subst, arith, leb-true}
use Rattle.std.proofs.Math.IntN.{+ℤ_assoc, +ℤ_comm, +ℤ_idl, +ℤ_invr, *ℤ-zero}
use Rattle.std.specs.Int.{int_wrap, w64}
use Rattle.std.proofs.lemmas.Int.{int_wrap_fits, int_wrap-add_left, int_wrap-add_right, SFits-int_wrap}
use Rattle.bag.specs.Group.{GroupLaws, AddsUp}
use Rattle.bag.specs.Measure.{MeasureLaws, ShowingLaws}
use Rattle.bag.specs.Integers.{*ℤ-sum}
use Rattle.measure.specs.Sum.{sums, sum}

pub wrapped_zero : int_wrap w64 (pos 0) ≡ pos 0
unfolding int_wrap
wrapped_zero = refl

group : GroupLaws (FitsSigned w64) sums
group = record {
  ok_zero = subst (FitsSigned w64) wrapped_zero (SFits-int_wrap w64 (pos 0));
  ok_plus = λ x y a b. SFits-int_wrap w64 (x +ℤ y);
  ok_minus = λ x a. SFits-int_wrap w64 (neg_ℤ x);
  associative = λ x y z a b c. int_wrap-add_left w64 (x +ℤ y) z ∙ ap (int_wrap w64) (+ℤ_assoc x y z) ∙ sym (int_wrap-add_right w64 x (y +ℤ z));
  commutative = λ x y a b. ap (int_wrap w64) (+ℤ_comm x y);
  neutral = λ x a. ap (int_wrap w64) (+ℤ_idl x) ∙ int_wrap_fits w64 x a;
  inverse = λ x a. int_wrap-add_right w64 x (neg_ℤ x) ∙ ap (int_wrap w64) (+ℤ_invr x) ∙ wrapped_zero;
}

copies : AddsUp (FitsSigned w64) sums sum.worth
copies = record {
  ok_worth = λ v n. SFits-int_wrap w64 (v *ℤ n);
  at_zero = λ v. ap (int_wrap w64) (*ℤ-zero v) ∙ wrapped_zero;
  adds = λ v m n. ap (int_wrap w64) (*ℤ-sum v m n) ∙ sym (int_wrap-add_right w64 (v *ℤ m) (v *ℤ n)) ∙ sym (int_wrap-add_left w64 (v *ℤ m) (int_wrap w64 (v *ℤ n)));
}

showing : ShowingLaws (FitsSigned w64) sum
showing = record {
  as_many = λ v a f. refl;
  read_back = λ v a f. refl;
  never_lowest = λ v a f. (omega (arith, leb-true, f), tt);
  zero_fits = refl;
}

pub sum_laws : MeasureLaws (FitsSigned w64) sum
sum_laws = record { group_laws = group; adds_up = copies; at_most_eight = omega arith; showing = λ few. showing }
