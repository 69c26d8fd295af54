-- The check mark keeps the laws of a measure. Assumes nothing.
--     check_mark_laws        all of them
use Rattle.std.specs.Prelude.{◌≡◌, ℕ, zero, suc, ◌+◌, ◌*◌, ◌/◌, ◌%◌, ◌<◌, Bool, true, false, cond, ℤ, pos, negsuc, ◌+ℤ◌, ◌==◌, bit_xor, unsigned_abs, refl}
use Rattle.std.proofs.Common.{sym, arith}
use Rattle.std.specs.Int.Bits.{xor_zero_l, xor_zero_r, xor_assoc, xor_self}
use Rattle.std.proofs.lemmas.Nat.{xor_comm, xor_lt}
use Rattle.std.proofs.lemmas.Int.{ints}
use Rattle.bag.specs.Group.{GroupLaws, AddsUp}
use Rattle.bag.specs.Measure.{MeasureLaws, ShowingLaws}
use Rattle.measure.specs.CheckMark.{IsMark, marks, pattern, is_odd, low_half, check_mark}

pattern_ok : (v : ℤ) → IsMark (pattern v)
pattern_ok (pos n) = omega arith
pattern_ok (negsuc n) = omega arith

group : GroupLaws IsMark marks
group = record {
  ok_zero = omega arith;
  ok_plus = λ x y a b. xor_lt 32 x y a b;
  ok_minus = λ x a. a;
  associative = λ x y z a b c. xor_assoc x y z;
  commutative = λ x y a b. xor_comm x y;
  neutral = λ x a. xor_zero_l x;
  inverse = λ x a. xor_self x;
}

abbrev if_odd : ℕ → ℕ → ℕ
if_odd v rest = cond (rest == 1) v 0

copies : AddsUp IsMark marks check_mark.worth
copies = record {
  ok_worth = λ v n. ok (is_odd n) (pattern v) (pattern_ok v);
  at_zero = λ v. refl;
  adds = λ v m n. adds (pattern v) (unsigned_abs m % 2) (unsigned_abs n % 2) (unsigned_abs (m +ℤ n) % 2) (omega arith) (omega arith) (parity m n);
}
  where
    parity : (m n : ℤ) → unsigned_abs (m +ℤ n) % 2 ≡ (unsigned_abs m % 2 + unsigned_abs n % 2) % 2
    parity m n = omega (arith, ints)

    ok : (odd : Bool) (v : ℕ) → IsMark v → IsMark (cond odd v 0)
    ok true v h = h
    ok false v h = omega arith

    adds : (v a b c : ℕ) → a < 2 → b < 2 → c ≡ (a + b) % 2 → if_odd v c ≡ bit_xor (if_odd v a) (if_odd v b)
    adds v zero zero c p q e = rw e refl
    adds v zero (suc zero) c p q e = rw e (sym (xor_zero_l v))
    adds v (suc zero) zero c p q e = rw e (sym (xor_zero_r v))
    adds v (suc zero) (suc zero) c p q e = rw e (sym (xor_self v))
    adds v zero (suc (suc b)) c p q e = absurd (omega arith)
    adds v (suc zero) (suc (suc b)) c p q e = absurd (omega arith)
    adds v (suc (suc a)) b c p q e = absurd (omega arith)

showing : ShowingLaws IsMark check_mark
showing = record {
  as_many = λ v a f. refl;
  read_back = λ v a f. back v a;
  never_lowest = λ v a f. (omega arith, (omega arith, tt));
  zero_fits = refl;
}
  where
    back : (v : ℕ) → IsMark v → low_half (pos (v / 65536)) * 65536 + low_half (pos (v % 65536)) ≡ v
    back v h = omega arith

pub check_mark_laws : MeasureLaws IsMark check_mark
check_mark_laws = record { group_laws = group; adds_up = copies; at_most_eight = omega arith; showing = λ few. showing }
