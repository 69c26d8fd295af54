-- Small facts on signed numbers of copies, and on the tests and parts that the definitions use. Assumes nothing.
--     not_zero, zero_is, not_zero_negated      the test of 0
--     one_if_not_zero, one_if_either, none_if_neither      1 where there are any
--     positive_above, above_positive, positive_sum, positive_times      the test of a positive number
--     low_at_least_zero, low_taken, at_least_zero_low, at_least_zero_none      the parts of a number
use Rattle.std.proofs.Common.{◌≡◌, ℕ, zero, suc, ◌*◌, ◌<◌, true, false, ℤ, pos, negsuc, ◌+ℤ◌, ◌-ℤ◌, ◌*ℤ◌, neg_ℤ, ◌≤ℤ◌, ◌<ℤ◌, refl, suc-mul, arith}
use Rattle.std.proofs.lemmas.Int.{ints}
use Rattle.bag.specs.Bag.{is_zero, is_positive}
use Rattle.bag.specs.Operators.{at_least_zero, one_if_any}
use Rattle.bag.specs.Changes.{taken}

pub not_zero : (n : ℤ) → is_zero n ≡ false → n ≡ pos 0 → ⊥
not_zero (pos zero) h e = let z : ◌≡◌ {A = ℕ} 0 1 = cc in omega arith
not_zero (pos (suc n)) h e = omega (arith, ints)
not_zero (negsuc n) h e = omega (arith, ints)

pub zero_is : (n : ℤ) → is_zero n ≡ true → n ≡ pos 0
zero_is (pos zero) h = refl
zero_is (pos (suc n)) h = let z : ⊥ = cc in absurd z
zero_is (negsuc n) h = let z : ⊥ = cc in absurd z

pub not_zero_negated : (n : ℤ) → is_zero n ≡ false → is_zero (neg_ℤ n) ≡ false
not_zero_negated (pos zero) h = h
not_zero_negated (pos (suc n)) h = refl
not_zero_negated (negsuc n) h = refl

pub one_if_not_zero : (n : ℤ) → is_zero n ≡ false → one_if_any n ≡ pos 1
one_if_not_zero (pos zero) h = let z : ⊥ = cc in absurd z
one_if_not_zero (pos (suc n)) h = refl
one_if_not_zero (negsuc n) h = refl

pub one_if_either : (a b : ℤ) → is_zero a ≡ false → one_if_any (one_if_any a +ℤ one_if_any b) ≡ pos 1
one_if_either (pos zero) b h = let z : ⊥ = cc in absurd z
one_if_either (pos (suc n)) (pos zero) h = refl
one_if_either (pos (suc n)) (pos (suc m)) h = refl
one_if_either (pos (suc n)) (negsuc m) h = refl
one_if_either (negsuc n) (pos zero) h = refl
one_if_either (negsuc n) (pos (suc m)) h = refl
one_if_either (negsuc n) (negsuc m) h = refl

pub none_if_neither : (a b : ℤ) → is_zero (one_if_any a +ℤ one_if_any b) ≡ true → (a ≡ pos 0) × (b ≡ pos 0)
none_if_neither (pos zero) (pos zero) h = (refl, refl)
none_if_neither (pos zero) (pos (suc n)) h = let z : ⊥ = cc in absurd z
none_if_neither (pos zero) (negsuc n) h = let z : ⊥ = cc in absurd z
none_if_neither (pos (suc m)) (pos zero) h = let z : ⊥ = cc in absurd z
none_if_neither (pos (suc m)) (pos (suc n)) h = let z : ⊥ = cc in absurd z
none_if_neither (pos (suc m)) (negsuc n) h = let z : ⊥ = cc in absurd z
none_if_neither (negsuc m) (pos zero) h = let z : ⊥ = cc in absurd z
none_if_neither (negsuc m) (pos (suc n)) h = let z : ⊥ = cc in absurd z
none_if_neither (negsuc m) (negsuc n) h = let z : ⊥ = cc in absurd z

pub positive_above : (n : ℤ) → is_positive n ≡ true → pos 0 <ℤ n
positive_above (pos zero) h = let z : ⊥ = cc in absurd z
positive_above (pos (suc n)) h = omega (arith, ints)
positive_above (negsuc n) h = let z : ⊥ = cc in absurd z

pub above_positive : (n : ℤ) → pos 0 <ℤ n → is_positive n ≡ true
above_positive (pos zero) h = let z : ⊥ = omega (arith, ints) in absurd z
above_positive (pos (suc n)) h = refl
above_positive (negsuc n) h = let z : ⊥ = omega (arith, ints) in absurd z

pub positive_sum : (m n : ℤ) → is_positive m ≡ true → is_positive n ≡ true → is_positive (m +ℤ n) ≡ true
positive_sum m n h k = above_positive (m +ℤ n) (let a = positive_above m h in let b = positive_above n k in omega (arith, ints))

pub positive_times : (m n : ℤ) → is_positive m ≡ true → is_positive n ≡ true → is_positive (m *ℤ n) ≡ true
positive_times (pos zero) n h k = let z : ⊥ = cc in absurd z
positive_times (pos (suc m)) (pos zero) h k = let z : ⊥ = cc in absurd z
positive_times (pos (suc m)) (pos (suc n)) h k = above_positive (pos (suc m * suc n)) (let a : 0 < suc m * suc n = rw (suc-mul m (suc n)) (omega arith) in omega (arith, ints))
positive_times (pos (suc m)) (negsuc n) h k = let z : ⊥ = cc in absurd z
positive_times (negsuc m) n h k = let z : ⊥ = cc in absurd z

pub low_at_least_zero : (n : ℤ) → pos 0 ≤ℤ at_least_zero n
low_at_least_zero (pos n) = omega (arith, ints)
low_at_least_zero (negsuc n) = omega (arith, ints)

pub low_taken : (n : ℤ) → pos 0 ≤ℤ taken n
low_taken (pos n) = omega (arith, ints)
low_taken (negsuc n) = omega (arith, ints)

pub at_least_zero_low : (n : ℤ) → n ≤ℤ pos 0 → at_least_zero n ≡ pos 0
at_least_zero_low (pos n) h = omega (arith, ints)
at_least_zero_low (negsuc n) h = refl

pub at_least_zero_none : (n : ℤ) → pos 0 ≤ℤ n → at_least_zero (pos 0 -ℤ n) ≡ pos 0
at_least_zero_none n h = at_least_zero_low (pos 0 -ℤ n) (omega (arith, ints))
