-- What an answer of comparing two rows says of a count, and what a count above 0 is. Assumes nothing.
--     equal_by           an answer is Equal or it is not
--     not_equal          a count at another row is 0
--     some_not_zero      a number of copies that is at least 1 is not 0
use Rattle.std.proofs.Common.{◌≡◌, ℕ, zero, suc, ◌≤◌, false, ◌⊎◌, ℤ, pos, Ordering, Less, Equal, Greater, refl, inl, inr, arith}
use Rattle.bag.specs.Bag.{is_zero, if_equal}

pub not_equal : (o : Ordering) (n : ℤ) → (o ≡ Equal → ⊥) → if_equal o n ≡ pos 0
not_equal Less n h = refl
not_equal Equal n h = absurd (h refl)
not_equal Greater n h = refl

pub equal_by : (o : Ordering) → (o ≡ Equal) ⊎ (o ≡ Equal → ⊥)
equal_by Less = inr (λ h. let z : ◌≡◌ {A = ℕ} 0 1 = cc in let y : ⊥ = omega arith in y)
equal_by Equal = inl refl
equal_by Greater = inr (λ h. let z : ◌≡◌ {A = ℕ} 0 1 = cc in let y : ⊥ = omega arith in y)

pub some_not_zero : (n : ℕ) → 1 ≤ n → is_zero (pos n) ≡ false
some_not_zero zero h = absurd (let z : ⊥ = omega arith in z)
some_not_zero (suc n) h = refl
