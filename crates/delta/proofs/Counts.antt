-- Counts of a stock with a change, as code computes them. Assumes nothing.
--     sum_is        a count and a change are added without loss
--     not_zero_is   what is not 0 fails the test of 0
--     over_is       the test of code is the test of the definition
use Rattle.std.proofs.Common.{◌≡◌, ℕ, zero, suc, ◌<◌, false, not, ℤ, pos, negsuc, ◌+ℤ◌, refl, ap, ◌∙◌, arith, w32, w64, SFits, to_z, of_z, rules}
use lib.Signed.{lt_z, le_z}
use Rattle.bag.specs.Bag.{is_zero}
use Rattle.std.proofs.lemmas.Int.{ints, to_z-of_z}

pub sum_is : (n : ℕ) (z : ℤ) → n < 65536 → SFits w32 z → to_z w64 (of_z w64 (to_z w64 n +ℤ to_z w64 (of_z w64 (to_z w32 (of_z w32 z))))) ≡ pos n +ℤ z
sum_is n z h f =
    let a : to_z w64 n ≡ pos n = search rules in
    let b : SFits w64 z = search rules in
    let d : SFits w64 (pos n +ℤ z) = search rules in
    ap (λ x. to_z w64 (of_z w64 (to_z w64 n +ℤ to_z w64 (of_z w64 x)))) (to_z-of_z w32 z f)
    ∙ ap (λ x. to_z w64 (of_z w64 (to_z w64 n +ℤ x))) (to_z-of_z w64 z b)
    ∙ ap (λ x. to_z w64 (of_z w64 (x +ℤ z))) a
    ∙ to_z-of_z w64 (pos n +ℤ z) d

pub over_is : (z : ℤ) → lt_z (pos 65535) z ≡ not (le_z z (pos 65535))
over_is z = grind (arith, ints)

pub not_zero_is : (z : ℤ) → (z ≡ pos 0 → ⊥) → is_zero z ≡ false
not_zero_is (pos zero) h = absurd (h refl)
not_zero_is (pos (suc n)) h = refl
not_zero_is (negsuc n) h = refl
