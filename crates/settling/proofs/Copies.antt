-- The copies that a line puts or takes are those of its change, or of the opposite of its change. Assumes nothing.
--     gained      what a line puts
--     lost        what a line takes
use Rattle.std.proofs.Common.{◌≡◌, ℕ, zero, suc, ◌+◌, ℤ, pos, negsuc, rules, refl, ◌-ℤ◌, ◌≤ℤ◌, w32, w64, SFits, of_z, to_z, ap, ◌∙◌, arith}
use Rattle.std.proofs.lemmas.Int.{ints, to_z-of_z}
use Rattle.std.proofs.Math.Facts.{sfits_widen}
use Rattle.bag.specs.Changes.{taken}
use Rattle.bag.specs.Operators.{at_least_zero}

abbrev pub widened : ℤ → ℤ
widened z = to_z w64 (of_z w64 (to_z w32 (of_z w32 z)))

wide : (z : ℤ) → SFits w32 z → widened z ≡ z
wide z f =
    let a = to_z-of_z w32 z f in
    let b : SFits w64 z = sfits_widen tt f in
    ap (λ y. to_z w64 (of_z w64 y)) a ∙ to_z-of_z w64 z b

none_above : (y : ℤ) → y ≤ℤ pos 0 → at_least_zero y ≡ pos 0
none_above (pos zero) m = refl
none_above (pos (suc n)) m = absurd (let e : ⊥ = omega (arith, ints, m) in e)
none_above (negsuc n) m = refl

below : (z : ℤ) → at_least_zero (pos 0 -ℤ z) ≡ taken z
below (pos n) = none_above (pos 0 -ℤ pos n) (omega (arith, ints))
below (negsuc n) = ap pos (let e : 0 + suc n ≡ suc n = omega arith in e)

opposite : (z : ℤ) → SFits w32 z → at_least_zero (to_z w64 (of_z w64 (pos 0 -ℤ widened z))) ≡ taken z
opposite z f =
    let a = ap (λ y. at_least_zero (to_z w64 (of_z w64 (pos 0 -ℤ y)))) (wide z f) in
    let b : SFits w64 (pos 0 -ℤ z) = search rules in
    a ∙ ap at_least_zero (to_z-of_z w64 (pos 0 -ℤ z) b) ∙ below z

pub gained : (z : ℤ) (n : ℕ) → SFits w32 z → at_least_zero z ≤ℤ pos 65535 → (at_least_zero (widened z) ≤ℤ pos 65535 → pos n ≡ at_least_zero (widened z)) → pos n ≡ at_least_zero z
gained z n f m is =
    let same = ap at_least_zero (wide z f) in
    is (omega (arith, ints, same, m)) ∙ same

pub lost : (z : ℤ) (n : ℕ) → SFits w32 z → taken z ≤ℤ pos 65535
    → (at_least_zero (to_z w64 (of_z w64 (pos 0 -ℤ widened z))) ≤ℤ pos 65535 → pos n ≡ at_least_zero (to_z w64 (of_z w64 (pos 0 -ℤ widened z)))) → pos n ≡ taken z
lost z n f m is =
    let same = opposite z f in
    is (omega (arith, ints, same, m)) ∙ same
