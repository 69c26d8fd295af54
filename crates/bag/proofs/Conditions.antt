-- The test of a relation decides it. Assumes nothing.
--     same_number_decides      the test of equality
--     the_test_decides_the_relation      all six
use Rattle.std.proofs.Common.{◌≡◌, Bool, true, false, not, ℤ, ◌≤ℤ◌, ◌<ℤ◌, Decides, sym, refl, true≢false, arith}
use lib.Signed.{lt_z, le_z}
use Rattle.std.proofs.lemmas.Int.{ints}
use Rattle.std.specs.Cmp.{signed_Decides}
use Rattle.bag.specs.declared.condition.Relation.TheVariants.{Less, LessOrEqual, Equal, NotEqual, GreaterOrEqual, Greater}
use Rattle.bag.specs.Condition.{same_number, TheTestDecidesTheRelation}

pub same_number_decides : (x y : ℤ) → Decides (same_number x y) (x ≡ y)
same_number_decides x y = signed_Decides x y

less_decides : (x y : ℤ) → Decides (lt_z x y) (x <ℤ y)
less_decides x y = (λ e. omega (arith, ints), λ h. grind (arith, ints))

at_most_decides : (x y : ℤ) → Decides (le_z x y) (x ≤ℤ y)
at_most_decides x y = (λ e. omega (arith, ints), λ h. grind (arith, ints))

not_decides : (b : Bool) (P : Type 0) → Decides b P → Decides (not b) (P → ⊥)
not_decides true P d = (λ e. absurd (true≢false (sym e)), λ n. absurd (n (d.0 refl)))
not_decides false P d = (λ _ p. true≢false (sym (d.1 p)), λ _. refl)

pub the_test_decides_the_relation : TheTestDecidesTheRelation
the_test_decides_the_relation Less x y = less_decides x y
the_test_decides_the_relation LessOrEqual x y = at_most_decides x y
the_test_decides_the_relation Equal x y = same_number_decides x y
the_test_decides_the_relation NotEqual x y = not_decides (same_number x y) (x ≡ y) (same_number_decides x y)
the_test_decides_the_relation GreaterOrEqual x y = at_most_decides y x
the_test_decides_the_relation Greater x y = less_decides y x
