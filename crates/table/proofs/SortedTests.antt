-- The test that keys strictly ascend, and the fact. Assumes nothing.
--     sorted_from_test, test_from_sorted      each says the other
use Rattle.std.proofs.Common.{◌≡◌, Bool, true, false, ◌&&◌, T, List, [], ◌∷◌, Ordering, Less, Equal, Greater, refl}
use Rattle.std.specs.List.{AllByRecursion, list_all}
use Rattle.std.specs.Ordering.{is_lt}
use Rattle.std.specs.List.Sorted.{IsStrictlySortedBy}
use Rattle.table.specs.Entries.{is_strictly_sorted_by}

both_of : (a b : Bool) → T (a && b) → T a × T b
both_of true b h = (tt, h)
both_of false b h = absurd h

and_of : (a b : Bool) → T a → T b → T (a && b)
and_of true b h k = k
and_of false b h k = absurd h

less_from_test : (o : Ordering) → T (is_lt o) → o ≡ Less
less_from_test Less h = refl
less_from_test Equal h = absurd h
less_from_test Greater h = absurd h

test_from_less : (o : Ordering) → o ≡ Less → T (is_lt o)
test_from_less Less e = tt
test_from_less Equal e = let z : ⊥ = cc in absurd z
test_from_less Greater e = let z : ⊥ = cc in absurd z

module _ {E : Type 0} (order : E → E → Ordering) where
  all_from_test : (x : E) (xs : List E) → T (list_all (λ y. is_lt (order x y)) xs) → AllByRecursion (λ y. order x y ≡ Less) xs
  all_from_test x [] h = tt
  all_from_test x (y ∷ ys) h =
      let b = both_of (is_lt (order x y)) (list_all (λ y. is_lt (order x y)) ys) h in
      (less_from_test (order x y) b.0, all_from_test x ys b.1)

  test_from_all : (x : E) (xs : List E) → AllByRecursion (λ y. order x y ≡ Less) xs → T (list_all (λ y. is_lt (order x y)) xs)
  test_from_all x [] h = tt
  test_from_all x (y ∷ ys) h = and_of (is_lt (order x y)) (list_all (λ y. is_lt (order x y)) ys) (test_from_less (order x y) h.0) (test_from_all x ys h.1)

  pub sorted_from_test : (xs : List E) → T (is_strictly_sorted_by order xs) → IsStrictlySortedBy order xs
  unfolding IsStrictlySortedBy
  sorted_from_test [] h = tt
  sorted_from_test (x ∷ xs) h =
      let b = both_of (list_all (λ y. is_lt (order x y)) xs) (is_strictly_sorted_by order xs) h in
      (all_from_test x xs b.0, sorted_from_test xs b.1)

  pub test_from_sorted : (xs : List E) → IsStrictlySortedBy order xs → T (is_strictly_sorted_by order xs)
  unfolding IsStrictlySortedBy
  test_from_sorted [] h = tt
  test_from_sorted (x ∷ xs) h = and_of (list_all (λ y. is_lt (order x y)) xs) (is_strictly_sorted_by order xs) (test_from_all x xs h.0) (test_from_sorted xs h.1)
