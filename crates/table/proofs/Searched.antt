-- What a binary search of an ascending list answers. Assumes nothing.
--     Missing k xs i       no entry has k's key, and it would go in at place i
--     found, missing       what each answer of looking a key up says
--     searched             a binary search by key answers as looking the key up does
use Rattle.std.proofs.Common.{◌≡◌, ℕ, ◌≤◌, List, length, get_or, Some, None, Option, Result, Ok, Err, Ordering, Less, Equal, Greater, refl, arith}
use Rattle.std.specs.Option.{ok_or}
use Rattle.std.specs.Ordering.{ordering_reverse, ordering_index}
use Rattle.std.specs.List.Sorted.{IsSearchInRange, IsBinarySearchResult, IsNonDecreasingBy}
use Rattle.std.proofs.lemmas.List.Sorted.{IsNonDecreasingBy-from_default}
use Rattle.table.specs.Order.{Lawful}
use Rattle.table.specs.Entries.{Ascending, place_of, smaller, looked_up}
use Rattle.table.proofs.Located.{absent, present, flipped, over, under, equal_at}

-- an entry's comparison with the key is no greater than that of a later entry
rises : (o p : Ordering) → (o ≡ Less → p ≡ Less) → (p ≡ Greater → o ≡ Greater) → ordering_index (ordering_reverse o) ≤ ordering_index (ordering_reverse p)
rises Greater p less greater = omega arith
rises Equal Less less greater = omega arith
rises Equal Equal less greater = omega arith
rises Equal Greater less greater = let e = greater refl in let z : ⊥ = cc in absurd z
rises Less Less less greater = omega arith
rises Less Equal less greater = let e = less refl in let z : ⊥ = cc in absurd z
rises Less Greater less greater = let e = less refl in let z : ⊥ = cc in absurd z

module _ {E : Type 0} (order : E → E → Ordering) (k : E) (xs : List E) where
  pub record Missing (i : ℕ) : Type 0 where
    pub place : place_of order k xs ≡ None
    pub count : i ≡ smaller order k xs

  pub found : (i : ℕ) → Ok i ≡ looked_up order k xs → place_of order k xs ≡ Some i
  found i = by (place_of order k xs)
    where
      by : (p : Option ℕ) → Ok i ≡ ok_or p (smaller order k xs) → p ≡ Some i
      by None q = let z : ⊥ = cc in absurd z
      by (Some j) q = cc

  pub missing : (i : ℕ) → Err i ≡ looked_up order k xs → Missing i
  missing i = by (place_of order k xs) refl
    where
      by : (p : Option ℕ) → place_of order k xs ≡ p → Err i ≡ ok_or p (smaller order k xs) → Missing i
      by None h q = record { place = h; count = cc }
      by (Some j) h q = let z : ⊥ = cc in absurd z

module _ {E : Type 0} {order : E → E → Ordering} (law : Lawful order) (k : E) (xs : List E) (up : Ascending order xs) where
  comparisons_rise : IsNonDecreasingBy (λ x. ordering_index (order x k)) xs
  comparisons_rise = IsNonDecreasingBy-from_default (λ x. ordering_index (order x k)) xs k (λ i j le in_range.
      rw (law.antisymm (get_or xs i k) k, law.antisymm (get_or xs j k) k)
      (rises (order k (get_or xs i k)) (order k (get_or xs j k)) (under law k xs up i j le in_range) (over law k xs up i j le in_range)))

  -- the search compares entries with the key, and the meaning the key with entries
  pub searched : (r : Result ℕ ℕ) → IsSearchInRange r (length xs) → IsBinarySearchResult (λ x. order x k) xs r → r ≡ looked_up order k xs
  searched (Ok i) in_range equal = let p = present order k xs i (equal_at law k xs up i in_range (flipped law (get_or xs i k) k Equal (equal k))) in rw p.place
  searched (Err i) in_range parted =
      let split = parted comparisons_rise in
      let a = absent order k xs i (record { within = in_range; before = λ j lt. flipped law (get_or xs j k) k Less (split.0 j k (omega arith) lt); behind = λ j le lt. flipped law (get_or xs j k) k Greater (split.1 j k le lt) }) in
      rw (a.place, a.count)
