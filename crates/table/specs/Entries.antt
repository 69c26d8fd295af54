-- What a table means: a list of entries whose keys ascend, and what looking up, adding and removing make of it. Assumes nothing.
--     Ascending order xs       each key is less than those after it
--     is_strictly_sorted_by order xs      the same as a test
--     has_key order k xs       some entry has k's key
--     entry_of order k xs      the entry that has k's key
--     place_of order k xs      where that entry stands
--     smaller order k xs       how many entries have a smaller key than k
--     looked_up order k xs     the place of the entry that has k's key, or else the place where it would go in
--     first_after order k xs   the first entry with a greater key than k, or none
--     with_entry order e xs    e in the place of the entry with e's key, or before the first entry with a greater key
--     without_key order k xs   the other entries, where one has k's key
use Rattle.std.specs.Prelude.{ℕ, suc, Bool, true, false, ◌&&◌, cond, T, List, [], ◌∷◌, Some, None, Option, Result}
use Rattle.std.specs.declared.cmp.Ordering.{Ordering}
use Rattle.std.specs.Ordering.{is_lt}
use Rattle.std.specs.Option.{option_map, ok_or}
use Rattle.std.specs.List.{list_all}
use Rattle.table.specs.Order.{by_order, same_key}

module _ {E : Type 0} (order : E → E → Ordering) where
  abbrev pub is_strictly_sorted_by : List E → Bool
  is_strictly_sorted_by [] = true
  is_strictly_sorted_by (x ∷ xs) = list_all (λ y. is_lt (order x y)) xs && is_strictly_sorted_by xs

  -- as a test, so that there is one proof of it at most and a struct can hold it
  abbrev pub Ascending : List E → Type 0
  Ascending xs = T (is_strictly_sorted_by xs)

  abbrev pub has_key : E → List E → Bool
  has_key k [] = false
  has_key k (x ∷ xs) = cond (same_key order k x) true (has_key k xs)

  abbrev pub entry_of : E → List E → Option E
  entry_of k [] = None
  entry_of k (x ∷ xs) = cond (same_key order k x) (Some x) (entry_of k xs)

  abbrev pub place_of : E → List E → Option ℕ
  place_of k [] = None
  place_of k (x ∷ xs) = cond (same_key order k x) (Some 0) (option_map suc (place_of k xs))

  abbrev pub smaller : E → List E → ℕ
  smaller k [] = 0
  smaller k (x ∷ xs) = by_order (order k x) (smaller k xs) (smaller k xs) (suc (smaller k xs))

  abbrev pub looked_up : E → List E → Result ℕ ℕ
  looked_up k xs = ok_or (place_of k xs) (smaller k xs)

  abbrev pub first_after : E → List E → Option E
  first_after k [] = None
  first_after k (x ∷ xs) = by_order (order k x) (Some x) (first_after k xs) (first_after k xs)

  abbrev pub with_entry : E → List E → List E
  with_entry e [] = e ∷ []
  with_entry e (x ∷ xs) = by_order (order e x) (e ∷ (x ∷ xs)) (e ∷ xs) (x ∷ with_entry e xs)

  abbrev pub without_key : E → List E → List E
  without_key k [] = []
  without_key k (x ∷ xs) = cond (same_key order k x) xs (x ∷ without_key k xs)
