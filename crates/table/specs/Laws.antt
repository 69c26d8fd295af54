-- The laws of what a table means, in terms of what looking keys up answers. Assumes nothing.
--     LookupLaws order      what adding and removing change of the answers, and what the answers say of the list
use Rattle.std.specs.Prelude.{◌≡◌, ℕ, false, List, Some, None}
use Rattle.std.specs.declared.cmp.Ordering.{Ordering}
use Rattle.std.specs.List.{slice_get}
use Rattle.table.specs.Order.{same_key}
use Rattle.table.specs.Entries.{Ascending, has_key, entry_of, place_of, smaller, with_entry, without_key}

pub record LookupLaws {E : Type 0} (order : E → E → Ordering) : Type 0 where
  -- after adding, the key finds the entry added, and every other key what it found before
  pub added_key : (e : E) (xs : List E) → entry_of order e (with_entry order e xs) ≡ Some e
  pub added_others : (e k : E) (xs : List E) → same_key order k e ≡ false → entry_of order k (with_entry order e xs) ≡ entry_of order k xs
  pub added_ascends : (e : E) (xs : List E) → Ascending order xs → Ascending order (with_entry order e xs)
  -- after removing, the key finds nothing, and every other key what it found before; removing an absent key changes nothing
  pub removed_key : (k : E) (xs : List E) → Ascending order xs → entry_of order k (without_key order k xs) ≡ None
  pub removed_absent : (k : E) (xs : List E) → has_key order k xs ≡ false → without_key order k xs ≡ xs
  pub removed_others : (k j : E) (xs : List E) → same_key order j k ≡ false → entry_of order j (without_key order k xs) ≡ entry_of order j xs
  pub removed_ascends : (k : E) (xs : List E) → Ascending order xs → Ascending order (without_key order k xs)
  -- a key's place is where its entry stands, and is the number of smaller keys; a key without a place has no entry
  pub place_holds : (k : E) (xs : List E) (i : ℕ) → place_of order k xs ≡ Some i → slice_get xs i ≡ entry_of order k xs
  pub place_counts : (k : E) (xs : List E) (i : ℕ) → Ascending order xs → place_of order k xs ≡ Some i → i ≡ smaller order k xs
  pub no_place : (k : E) (xs : List E) → place_of order k xs ≡ None → entry_of order k xs ≡ None
  -- the answers say all: ascending lists that answer every key alike are equal
  pub determined : (xs ys : List E) → Ascending order xs → Ascending order ys → ((k : E) → entry_of order k xs ≡ entry_of order k ys) → xs ≡ ys
