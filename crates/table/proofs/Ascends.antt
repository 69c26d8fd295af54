-- Adding and removing keep a list ascending. Assumes nothing.
--     ascending_with, ascending_without      the list with an entry added, or without a key, ascends
use Rattle.std.proofs.Common.{◌≡◌, Bool, true, false, cond, List, [], ◌∷◌, Ordering, Less, Equal, Greater, refl, ap, ◌∙◌}
use Rattle.std.specs.List.{AllByRecursion}
use Rattle.std.specs.Ordering.{ordering_reverse}
use Rattle.std.specs.List.Sorted.{IsStrictlySortedBy}
use Rattle.table.proofs.SortedTests.{sorted_from_test, test_from_sorted}
use Rattle.table.specs.Order.{Lawful, by_order, same_key}
use Rattle.table.specs.Entries.{Ascending, with_entry, without_key}

weaker : {E : Type 0} (P Q : E → Type 0) (xs : List E) → ((y : E) → P y → Q y) → AllByRecursion P xs → AllByRecursion Q xs
weaker P Q [] f all = tt
weaker P Q (x ∷ xs) f all = (f x all.0, weaker P Q xs f all.1)

module _ {E : Type 0} (order : E → E → Ordering) where
  all_with_by : (P : E → Type 0) (e x : E) (xs : List E) (o : Ordering) → P e → P x → AllByRecursion P xs → AllByRecursion P (with_entry order e xs) → AllByRecursion P (by_order o (e ∷ (x ∷ xs)) (e ∷ xs) (x ∷ with_entry order e xs))
  all_with_by P e x xs Less h hx all rec = (h, (hx, all))
  all_with_by P e x xs Equal h hx all rec = (h, all)
  all_with_by P e x xs Greater h hx all rec = (hx, rec)

  pub all_with : (P : E → Type 0) (e : E) (xs : List E) → P e → AllByRecursion P xs → AllByRecursion P (with_entry order e xs)
  all_with P e [] h all = (h, tt)
  all_with P e (x ∷ xs) h all = all_with_by P e x xs (order e x) h all.0 all.1 (all_with P e xs h all.1)

  all_without_by : (P : E → Type 0) (k x : E) (xs : List E) (b : Bool) → P x → AllByRecursion P xs → AllByRecursion P (without_key order k xs) → AllByRecursion P (cond b xs (x ∷ without_key order k xs))
  all_without_by P k x xs true hx all rec = all
  all_without_by P k x xs false hx all rec = (hx, rec)

  pub all_without : (P : E → Type 0) (k : E) (xs : List E) → AllByRecursion P xs → AllByRecursion P (without_key order k xs)
  all_without P k [] all = tt
  all_without P k (x ∷ xs) all = all_without_by P k x xs (same_key order k x) all.0 all.1 (all_without P k xs all.1)

  sorted_with_by : Lawful order → (e x : E) (xs : List E) (o : Ordering) → order e x ≡ o → IsStrictlySortedBy order (x ∷ xs) → IsStrictlySortedBy order (with_entry order e xs) → IsStrictlySortedBy order (by_order o (e ∷ (x ∷ xs)) (e ∷ xs) (x ∷ with_entry order e xs))
  unfolding IsStrictlySortedBy
  sorted_with_by law e x xs Less q s rec = ((q, weaker (λ y. order x y ≡ Less) (λ y. order e y ≡ Less) xs (λ y h. law.trans e x y q h) s.0), s)
  sorted_with_by law e x xs Equal q s rec = (weaker (λ y. order x y ≡ Less) (λ y. order e y ≡ Less) xs (λ y h. law.congr e x y q ∙ h) s.0, s.1)
  sorted_with_by law e x xs Greater q s rec = (all_with (λ y. order x y ≡ Less) e xs (law.antisymm x e ∙ ap ordering_reverse q) s.0, rec)

  sorted_with : Lawful order → (e : E) (xs : List E) → IsStrictlySortedBy order xs → IsStrictlySortedBy order (with_entry order e xs)
  unfolding IsStrictlySortedBy
  sorted_with law e [] s = (tt, tt)
  sorted_with law e (x ∷ xs) s = sorted_with_by law e x xs (order e x) refl s (sorted_with law e xs s.1)

  sorted_without_by : (k x : E) (xs : List E) (b : Bool) → IsStrictlySortedBy order (x ∷ xs) → IsStrictlySortedBy order (without_key order k xs) → IsStrictlySortedBy order (cond b xs (x ∷ without_key order k xs))
  unfolding IsStrictlySortedBy
  sorted_without_by k x xs true s rec = s.1
  sorted_without_by k x xs false s rec = (all_without (λ y. order x y ≡ Less) k xs s.0, rec)

  sorted_without : (k : E) (xs : List E) → IsStrictlySortedBy order xs → IsStrictlySortedBy order (without_key order k xs)
  unfolding IsStrictlySortedBy
  sorted_without k [] s = tt
  sorted_without k (x ∷ xs) s = sorted_without_by k x xs (same_key order k x) s (sorted_without k xs s.1)

  pub ascending_with : Lawful order → (e : E) (xs : List E) → Ascending order xs → Ascending order (with_entry order e xs)
  ascending_with law e xs up = test_from_sorted order (with_entry order e xs) (sorted_with law e xs (sorted_from_test order xs up))

  pub ascending_without : (k : E) (xs : List E) → Ascending order xs → Ascending order (without_key order k xs)
  ascending_without k xs up = test_from_sorted order (without_key order k xs) (sorted_without k xs (sorted_from_test order xs up))
