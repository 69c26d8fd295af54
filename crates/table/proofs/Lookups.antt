-- What looking keys up answers after adding and removing. Assumes nothing.
--     itself, other_key                  a key equals itself; a key that differs from k differs from every key equal to k
--     entry_of_with, entry_of_without    the answers after adding and removing, at the key and at others
--     same_lookups                       ascending lists that answer every key alike are equal
--     has_key_place, has_key_entry       a key is there exactly if it has a place, and exactly if it has an entry
--     without_absent                     removing an absent key changes nothing
--     found_key                          the entry that a key finds has that key
--     length_with, length_without        how many entries there are afterwards
use Rattle.std.proofs.Common.{◌≡◌, ℕ, suc, Bool, true, false, cond, List, [], ◌∷◌, length, is_some, Some, None, Option, Ordering, Less, Equal, Greater, sym, refl, ap, ◌∙◌, subst, ⊎_elim, arith}
use Rattle.std.specs.List.{slice_get}
use Rattle.std.specs.Option.{option_map}
use Rattle.std.specs.Cmp.{tied_itself}
use Rattle.std.specs.Ordering.{is_eq, ordering_reverse}
use Rattle.std.proofs.lemmas.List.{length-set, length-append, length-take, length-drop}
use Rattle.table.specs.Order.{Lawful, by_order, same_key}
use Rattle.table.specs.Entries.{Ascending, has_key, entry_of, place_of, smaller, with_entry, without_key}
use Rattle.table.specs.Laws.{LookupLaws}
use Rattle.table.proofs.Located.{AbsentAt, PresentAt, absent, present, located, present_from, under, equal_at, ascending_tail}
use Rattle.table.proofs.Ascends.{ascending_with, ascending_without}

same_turned : (o : Ordering) → is_eq (ordering_reverse o) ≡ is_eq o
same_turned Less = refl
same_turned Equal = refl
same_turned Greater = refl

equal_from_same : (o : Ordering) → is_eq o ≡ true → o ≡ Equal
equal_from_same Less h = let z : ⊥ = cc in absurd z
equal_from_same Equal h = refl
equal_from_same Greater h = let z : ⊥ = cc in absurd z

module _ {E : Type 0} (order : E → E → Ordering) where
  pub place_holds : (k : E) (xs : List E) (i : ℕ) → place_of order k xs ≡ Some i → slice_get xs i ≡ entry_of order k xs
  place_holds k [] i q = refl
  place_holds k (x ∷ xs) i q = by (same_key order k x) (place_of order k xs) i q (λ j h. place_holds k xs j h)
    where
      by : (b : Bool) (p : Option ℕ) (i : ℕ) → cond b (Some 0) (option_map suc p) ≡ Some i → ((j : ℕ) → p ≡ Some j → slice_get xs j ≡ entry_of order k xs) → slice_get (x ∷ xs) i ≡ cond b (Some x) (entry_of order k xs)
      by true p i q rec = let z : i ≡ 0 = cc in ap (slice_get (x ∷ xs)) z
      by false None i q rec = let z : ⊥ = cc in absurd z
      by false (Some j) i q rec = let z : i ≡ suc j = cc in ap (slice_get (x ∷ xs)) z ∙ rec j refl

  pub no_place : (k : E) (xs : List E) → place_of order k xs ≡ None → entry_of order k xs ≡ None
  no_place k [] q = refl
  no_place k (x ∷ xs) q = by (same_key order k x) (place_of order k xs) q (λ h. no_place k xs h)
    where
      by : (b : Bool) (p : Option ℕ) → cond b (Some 0) (option_map suc p) ≡ None → (p ≡ None → entry_of order k xs ≡ None) → cond b (Some x) (entry_of order k xs) ≡ None
      by true p q rec = let z : ⊥ = cc in absurd z
      by false None q rec = rec refl
      by false (Some j) q rec = let z : ⊥ = cc in absurd z

  pub has_key_place : (k : E) (xs : List E) → has_key order k xs ≡ is_some (place_of order k xs)
  has_key_place k [] = refl
  has_key_place k (x ∷ xs) = by (same_key order k x) (place_of order k xs) (has_key_place k xs)
    where
      by : (b : Bool) (p : Option ℕ) → has_key order k xs ≡ is_some p → cond b true (has_key order k xs) ≡ is_some (cond b (Some 0) (option_map suc p))
      by true p rec = refl
      by false None rec = rec
      by false (Some j) rec = rec

  pub has_key_entry : (k : E) (xs : List E) → has_key order k xs ≡ is_some (entry_of order k xs)
  has_key_entry k [] = refl
  has_key_entry k (x ∷ xs) = by (same_key order k x) (has_key_entry k xs)
    where
      by : (b : Bool) → has_key order k xs ≡ is_some (entry_of order k xs) → cond b true (has_key order k xs) ≡ is_some (cond b (Some x) (entry_of order k xs))
      by true rec = refl
      by false rec = rec

  pub found_key : (k : E) (xs : List E) (x : E) → entry_of order k xs ≡ Some x → same_key order k x ≡ true
  found_key k [] x q = let z : ⊥ = cc in absurd z
  found_key k (y ∷ xs) x q = by (same_key order k y) refl q (λ h. found_key k xs x h)
    where
      by : (b : Bool) → same_key order k y ≡ b → cond b (Some y) (entry_of order k xs) ≡ Some x → (entry_of order k xs ≡ Some x → same_key order k x ≡ true) → same_key order k x ≡ true
      by true h q rec = let e : y ≡ x = cc in subst (λ v. same_key order k v ≡ true) e h
      by false h q rec = rec q

  pub without_absent : (k : E) (xs : List E) → has_key order k xs ≡ false → without_key order k xs ≡ xs
  without_absent k [] q = refl
  without_absent k (x ∷ xs) q = by (same_key order k x) q (λ h. without_absent k xs h)
    where
      by : (b : Bool) → cond b true (has_key order k xs) ≡ false → (has_key order k xs ≡ false → without_key order k xs ≡ xs) → cond b xs (x ∷ without_key order k xs) ≡ x ∷ xs
      by true q rec = let z : ⊥ = cc in absurd z
      by false q rec = ap (λ ys. x ∷ ys) (rec q)

  pub length_without : (k : E) (xs : List E) → length xs ≡ cond (has_key order k xs) (suc (length (without_key order k xs))) (length (without_key order k xs))
  length_without k [] = refl
  length_without k (x ∷ xs) = by (same_key order k x) (has_key order k xs) (length_without k xs)
    where
      by : (b h : Bool) → length xs ≡ cond h (suc (length (without_key order k xs))) (length (without_key order k xs)) → suc (length xs) ≡ cond (cond b true h) (suc (length (cond b xs (x ∷ without_key order k xs)))) (length (cond b xs (x ∷ without_key order k xs)))
      by true h rec = refl
      by false true rec = ap suc rec
      by false false rec = ap suc rec

module _ {E : Type 0} {order : E → E → Ordering} (law : Lawful order) where
  pub itself : (x : E) → order x x ≡ Equal
  itself = tied_itself law

  pub other_key : (j k x : E) → same_key order j k ≡ false → order k x ≡ Equal → same_key order j x ≡ false
  other_key j k x h q =
      ap is_eq (law.antisymm j x) ∙ same_turned (order x j) ∙ ap is_eq (sym (law.congr k x j q)) ∙ sym (same_turned (order k j)) ∙ ap is_eq (sym (law.antisymm j k)) ∙ h

  pub entry_of_with : (e : E) (xs : List E) → entry_of order e (with_entry order e xs) ≡ Some e
  entry_of_with e [] = rw (itself e)
  entry_of_with e (x ∷ xs) = by (order e x) refl (entry_of_with e xs)
    where
      by : (o : Ordering) → order e x ≡ o → entry_of order e (with_entry order e xs) ≡ Some e → entry_of order e (by_order o (e ∷ (x ∷ xs)) (e ∷ xs) (x ∷ with_entry order e xs)) ≡ Some e
      by Less h rec = rw (itself e)
      by Equal h rec = rw (itself e)
      by Greater h rec = rw h rec

  pub entry_of_with_other : (e k : E) (xs : List E) → same_key order k e ≡ false → entry_of order k (with_entry order e xs) ≡ entry_of order k xs
  entry_of_with_other e k [] n = rw n
  entry_of_with_other e k (x ∷ xs) n = by (order e x) refl (entry_of_with_other e k xs n)
    where
      by : (o : Ordering) → order e x ≡ o → entry_of order k (with_entry order e xs) ≡ entry_of order k xs → entry_of order k (by_order o (e ∷ (x ∷ xs)) (e ∷ xs) (x ∷ with_entry order e xs)) ≡ entry_of order k (x ∷ xs)
      by Less h rec = rw n
      by Equal h rec = rw (n, other_key k e x n h)
      by Greater h rec = ap (cond (same_key order k x) (Some x)) rec

  -- the keys behind the first are greater, so what equals the first is not among them
  pub none_behind : (k x : E) (xs : List E) → Ascending order (x ∷ xs) → order k x ≡ Equal → entry_of order k xs ≡ None
  none_behind k x xs up h =
      let p = equal_at law k (x ∷ xs) up 0 (omega arith) h in
      (absent order k xs 0 (record { within = omega arith; before = λ j l. absurd (let z : ⊥ = omega arith in z); behind = λ j l m. p.behind (suc j) (omega arith) (omega arith) })).entry

  pub entry_of_without : (k : E) (xs : List E) → Ascending order xs → entry_of order k (without_key order k xs) ≡ None
  entry_of_without k [] up = refl
  entry_of_without k (x ∷ xs) up = by (order k x) refl (entry_of_without k xs (ascending_tail order x xs up))
    where
      by : (o : Ordering) → order k x ≡ o → entry_of order k (without_key order k xs) ≡ None → entry_of order k (cond (is_eq o) xs (x ∷ without_key order k xs)) ≡ None
      by Less h rec = rw h rec
      by Equal h rec = none_behind k x xs up h
      by Greater h rec = rw h rec

  pub entry_of_without_other : (k j : E) (xs : List E) → same_key order j k ≡ false → entry_of order j (without_key order k xs) ≡ entry_of order j xs
  entry_of_without_other k j [] n = refl
  entry_of_without_other k j (x ∷ xs) n = by (order k x) refl (entry_of_without_other k j xs n)
    where
      by : (o : Ordering) → order k x ≡ o → entry_of order j (without_key order k xs) ≡ entry_of order j xs → entry_of order j (cond (is_eq o) xs (x ∷ without_key order k xs)) ≡ entry_of order j (x ∷ xs)
      by Less h rec = ap (cond (same_key order j x) (Some x)) rec
      by Equal h rec = rw (other_key j k x n h)
      by Greater h rec = ap (cond (same_key order j x) (Some x)) rec

  pub place_counts : (k : E) (xs : List E) (i : ℕ) → Ascending order xs → place_of order k xs ≡ Some i → i ≡ smaller order k xs
  place_counts k xs i up q = sym (present order k xs i (present_from order law k xs i up q)).count

  pub length_with : (e : E) (xs : List E) → Ascending order xs → length (with_entry order e xs) ≡ cond (has_key order e xs) (length xs) (suc (length xs))
  length_with e xs up =
      ⊎_elim (λ (f : (i : ℕ) × PresentAt order e xs i). let p = present order e xs f.0 f.1 in rw (p.has, p.added) (length-set xs f.0 e))
      (λ (f : (i : ℕ) × AbsentAt order e xs i). let w = f.1.within in let a = absent order e xs f.0 f.1 in rw (a.has, a.added) (simp (length-append, length-take, length-drop) (omega arith)))
      (located order law e xs up)

  first_found : (x : E) (xs : List E) → entry_of order x (x ∷ xs) ≡ Some x
  first_found x xs = rw (itself x)

  less_missing : (x y : E) (ys : List E) → Ascending order (y ∷ ys) → order x y ≡ Less → entry_of order x (y ∷ ys) ≡ None
  less_missing x y ys up h =
      (absent order x (y ∷ ys) 0 (record { within = omega arith; before = λ j l. absurd (let z : ⊥ = omega arith in z); behind = λ j l m. under law x (y ∷ ys) up 0 j l m h })).entry

  tails : (x : E) (xs ys : List E) → Ascending order (x ∷ xs) → Ascending order (x ∷ ys) → ((k : E) → entry_of order k (x ∷ xs) ≡ entry_of order k (x ∷ ys)) → (k : E) → entry_of order k xs ≡ entry_of order k ys
  tails x xs ys up vp h k = by (same_key order k x) refl (h k)
    where
      by : (b : Bool) → same_key order k x ≡ b → cond b (Some x) (entry_of order k xs) ≡ cond b (Some x) (entry_of order k ys) → entry_of order k xs ≡ entry_of order k ys
      by true q r = none_behind k x xs up (equal_from_same (order k x) q) ∙ sym (none_behind k x ys vp (equal_from_same (order k x) q))
      by false q r = r

  pub same_lookups : (xs ys : List E) → Ascending order xs → Ascending order ys → ((k : E) → entry_of order k xs ≡ entry_of order k ys) → xs ≡ ys
  same_lookups [] [] up vp h = refl
  same_lookups [] (y ∷ ys) up vp h = let f = first_found y ys in let q = h y in let z : ⊥ = cc in absurd z
  same_lookups (x ∷ xs) [] up vp h = let f = first_found x xs in let q = h x in let z : ⊥ = cc in absurd z
  same_lookups (x ∷ xs) (y ∷ ys) up vp h = by (order x y) refl
      (λ vp' h'. same_lookups xs ys (ascending_tail order x xs up) (ascending_tail order x ys vp') (tails x xs ys up vp' h'))
    where
      by : (o : Ordering) → order x y ≡ o → (Ascending order (x ∷ ys) → ((k : E) → entry_of order k (x ∷ xs) ≡ entry_of order k (x ∷ ys)) → xs ≡ ys) → x ∷ xs ≡ y ∷ ys
      by Less q rec = let f = first_found x xs in let m = less_missing x y ys vp q in let r = h x in let z : ⊥ = cc in absurd z
      by Greater q rec = let f = first_found y ys in let m = less_missing y x xs up (law.antisymm y x ∙ ap ordering_reverse q) in let r = h y in let z : ⊥ = cc in absurd z
      by Equal q rec =
          let f = first_found x xs in
          let m : entry_of order x (y ∷ ys) ≡ Some y = rw q in
          let r = h x in
          let e : x ≡ y = cc in
          let tail : xs ≡ ys = rec (subst (λ v. Ascending order (v ∷ ys)) (sym e) vp) (subst (λ v. (k : E) → entry_of order k (x ∷ xs) ≡ entry_of order k (v ∷ ys)) (sym e) h) in
          cc

  pub lookup_laws : LookupLaws order
  lookup_laws =
      record {
        added_key = entry_of_with;
        added_others = entry_of_with_other;
        added_ascends = ascending_with order law;
        removed_key = entry_of_without;
        removed_absent = without_absent order;
        removed_others = entry_of_without_other;
        removed_ascends = ascending_without order;
        place_holds = place_holds order;
        place_counts = place_counts;
        no_place = no_place order;
        determined = same_lookups;
      }
