-- What the place of a key says of an ascending list. Assumes nothing.
--     AbsentAt k xs i       no entry has k's key, and i entries have a smaller one
--     PresentAt k xs i      the entry at place i has k's key
--     absent, present       what the words of `Entries` give there
--     flipped               how two entries compare the other way round
--     located               every key is one of the two
use Rattle.std.proofs.Common.{◌≡◌, ℕ, zero, suc, ◌<◌, ◌≤◌, true, false, ◌⊎◌, List, [], ◌∷◌, ◌++◌, length, get_or, take, drop, set, Some, None, Ordering, Less, Equal, Greater, sym, refl, ap, ◌∙◌, subst, inl, inr, ⊎_elim, arith}
use Rattle.std.specs.Ordering.{ordering_reverse}
use Rattle.std.specs.List.Sorted.{IsStrictlySortedBy}
use Rattle.std.proofs.lemmas.Map.Keys.{Less-from_sorted}
use Rattle.table.proofs.SortedTests.{sorted_from_test, test_from_sorted}
use Rattle.std.proofs.lemmas.Bool.{cases_eq}
use Rattle.table.specs.Order.{Lawful}
use Rattle.table.specs.Entries.{Ascending, has_key, entry_of, place_of, smaller, with_entry, without_key}

module _ {E : Type 0} (order : E → E → Ordering) (k : E) where
  -- the keys before place i are smaller than k's, the others greater
  pub record AbsentAt (xs : List E) (i : ℕ) : Type 0 where
    pub within : i ≤ length xs
    pub before : (j : ℕ) → j < i → order k (get_or xs j k) ≡ Greater
    pub behind : (j : ℕ) → i ≤ j → j < length xs → order k (get_or xs j k) ≡ Less

  -- the keys before place i are smaller than k's, the one there is equal, the others are greater
  pub record PresentAt (xs : List E) (i : ℕ) : Type 0 where
    pub within : i < length xs
    pub before : (j : ℕ) → j < i → order k (get_or xs j k) ≡ Greater
    pub here : order k (get_or xs i k) ≡ Equal
    pub behind : (j : ℕ) → i < j → j < length xs → order k (get_or xs j k) ≡ Less

  pub record Absent (xs : List E) (i : ℕ) : Type 0 where
    pub place : place_of order k xs ≡ None
    pub has : has_key order k xs ≡ false
    pub entry : entry_of order k xs ≡ None
    pub count : smaller order k xs ≡ i
    pub added : with_entry order k xs ≡ take i xs ++ (k ∷ drop i xs)
    pub removed : without_key order k xs ≡ xs

  pub record Present (xs : List E) (i : ℕ) : Type 0 where
    pub place : place_of order k xs ≡ Some i
    pub has : has_key order k xs ≡ true
    pub entry : entry_of order k xs ≡ Some (get_or xs i k)
    pub count : smaller order k xs ≡ i
    pub added : with_entry order k xs ≡ set xs i k
    pub removed : without_key order k xs ≡ take i xs ++ drop (suc i) xs

  pub absent : (xs : List E) (i : ℕ) → AbsentAt xs i → Absent xs i
  absent [] zero a = record { place = refl; has = refl; entry = refl; count = refl; added = refl; removed = refl }
  absent [] (suc i) a = let w = a.within in absurd (let z : ⊥ = omega arith in z)
  absent (x ∷ xs) zero a =
      let h : order k x ≡ Less = a.behind 0 (omega arith) (omega arith) in
      let r = absent xs 0 (record { within = omega arith; before = λ j l. absurd (let z : ⊥ = omega arith in z); behind = λ j l m. a.behind (suc j) (omega arith) (omega arith) }) in
      record {
        place = rw (h, r.place);
        has = rw (h, r.has);
        entry = rw (h, r.entry);
        count = rw (h, r.count);
        added = rw h;
        removed = rw (h, r.removed);
      }
  absent (x ∷ xs) (suc i) a =
      let h : order k x ≡ Greater = a.before 0 (omega arith) in
      let w = a.within in
      let r = absent xs i (record { within = omega arith; before = λ j l. a.before (suc j) (omega arith); behind = λ j l m. a.behind (suc j) (omega arith) (omega arith) }) in
      record {
        place = rw (h, r.place);
        has = rw (h, r.has);
        entry = rw (h, r.entry);
        count = rw (h, r.count);
        added = rw (h, r.added);
        removed = rw (h, r.removed);
      }

  pub present : (xs : List E) (i : ℕ) → PresentAt xs i → Present xs i
  present [] i p = let w = p.within in absurd (let z : ⊥ = omega arith in z)
  present (x ∷ xs) zero p =
      let h : order k x ≡ Equal = p.here in
      let r = absent xs 0 (record { within = omega arith; before = λ j l. absurd (let z : ⊥ = omega arith in z); behind = λ j l m. p.behind (suc j) (omega arith) (omega arith) }) in
      record {
        place = rw h;
        has = rw h;
        entry = rw h;
        count = rw (h, r.count);
        added = rw h;
        removed = rw h;
      }
  present (x ∷ xs) (suc i) p =
      let h : order k x ≡ Greater = p.before 0 (omega arith) in
      let w = p.within in
      let r = present xs i (record { within = omega arith; before = λ j l. p.before (suc j) (omega arith); here = p.here; behind = λ j l m. p.behind (suc j) (omega arith) (omega arith) }) in
      record {
        place = rw (h, r.place);
        has = rw (h, r.has);
        entry = rw (h, r.entry);
        count = rw (h, r.count);
        added = rw (h, r.added);
        removed = rw (h, r.removed);
      }

pub flipped : {E : Type 0} {order : E → E → Ordering} → Lawful order → (x y : E) (o : Ordering) → order x y ≡ o → order y x ≡ ordering_reverse o
flipped law x y o h = law.antisymm y x ∙ ap ordering_reverse h

-- a comparison with one entry of an ascending list says how the key stands to others
module _ {E : Type 0} {order : E → E → Ordering} (law : Lawful order) (k : E) (xs : List E) (up : Ascending order xs) where
  sorted : IsStrictlySortedBy order xs
  sorted = sorted_from_test order xs up

  pub over : (j i : ℕ) → j ≤ i → i < length xs → order k (get_or xs i k) ≡ Greater → order k (get_or xs j k) ≡ Greater
  over j i le lt h =
      ⊎_elim (λ (q : j ≡ i). subst (λ n. order k (get_or xs n k) ≡ Greater) (sym q) h)
      (λ (q : j ≡ i → ⊥). let before : j < i = omega arith in
      flipped law (get_or xs j k) k Less (law.trans (get_or xs j k) (get_or xs i k) k (Less-from_sorted order xs j i k sorted before lt) (flipped law k (get_or xs i k) Greater h)))
      (cases_eq j i)

  pub under : (i j : ℕ) → i ≤ j → j < length xs → order k (get_or xs i k) ≡ Less → order k (get_or xs j k) ≡ Less
  under i j le lt h =
      ⊎_elim (λ (q : i ≡ j). subst (λ n. order k (get_or xs n k) ≡ Less) q h)
      (λ (q : i ≡ j → ⊥). let before : i < j = omega arith in
      law.trans k (get_or xs i k) (get_or xs j k) h (Less-from_sorted order xs i j k sorted before lt))
      (cases_eq i j)

  pub equal_at : (i : ℕ) → i < length xs → order k (get_or xs i k) ≡ Equal → PresentAt order k xs i
  equal_at i lt h =
      record {
        within = lt;
        before = λ j l. law.congr k (get_or xs i k) (get_or xs j k) h ∙ flipped law (get_or xs j k) (get_or xs i k) Less (Less-from_sorted order xs j i k sorted l lt);
        here = h;
        behind = λ j l m. law.congr k (get_or xs i k) (get_or xs j k) h ∙ Less-from_sorted order xs i j k sorted l m;
      }

module _ {E : Type 0} (order : E → E → Ordering) where
  pub ascending_tail : (x : E) (xs : List E) → Ascending order (x ∷ xs) → Ascending order xs
  unfolding IsStrictlySortedBy
  ascending_tail x xs up = test_from_sorted order xs (sorted_from_test order (x ∷ xs) up).1

  abbrev pub Located : E → List E → Type 0
  Located k xs = ((i : ℕ) × PresentAt order k xs i) ⊎ ((i : ℕ) × AbsentAt order k xs i)

  past : (k x : E) (xs : List E) → order k x ≡ Greater → Located k xs → Located k (x ∷ xs)
  past k x xs h (inl (i, p)) =
      inl (suc i, record { within = let w = p.within in omega arith; before = λ j l. after j l; here = p.here; behind = λ j l m. behind j l m })
    where
      after : (j : ℕ) → j < suc i → order k (get_or (x ∷ xs) j k) ≡ Greater
      after zero l = h
      after (suc j) l = p.before j (omega arith)

      behind : (j : ℕ) → suc i < j → j < length (x ∷ xs) → order k (get_or (x ∷ xs) j k) ≡ Less
      behind zero l m = absurd (let z : ⊥ = omega arith in z)
      behind (suc j) l m = p.behind j (omega arith) (omega arith)
  past k x xs h (inr (i, a)) =
      inr (suc i, record { within = let w = a.within in omega arith; before = λ j l. after j l; behind = λ j l m. behind j l m })
    where
      after : (j : ℕ) → j < suc i → order k (get_or (x ∷ xs) j k) ≡ Greater
      after zero l = h
      after (suc j) l = a.before j (omega arith)

      behind : (j : ℕ) → suc i ≤ j → j < length (x ∷ xs) → order k (get_or (x ∷ xs) j k) ≡ Less
      behind zero l m = absurd (let z : ⊥ = omega arith in z)
      behind (suc j) l m = a.behind j (omega arith) (omega arith)

  by_head : Lawful order → (k x : E) (xs : List E) → Ascending order (x ∷ xs) → (o : Ordering) → order k x ≡ o → Located k xs → Located k (x ∷ xs)
  by_head law k x xs up Less h rest = inr (0, record { within = omega arith; before = λ j l. absurd (let z : ⊥ = omega arith in z); behind = λ j l m. under law k (x ∷ xs) up 0 j l m h })
  by_head law k x xs up Equal h rest = inl (0, equal_at law k (x ∷ xs) up 0 (omega arith) h)
  by_head law k x xs up Greater h rest = past k x xs h rest

  pub located : Lawful order → (k : E) (xs : List E) → Ascending order xs → Located k xs
  located law k [] up = inr (0, record { within = omega arith; before = λ j l. absurd (let z : ⊥ = omega arith in z); behind = λ j l m. absurd (let z : ⊥ = omega arith in z) })
  located law k (x ∷ xs) up = by_head law k x xs up (order k x) refl (located law k xs (ascending_tail x xs up))

  pub present_from : Lawful order → (k : E) (xs : List E) (i : ℕ) → Ascending order xs → place_of order k xs ≡ Some i → PresentAt order k xs i
  present_from law k xs i up q =
      ⊎_elim (λ (f : (j : ℕ) × PresentAt order k xs j). let e = (present order k xs f.0 f.1).place in let same : f.0 ≡ i = cc in subst (PresentAt order k xs) same f.1)
      (λ (f : (j : ℕ) × AbsentAt order k xs j). let e = (absent order k xs f.0 f.1).place in let z : ⊥ = cc in absurd z)
      (located law k xs up)

  pub absent_from : Lawful order → (k : E) (xs : List E) → Ascending order xs → place_of order k xs ≡ None → AbsentAt order k xs (smaller order k xs)
  absent_from law k xs up q =
      ⊎_elim (λ (f : (j : ℕ) × PresentAt order k xs j). let e = (present order k xs f.0 f.1).place in let z : ⊥ = cc in absurd z)
      (λ (f : (j : ℕ) × AbsentAt order k xs j). subst (AbsentAt order k xs) (sym (absent order k xs f.0 f.1).count) f.1)
      (located law k xs up)
