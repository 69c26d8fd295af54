-- Where the first entry with a greater key stands. Assumes nothing.
--     after_absent, after_present      where no entry has the key, and where one has it
--     after_none, after_some           the same, told from the key's place
use Rattle.std.proofs.Common.{◌≡◌, ℕ, zero, suc, List, [], ◌∷◌, Some, None, Ordering, Less, Equal, Greater, refl, arith}
use Rattle.std.specs.List.{slice_get}
use Rattle.table.specs.Order.{Lawful}
use Rattle.table.specs.Entries.{Ascending, place_of, smaller, first_after}
use Rattle.table.proofs.Located.{AbsentAt, PresentAt, present_from, absent_from}

module _ {E : Type 0} (order : E → E → Ordering) (k : E) where
  after_absent : (xs : List E) (i : ℕ) → AbsentAt order k xs i → slice_get xs i ≡ first_after order k xs
  after_absent [] i a = refl
  after_absent (x ∷ xs) zero a = let h : order k x ≡ Less = a.behind 0 (omega arith) (omega arith) in rw h
  after_absent (x ∷ xs) (suc i) a =
      let h : order k x ≡ Greater = a.before 0 (omega arith) in
      let w = a.within in
      rw h (after_absent xs i (record { within = omega arith; before = λ j l. a.before (suc j) (omega arith); behind = λ j l m. a.behind (suc j) (omega arith) (omega arith) }))

  after_present : (xs : List E) (i : ℕ) → PresentAt order k xs i → slice_get xs (suc i) ≡ first_after order k xs
  after_present [] i p = refl
  after_present (x ∷ xs) zero p =
      let h : order k x ≡ Equal = p.here in
      rw h (after_absent xs 0 (record { within = omega arith; before = λ j l. absurd (let z : ⊥ = omega arith in z); behind = λ j l m. p.behind (suc j) (omega arith) (omega arith) }))
  after_present (x ∷ xs) (suc i) p =
      let h : order k x ≡ Greater = p.before 0 (omega arith) in
      let w = p.within in
      rw h (after_present xs i (record { within = omega arith; before = λ j l. p.before (suc j) (omega arith); here = p.here; behind = λ j l m. p.behind (suc j) (omega arith) (omega arith) }))

  pub after_none : Lawful order → (xs : List E) → Ascending order xs → place_of order k xs ≡ None → slice_get xs (smaller order k xs) ≡ first_after order k xs
  after_none law xs up q = after_absent xs (smaller order k xs) (absent_from order law k xs up q)

  pub after_some : Lawful order → (xs : List E) (i : ℕ) → Ascending order xs → place_of order k xs ≡ Some i → slice_get xs (suc i) ≡ first_after order k xs
  after_some law xs i up q = after_present xs i (present_from order law k xs i up q)
