-- The tests of lawful rows and records, as searches through them make them.
use Rattle.std.proofs.Common.{◌≡◌, ℕ, suc, cond, nat_lt, position, eqb, not, ◌+◌, ◌<◌, Bool, true, false, ◌&&◌, List, [], ◌∷◌, ◌++◌, length, ℤ, pos, negsuc, Some, None, Option, sym, refl, ap, ◌∙◌, arith, w32, SFits, of_z}
use Rattle.std.specs.Bool.{MatchBool}
use Rattle.std.specs.Option.{option_map, MatchOption, IfNone}
use Rattle.std.proofs.lemmas.Bool.Decides.{nat_tests}
use Rattle.std.proofs.lemmas.Int.{ints}
use Rattle.std.proofs.lemmas.Bool.{eq-eqb, ne_eqb, eqb-true, eqb-false}
use Rattle.message.specs.declared.record.Record.{Record}
use Rattle.std.specs.List.{AllByRecursion, position_or_len, list_all}
use Rattle.message.specs.Lawful.{column_lawful, columns_lawful, lawful, first_unlawful, InRange}

smallest_by_bits : (v : ℤ) → SFits w32 v → of_z w32 v ≡ 2147483648 → column_lawful v ≡ false
smallest_by_bits (pos n) f e = absurd (omega (arith, ints))
smallest_by_bits (negsuc n) f e = let k : n ≡ 2147483647 = omega (arith, ints) in rw (eq-eqb n 2147483647 k) refl

other_by_bits : (v : ℤ) → SFits w32 v → (of_z w32 v ≡ 2147483648 → ⊥) → column_lawful v ≡ true
other_by_bits (pos n) f e = refl
other_by_bits (negsuc n) f e = rw (ne_eqb n 2147483647 (λ k. e (omega (arith, ints)))) refl

-- the test of a column, by its bits
pub lawful_by_bits : (v : ℤ) → SFits w32 v → not (eqb (of_z w32 v) 2147483648) ≡ column_lawful v
lawful_by_bits v f = by (eqb (of_z w32 v) 2147483648) refl
  where
    by : (t : Bool) → eqb (of_z w32 v) 2147483648 ≡ t → not t ≡ column_lawful v
    by true h = sym (smallest_by_bits v f (eqb-true (of_z w32 v) 2147483648 h))
    by false h = sym (other_by_bits v f (eqb-false (of_z w32 v) 2147483648 h))

pub all_lawful : (row : List ℤ) → list_all column_lawful row ≡ columns_lawful row
all_lawful [] = refl
all_lawful (v ∷ row) = ap (λ b. column_lawful v && b) (all_lawful row)

-- what is known where each column passed
pub where_true : {A C : Type 0} (B : Type 0) (r : Bool) → MatchBool r A B → (A → C) → r ≡ true → C
where_true B true h f e = f h
where_true B false h f e = let z : ⊥ = cc in absurd z

pub lawful_append : (xs ys : List ℤ) → columns_lawful (xs ++ ys) ≡ (columns_lawful xs && columns_lawful ys)
lawful_append [] ys = refl
lawful_append (x ∷ xs) ys = by (column_lawful x) (lawful_append xs ys)
  where
    by : (b : Bool) → columns_lawful (xs ++ ys) ≡ (columns_lawful xs && columns_lawful ys) → (b && columns_lawful (xs ++ ys)) ≡ ((b && columns_lawful xs) && columns_lawful ys)
    by true e = e
    by false e = refl

-- the first unlawful record, as a search finds it
shifted : (m l : ℕ) → cond (nat_lt (1 + m) (suc l)) (Some (1 + m)) None ≡ option_map suc (cond (nat_lt m l) (Some m) None)
shifted m l = grind (arith, nat_tests)

first : (l : ℕ) → cond {A = Option ℕ} (nat_lt 0 (suc l)) (Some 0) None ≡ Some 0
first l = grind (arith, nat_tests)

pub first_is : (rs : List Record) → position (λ r. not (lawful r)) rs ≡ first_unlawful rs
first_is [] = refl
first_is (r ∷ rs) = by (lawful r) refl (first_is rs)
  where
    by : (t : Bool) → lawful r ≡ t → position (λ r. not (lawful r)) rs ≡ first_unlawful rs → position (λ r. not (lawful r)) (r ∷ rs) ≡ first_unlawful (r ∷ rs)
    by true e h = rw e (shifted (position_or_len (λ r. not (lawful r)) rs) (length rs) ∙ ap (option_map suc) h)
    by false e h = rw e (first (length rs))

-- what is known where a search found nothing
pub where_none : {A C : Type 0} (B : ℕ → Type 0) (r : Option ℕ) → MatchOption r A B → (A → C) → IfNone r C
where_none B None h f = f h
where_none B (Some n) h f = tt

pub in_range : (r : Record) → length r.row ≡ 8 → AllByRecursion (SFits w32) r.row → r.count < 65536 → InRange r
in_range r eight fits small = record { eight = eight; columns = fits; count = small }
