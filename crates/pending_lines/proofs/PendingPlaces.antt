-- What the rank of a key says of its change, of more copies at the key, and of the next key. Assumes nothing.
--     Absent xs k i, Present xs k i      what holds where no line has the key, and where the line at place i has it
--     found_absent, found_present        these, by what a search answers
use Rattle.std.proofs.Common.{Ok, Err, cond, ◌≡◌, ℕ, suc, ◌<◌, ◌≤◌, Bool, true, false, ltb, [], ◌∷◌, ◌++◌, length, get_or, take, drop, ℤ, pos, ◌+ℤ◌, Ordering, Less, Equal, Greater, sym, refl, ap, ◌∙◌, subst, ap₂, arith}
use lib.IntN.{+ℤ_idl}
use Rattle.std.specs.Ordering.{is_eq, ordering_reverse}
use Rattle.std.proofs.lemmas.Bool.{ltb-true, ltb-false}
use Rattle.bag.specs.Order.{Row, row_order}
use Rattle.bag.specs.Bag.{Line, Lines, is_zero, if_less, count, with_line, add_copies, Before, Canonical, next}
use Rattle.bag.proofs.Numbers.{not_zero, zero_is}
use Rattle.bag.specs.RowOrder.{order_equal, order_turned, greater_less, less_greater}
use Rattle.bag.proofs.CanonicalForm.{count_before, count_head}
use Rattle.bag.proofs.NextRow.{first_line, next_first, rows_after_before}
use Rattle.pending_lines.specs.ChangeLists.{no_line, rank, found_at}

pub record Absent (xs : Lines) (k : Row) (i : ℕ) : Type 0 where
  pub none : count xs k ≡ pos 0
  pub within : i ≤ length xs
  pub added : (n : ℤ) → is_zero n ≡ false → add_copies k n xs ≡ take i xs ++ ((k, n) ∷ drop i xs)
  pub after : next xs k ≡ first_line (drop i xs)

pub record Present (xs : Lines) (k : Row) (i : ℕ) : Type 0 where
  pub some : is_zero (count xs k) ≡ false
  pub within : i < length xs
  pub row : (get_or xs i no_line).0 ≡ k
  pub change : (get_or xs i no_line).1 ≡ count xs k
  pub added : (n : ℤ) → add_copies k n xs ≡ take i xs ++ with_line k (n +ℤ count xs k) (drop (suc i) xs)
  pub after : next xs k ≡ first_line (drop (suc i) xs)

equal_turned : (a b : Row) → row_order a b ≡ Equal → row_order b a ≡ Equal
equal_turned a b q = order_turned b a ∙ ap ordering_reverse q

next_before : (k : Row) (xs : Lines) → Before k xs → next xs k ≡ first_line xs
next_before k xs b = next_first xs k ∙ ap first_line (rows_after_before k xs b)

module _ (k : Row) where
  count_behind : (e : Line) (xs : Lines) → row_order e.0 k ≡ Less → count (e ∷ xs) k ≡ count xs k
  unfolding count
  count_behind e xs q = rw q (+ℤ_idl (count xs k))

  pub absent : (xs : Lines) → Canonical xs → (rank xs k < length xs → row_order (get_or xs (rank xs k) no_line).0 k ≡ Equal → ⊥) → Absent xs k (rank xs k)
  unfolding rank count add_copies next
  absent [] c n = record { none = refl; within = omega arith; added = λ m z. rw z; after = refl }
  absent (e ∷ xs) c n = by (row_order e.0 k) refl n (absent xs c.2)
    where
      by : (o : Ordering) → row_order e.0 k ≡ o
          → (if_less o (suc (rank xs k)) 0 < suc (length xs) → row_order (get_or (e ∷ xs) (if_less o (suc (rank xs k)) 0) no_line).0 k ≡ Equal → ⊥)
          → ((rank xs k < length xs → row_order (get_or xs (rank xs k) no_line).0 k ≡ Equal → ⊥) → Absent xs k (rank xs k))
          → Absent (e ∷ xs) k (if_less o (suc (rank xs k)) 0)
      by Less q n rec =
          let a = rec (λ l m. n (omega arith) m) in
          let t = less_greater e.0 k q in
          let w = a.within in
          record { none = count_behind e xs q ∙ a.none; within = omega arith; added = λ m z. rw t (ap (λ ys. e ∷ ys) (a.added m z)); after = rw t a.after }
      by Equal q n rec = absurd (n (omega arith) q)
      by Greater q n rec =
          let t = greater_less e.0 k q in
          record { none = count_before k (e ∷ xs) c t; within = omega arith; added = λ m z. rw (t, z); after = rw t }

  pub present : (xs : Lines) → Canonical xs → rank xs k < length xs → row_order (get_or xs (rank xs k) no_line).0 k ≡ Equal → Present xs k (rank xs k)
  unfolding rank count add_copies next
  present [] c l h = absurd (let z : ⊥ = omega arith in z)
  present (e ∷ xs) c l h = by (row_order e.0 k) refl l h (present xs c.2)
    where
      by : (o : Ordering) → row_order e.0 k ≡ o
          → if_less o (suc (rank xs k)) 0 < suc (length xs) → row_order (get_or (e ∷ xs) (if_less o (suc (rank xs k)) 0) no_line).0 k ≡ Equal
          → (rank xs k < length xs → row_order (get_or xs (rank xs k) no_line).0 k ≡ Equal → Present xs k (rank xs k))
          → Present (e ∷ xs) k (if_less o (suc (rank xs k)) 0)
      by Less q l h rec =
          let p = rec (omega arith) h in
          let t = less_greater e.0 k q in
          let n = count_behind e xs q in
          let w = p.within in
          record {
            some = ap is_zero n ∙ p.some;
            within = omega arith;
            row = p.row;
            change = p.change ∙ sym n;
            added = λ m. rw t (ap (λ ys. e ∷ ys) (p.added m) ∙ ap (λ z. e ∷ (take (rank xs k) xs ++ with_line k (m +ℤ z) (drop (suc (rank xs k)) xs))) (sym n));
            after = rw t p.after;
          }
      by Equal q l h rec =
          let same : e.0 ≡ k = order_equal e.0 k q in
          let t = equal_turned e.0 k q in
          let n : count (e ∷ xs) k ≡ e.1 = ap (count (e ∷ xs)) (sym same) ∙ count_head e xs c in
          record {
            some = ap is_zero n ∙ c.0;
            within = omega arith;
            row = same;
            change = sym n;
            added = λ m. rw t (ap₂ (λ r z. with_line r (m +ℤ z) xs) same (sym n));
            after = rw t (next_before k xs (subst (λ r. Before r xs) same c.1));
          }
      by Greater q l h rec = let z : ◌≡◌ {A = ℕ} 0 1 = cc in absurd (omega arith)

  -- by what the search answers
  module _ (xs : Lines) (c : Canonical xs) where
    absent_since : is_zero (count xs k) ≡ true → Absent xs k (rank xs k)
    absent_since h = absent xs c (λ l m. not_zero (count xs k) (present xs c l m).some (zero_is (count xs k) h))

    present_since : is_zero (count xs k) ≡ false → Present xs k (rank xs k)
    present_since h = by (ltb (rank xs k) (length xs)) (is_eq (row_order (get_or xs (rank xs k) no_line).0 k)) refl refl
      where
        is_equal : (o : Ordering) → is_eq o ≡ true → o ≡ Equal
        is_equal Less h = let z : ◌≡◌ {A = ℕ} 0 1 = cc in absurd (omega arith)
        is_equal Equal h = refl
        is_equal Greater h = let z : ◌≡◌ {A = ℕ} 0 1 = cc in absurd (omega arith)

        by : (b d : Bool) → ltb (rank xs k) (length xs) ≡ b → is_eq (row_order (get_or xs (rank xs k) no_line).0 k) ≡ d → Present xs k (rank xs k)
        by true true p q = present xs c (ltb-true (rank xs k) (length xs) p) (is_equal (row_order (get_or xs (rank xs k) no_line).0 k) q)
        by true false p q = absurd (not_zero (count xs k) h (absent xs c (λ l m. let y : is_eq (row_order (get_or xs (rank xs k) no_line).0 k) ≡ true = ap is_eq m in let z : ◌≡◌ {A = ℕ} 0 1 = cc in omega arith)).none)
        by false d p q = let o = ltb-false (rank xs k) (length xs) p in absurd (not_zero (count xs k) h (absent xs c (λ l m. omega arith)).none)

    pub found_present : (i : ℕ) → Ok i ≡ found_at xs k → Present xs k i
    found_present i h = by (is_zero (count xs k)) refl h
      where
        by : (z : Bool) → is_zero (count xs k) ≡ z → Ok i ≡ cond z (Err (rank xs k)) (Ok (rank xs k)) → Present xs k i
        by true q e = let z : ⊥ = cc in absurd z
        by false q e = let same : i ≡ rank xs k = cc in subst (Present xs k) (sym same) (present_since q)

    pub found_absent : (i : ℕ) → Err i ≡ found_at xs k → Absent xs k i
    found_absent i h = by (is_zero (count xs k)) refl h
      where
        by : (z : Bool) → is_zero (count xs k) ≡ z → Err i ≡ cond z (Err (rank xs k)) (Ok (rank xs k)) → Absent xs k i
        by true q e = let same : i ≡ rank xs k = cc in subst (Absent xs k) (sym same) (absent_since q)
        by false q e = let z : ⊥ = cc in absurd z
