-- What more or fewer copies of one row do to a lawful holding. Assumes nothing.
--     put_says, take_says      what an accepted put or take says of the holding
--     left_either              what holds of both values holds of what a call leaves
--     copies_here, copies_elsewhere, lawful_moved, lines-moved      the counts, the bounds and the lines after
use Rattle.std.proofs.Common.{◌≡◌, ℕ, zero, suc, ◌+◌, ◌<◌, ◌≤◌, Bool, true, false, cond, ltb, List, [], ◌∷◌, length, get_or, set, ℤ, pos, negsuc, ◌+ℤ◌, nat_abs, ◌≤ℤ◌, ◌<ℤ◌, Ok, Err, Result, Equal, sym, refl, ap, ◌∙◌, subst, ⊎_elim, arith}
use lib.IntN.{+ℤ_idl}
use Rattle.std.proofs.lemmas.Int.{ints}
use Rattle.std.proofs.lemmas.List.{length-set, get_or-set_same, get_or-set_other}
use Rattle.std.proofs.lemmas.Bool.{ltb-false, cases_eq}
use Rattle.bag.specs.Order.{Row, row_order}
use Rattle.bag.specs.Bag.{Lines, is_positive, if_equal, count, add_copies, Canonical, Positive, IsBag, EachRow}
use Rattle.bag.specs.RowOrder.{order_itself, order_equal}
use Rattle.bag.proofs.Numbers.{not_zero, above_positive}
use Rattle.bag.proofs.CanonicalForm.{canonical_add_copies, count_before, count_head}
use Rattle.bag.specs.Integers.{count_add_copies}
use Rattle.bag.proofs.EachRow.{rows_add_copies}
use Rattle.bag.specs.Refusal.{Refusal, refusal, left_by}
use Rattle.bag.specs.Columns.{IsRow}
use Rattle.stock.specs.Holding.{Holding, LawfulHolding, shelf_of, copies, lines_on, lines_of, with_copies, lacks_room, put_answer, take_answer}
use Rattle.stock.proofs.Rows.{not_equal, equal_by}
use Rattle.stock.proofs.Accepted.{count_is_copies}

module _ (h : Holding) (s : ℕ) (r : Row) (n : ℕ) where
  pub put_says : Ok tt ≡ put_answer h s r n → (s ≤ 15) × (copies h s r + n ≤ 65535) × (lacks_room h s r n ≡ false)
  put_says q = by (ltb 15 s) refl (ltb 65535 (copies h s r + n)) refl (lacks_room h s r n) refl q
    where
      by : (a : Bool) → ltb 15 s ≡ a → (b : Bool) → ltb 65535 (copies h s r + n) ≡ b → (c : Bool) → lacks_room h s r n ≡ c
          → Ok tt ≡ cond {A = Result (Unit {0}) Refusal} a (Err (refusal 14 s)) (cond b (Err (refusal 6 s)) (cond c (Err (refusal 9 h.capacity)) (Ok tt)))
          → (s ≤ 15) × (copies h s r + n ≤ 65535) × (lacks_room h s r n ≡ false)
      by true x b y c z q = let z : ◌≡◌ {A = ℕ} 0 1 = cc in absurd (let y : ⊥ = omega arith in y)
      by false x true y c z q = let z : ◌≡◌ {A = ℕ} 0 1 = cc in absurd (let y : ⊥ = omega arith in y)
      by false x false y true z q = let z : ◌≡◌ {A = ℕ} 0 1 = cc in absurd (let y : ⊥ = omega arith in y)
      by false x false y false z q = (ltb-false 15 s x, ltb-false 65535 (copies h s r + n) y, z)

  pub take_says : Ok tt ≡ take_answer h s r n → (s ≤ 15) × (n ≤ copies h s r)
  take_says q = by (ltb 15 s) refl (ltb (copies h s r) n) refl q
    where
      by : (a : Bool) → ltb 15 s ≡ a → (b : Bool) → ltb (copies h s r) n ≡ b
          → Ok tt ≡ cond {A = Result (Unit {0}) Refusal} a (Err (refusal 14 s)) (cond b (Err (refusal 5 s)) (Ok tt)) → (s ≤ 15) × (n ≤ copies h s r)
      by true x b y q = let z : ◌≡◌ {A = ℕ} 0 1 = cc in absurd (let y : ⊥ = omega arith in y)
      by false x true y q = let z : ◌≡◌ {A = ℕ} 0 1 = cc in absurd (let y : ⊥ = omega arith in y)
      by false x false y q = (ltb-false 15 s x, ltb-false (copies h s r) n y)

pub left_either : (P : Holding → Type 0) (a : Result (Unit {0}) Refusal) (h k : Holding) → P h → (Ok tt ≡ a → P k) → P (left_by a h k)
left_either P (Ok u) h k old new = new refl
left_either P (Err e) h k old new = old

pub lines_set : (bags : List Lines) (s : ℕ) (b : Lines) → s < length bags → lines_on (set bags s b) + length (get_or bags s []) ≡ lines_on bags + length b
unfolding lines_on
lines_set [] s b l = absurd (let z : ⊥ = omega arith in z)
lines_set (a ∷ bags) zero b l = omega arith
lines_set (a ∷ bags) (suc s) b l = let i = lines_set bags s b (omega arith) in omega arith

positive_from_counts : (xs : Lines) → Canonical xs → ((q : Row) → pos 0 ≤ℤ count xs q) → Positive xs
unfolding count
positive_from_counts [] c all = tt
positive_from_counts (e ∷ xs) c all = (here, positive_from_counts xs c.2 rest)
  where
    here : is_positive e.1 ≡ true
    here =
        let low : pos 0 ≤ℤ e.1 = subst (λ z. pos 0 ≤ℤ z) (count_head e xs c) (all e.0) in
        let ne = not_zero e.1 c.0 in
        above_positive e.1 (by e.1 low ne)
      where
        by : (z : ℤ) → pos 0 ≤ℤ z → (z ≡ pos 0 → ⊥) → pos 0 <ℤ z
        by (pos zero) low ne = absurd (ne refl)
        by (pos (suc n)) low ne = omega (arith, ints)
        by (negsuc n) low ne = absurd (let y : ⊥ = omega (arith, ints) in y)

    rest : (q : Row) → pos 0 ≤ℤ count xs q
    rest q =
        ⊎_elim (λ (same : row_order e.0 q ≡ Equal). let z : count xs q ≡ pos 0 = ap (count xs) (sym (order_equal e.0 q same)) ∙ count_before e.0 xs c.2 c.1 in omega (arith, ints))
        (λ (other : row_order e.0 q ≡ Equal → ⊥). let z : count (e ∷ xs) q ≡ count xs q = ap (λ m. m +ℤ count xs q) (not_equal (row_order e.0 q) e.1 other) ∙ +ℤ_idl (count xs q) in subst (λ m. pos 0 ≤ℤ m) z (all q))
        (equal_by (row_order e.0 q))

module _ (h : Holding) (lawful : LawfulHolding h) (s : ℕ) (r : Row) (low : s ≤ 15) (z : ℤ) (m : ℕ) (sum : z +ℤ pos (copies h s r) ≡ pos m) where
  shelf_here : shelf_of (with_copies h s r z) s ≡ add_copies r z (shelf_of h s)
  shelf_here = let l = lawful.sixteen in get_or-set_same h.shelves s (add_copies r z (shelf_of h s)) [] (omega arith)

  shelf_other : (t : ℕ) → (t ≡ s → ⊥) → shelf_of (with_copies h s r z) t ≡ shelf_of h t
  shelf_other t ne = get_or-set_other h.shelves s t (add_copies r z (shelf_of h s)) [] ne

  count_here : (q : Row) → count (add_copies r z (shelf_of h s)) q ≡ if_equal (row_order r q) z +ℤ pos (copies h s q)
  count_here q = count_add_copies r z (shelf_of h s) q ∙ ap (λ k. if_equal (row_order r q) z +ℤ k) (count_is_copies h lawful s q)

  count_itself : count (add_copies r z (shelf_of h s)) r ≡ pos m
  count_itself = count_here r ∙ ap (λ o. if_equal o z +ℤ pos (copies h s r)) (order_itself r) ∙ sum

  count_others : (q : Row) → (row_order r q ≡ Equal → ⊥) → count (add_copies r z (shelf_of h s)) q ≡ pos (copies h s q)
  count_others q ne = count_here q ∙ ap (λ k. k +ℤ pos (copies h s q)) (not_equal (row_order r q) z ne) ∙ +ℤ_idl (pos (copies h s q))

  pub copies_here : copies (with_copies h s r z) s r ≡ m
  copies_here = ap (λ b. nat_abs (count b r)) shelf_here ∙ ap nat_abs count_itself

  pub copies_elsewhere : (t : ℕ) (q : Row) → ((t ≡ s) × (q ≡ r) → ⊥) → copies (with_copies h s r z) t q ≡ copies h t q
  copies_elsewhere t q apart =
      ⊎_elim (λ (e : t ≡ s). ap (λ u. copies (with_copies h s r z) u q) e ∙ ap (λ b. nat_abs (count b q)) shelf_here ∙ ap nat_abs (count_others q (λ same. apart (e, sym (order_equal r q same)))) ∙ ap (λ u. copies h u q) (sym e))
      (λ (ne : t ≡ s → ⊥). ap (λ b. nat_abs (count b q)) (shelf_other t ne))
      (cases_eq t s)

  not_below : (q : Row) → pos 0 ≤ℤ count (add_copies r z (shelf_of h s)) q
  not_below q =
      ⊎_elim (λ (same : row_order r q ≡ Equal). subst (λ v. pos 0 ≤ℤ count (add_copies r z (shelf_of h s)) v) (order_equal r q same) (subst (λ k. pos 0 ≤ℤ k) (sym count_itself) (omega (arith, ints))))
      (λ (ne : row_order r q ≡ Equal → ⊥). subst (λ k. pos 0 ≤ℤ k) (sym (count_others q ne)) (omega (arith, ints)))
      (equal_by (row_order r q))

  bag_here : IsBag (add_copies r z (shelf_of h s))
  bag_here = let c = canonical_add_copies r z (shelf_of h s) (lawful.bags s).0 in (c, positive_from_counts (add_copies r z (shelf_of h s)) c not_below)

  by_shelf : (P : Lines → Type 0) → ((t : ℕ) → P (shelf_of h t)) → P (add_copies r z (shelf_of h s)) → (t : ℕ) → P (shelf_of (with_copies h s r z) t)
  by_shelf P old new t = ⊎_elim (λ (e : t ≡ s). subst (λ u. P (shelf_of (with_copies h s r z) u)) (sym e) (subst P (sym shelf_here) new)) (λ (ne : t ≡ s → ⊥). subst P (sym (shelf_other t ne)) (old t)) (cases_eq t s)

  pub lines_after : lines_of (with_copies h s r z) + length (shelf_of h s) ≡ lines_of h + length (add_copies r z (shelf_of h s))
  lines_after = let l = lawful.sixteen in lines_set h.shelves s (add_copies r z (shelf_of h s)) (omega arith)

  pub lawful_moved : m ≤ 65535 → IsRow r → lines_of (with_copies h s r z) ≤ h.capacity → LawfulHolding (with_copies h s r z)
  lawful_moved most row room =
      record {
        sixteen = length-set h.shelves s (add_copies r z (shelf_of h s)) ∙ lawful.sixteen;
        bags = by_shelf IsBag lawful.bags bag_here;
        rows = by_shelf (EachRow IsRow) lawful.rows (rows_add_copies IsRow r z (shelf_of h s) row (lawful.rows s));
        counts = counted;
        room = room;
        small = lawful.small;
      }
    where
      counted : (t : ℕ) (q : Row) → copies (with_copies h s r z) t q ≤ 65535
      counted t q =
          ⊎_elim (λ (e : t ≡ s). ⊎_elim
          (λ (same : row_order r q ≡ Equal). subst (λ u. copies (with_copies h s r z) u q ≤ 65535) (sym e) (subst (λ v. copies (with_copies h s r z) s v ≤ 65535) (order_equal r q same) (subst (λ k. k ≤ 65535) (sym copies_here) most)))
          (λ (ne : row_order r q ≡ Equal → ⊥). subst (λ k. k ≤ 65535) (sym (copies_elsewhere t q (λ p. ne (ap (row_order r) p.1 ∙ order_itself r)))) (lawful.counts t q))
          (equal_by (row_order r q)))
          (λ (ne : t ≡ s → ⊥). subst (λ k. k ≤ 65535) (sym (copies_elsewhere t q (λ p. ne p.0))) (lawful.counts t q))
          (cases_eq t s)
