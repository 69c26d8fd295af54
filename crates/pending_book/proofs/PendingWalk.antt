-- The next row of the sum, found by stepping over rows below and pending lines together. Assumes nothing.
--     is_earlier       the smaller of the next row below and the next pending one is the candidate
--     walk_end         no candidate, no next row
--     walk_found       a candidate with copies is the next row
--     walk_on          a candidate without copies is passed over
--     rows_after_short fewer or as many pending lines are after a row as there are
--     walk_shorter     and then fewer pending lines are left
use Rattle.std.proofs.Common.{◌≡◌, ℕ, suc, ◌≤◌, false, [], ◌∷◌, length, ℤ, pos, ◌+ℤ◌, Some, None, Option, Ordering, Less, Equal, Greater, sym, refl, ap, ◌∙◌, subst, inl, inr, ⊎_elim, arith}
use Rattle.std.proofs.lemmas.Int.{ints}
use Rattle.std.specs.Option.{option_map}
use Rattle.bag.specs.Order.{Row, row_order}
use Rattle.bag.specs.Bag.{Line, Lines, is_zero, if_equal, if_less, count, Canonical, next, rows_after}
use Rattle.bag.specs.Laws.{RowAfter}
use Rattle.bag.proofs.Numbers.{not_zero}
use Rattle.bag.specs.RowOrder.{order_equal, order_itself, order_transitive, greater_less}
use Rattle.bag.proofs.CanonicalForm.{count_before}
use Rattle.bag.proofs.NextRow.{next_is_after, one_answer, next_found, next_none}
use Rattle.stock.specs.Holding.{row_and_count}
use Rattle.pending_lines.specs.ChangeLists.{IsNext}
use Rattle.pending_book.specs.PendingNext.{earlier_of, IsCandidate}

pub after_is_next : (xs : Lines) (r : Row) (o : Option Line) → RowAfter xs r o → IsNext (λ q. count xs q) r o
after_is_next xs r None h = h
after_is_next xs r (Some e) h = h

module _ (f g : Row → ℤ) (r : Row) where
  pub is_earlier : (a b : Option Line) → IsNext f r a → IsNext g r b → IsCandidate f g r (earlier_of (option_map row_and_count a) b)
  is_earlier None None fa gb = λ q lo. (fa q lo, gb q lo)
  is_earlier None (Some y) fa gb = (gb.2, inr (ap is_zero gb.1 ∙ gb.0), λ q lo hi. (fa q lo, gb.3 q lo hi))
  is_earlier (Some x) None fa gb = (fa.2, inl (ap is_zero fa.1 ∙ fa.0), λ q lo hi. (fa.3 q lo hi, gb q lo))
  is_earlier (Some x) (Some y) fa gb = by (row_order y.0 x.0) refl
    where
      by : (o : Ordering) → row_order y.0 x.0 ≡ o → IsCandidate f g r (if_less o (Some y.0) (Some x.0))
      by Less e = (gb.2, inr (ap is_zero gb.1 ∙ gb.0), λ q lo hi. (fa.3 q lo (order_transitive q y.0 x.0 hi e), gb.3 q lo hi))
      by Equal e = (fa.2, inl (ap is_zero fa.1 ∙ fa.0), λ q lo hi. (fa.3 q lo hi, gb.3 q lo (subst (λ t. row_order q t ≡ Less) (sym (order_equal y.0 x.0 e)) hi)))
      by Greater e = (fa.2, inl (ap is_zero fa.1 ∙ fa.0), λ q lo hi. (fa.3 q lo hi, gb.3 q lo (order_transitive q x.0 y.0 hi (greater_less y.0 x.0 e))))

module _ (xs : Lines) (c : Canonical xs) (f g : Row → ℤ) (sums : (q : Row) → count xs q ≡ f q +ℤ g q) (r : Row) where
  none_at : (q : Row) → (f q ≡ pos 0) × (g q ≡ pos 0) → count xs q ≡ pos 0
  none_at q h = let a = sums q in let b = h.0 in let d = h.1 in omega (arith, ints, a, b, d)

  pub walk_end : IsCandidate f g r None → next xs r ≡ None
  walk_end h = next_none xs r c (λ q lo. none_at q (h q lo))

  pub walk_found : (p : Row) → IsCandidate f g r (Some p) → is_zero (count xs p) ≡ false → next xs r ≡ Some (p, count xs p)
  walk_found p h n = next_found xs r (p, count xs p) c h.0 refl n (λ q lo hi. none_at q (h.2 q lo hi))

  pub walk_on : (p : Row) → IsCandidate f g r (Some p) → count xs p ≡ pos 0 → next xs r ≡ next xs p
  walk_on p h z = one_answer xs r (next xs r) (next xs p) (next_is_after xs r c) (farther (next xs p) (next_is_after xs p c))
    where
      between : (q : Row) → row_order r q ≡ Less → (row_order p q ≡ Less → count xs q ≡ pos 0) → count xs q ≡ pos 0
      between q lo k = by (row_order q p) refl
        where
          by : (o : Ordering) → row_order q p ≡ o → count xs q ≡ pos 0
          by Less e = none_at q (h.2 q lo e)
          by Equal e = ap (count xs) (order_equal q p e) ∙ z
          by Greater e = k (greater_less q p e)

      farther : (o : Option Line) → RowAfter xs p o → RowAfter xs r o
      farther None k = λ q lo. between q lo (k q)
      farther (Some e) k = (k.0, k.1, order_transitive r p e.0 h.0 k.2, λ q lo hi. between q lo (λ m. k.3 q m hi))

  -- what cancels a row is a pending line
  pub cancelled : (p : Row) → IsCandidate f g r (Some p) → count xs p ≡ pos 0 → g p ≡ pos 0 → ⊥
  cancelled p h z n =
      ⊎_elim (λ (k : is_zero (f p) ≡ false). not_zero (f p) k (let a = sums p in omega (arith, ints, a, z, n)))
      (λ (k : is_zero (g p) ≡ false). not_zero (g p) k n)
      h.1

pub rows_after_short : (ys : Lines) (b : Row) → length (rows_after ys b) ≤ length ys
unfolding rows_after
rows_after_short [] b = omega arith
rows_after_short (e ∷ ys) b = by (row_order b e.0) (rows_after_short ys b)
  where
    by : (o : Ordering) → length (rows_after ys b) ≤ length ys → length (if_less o (e ∷ ys) (rows_after ys b)) ≤ suc (length ys)
    by Less h = omega arith
    by Equal h = omega arith
    by Greater h = omega arith

pub walk_shorter : (ys : Lines) (a b : Row) → Canonical ys → row_order a b ≡ Less → (count ys b ≡ pos 0 → ⊥) → suc (length (rows_after ys b)) ≤ length (rows_after ys a)
unfolding rows_after count
walk_shorter [] a b c l n = absurd (n refl)
walk_shorter (e ∷ ys) a b c l n = by (row_order a e.0) (row_order b e.0) refl refl (walk_shorter ys a b c.2 l)
  where
    by : (o u : Ordering) → row_order a e.0 ≡ o → row_order b e.0 ≡ u → ((count ys b ≡ pos 0 → ⊥) → suc (length (rows_after ys b)) ≤ length (rows_after ys a))
        → suc (length (if_less u (e ∷ ys) (rows_after ys b))) ≤ length (if_less o (e ∷ ys) (rows_after ys a))
    by o Less p q rec = absurd (n (count_before b (e ∷ ys) c q))
    by Less Equal p q rec = let s = rows_after_short ys b in omega arith
    by Less Greater p q rec = let s = rows_after_short ys b in omega arith
    by Equal Equal p q rec = absurd (let same = order_equal a e.0 p in let also = order_equal b e.0 q in let w : row_order a b ≡ Equal = ap (row_order a) (also ∙ sym same) ∙ order_itself a in let z : ◌≡◌ {A = ℕ} 0 1 = cc in omega arith)
    by Equal Greater p q rec = rec (λ z. n (behind z))
      where
        behind : count ys b ≡ pos 0 → if_equal (row_order e.0 b) e.1 +ℤ count ys b ≡ pos 0
        behind z = let g = greater_less b e.0 q in let i : if_equal (row_order e.0 b) e.1 ≡ pos 0 = ap (λ o. if_equal o e.1) g in omega (arith, ints, i, z)
    by Greater Equal p q rec = absurd (let also = order_equal b e.0 q in let w : row_order a e.0 ≡ Less = ap (row_order a) (sym also) ∙ l in let z : ◌≡◌ {A = ℕ} 0 1 = cc in omega arith)
    by Greater Greater p q rec = rec (λ z. n (behind z))
      where
        behind : count ys b ≡ pos 0 → if_equal (row_order e.0 b) e.1 +ℤ count ys b ≡ pos 0
        behind z = let g = greater_less b e.0 q in let i : if_equal (row_order e.0 b) e.1 ≡ pos 0 = ap (λ o. if_equal o e.1) g in omega (arith, ints, i, z)
