-- The line with the smallest row greater than a given one. Assumes nothing.
--     Nearest ls l       line l is one of those after the row, and none of them is smaller
--     Kept a ls l        l is what the fold of the lines ls that begins with line a ends with
--     nearest            the one that is found is the nearest, and where none is found no line comes after the row
--     next_read          it is what the holding answers
use Rattle.std.proofs.Common.{◌≡◌, ℕ, zero, suc, ◌<◌, Bool, true, false, cond, eqb, ◌⊎◌, [], ◌∷◌, length, Some, None, Option, Ordering, Less, Equal, Greater, sym, refl, ap, ◌∙◌, inl, inr, arith}
use Rattle.std.specs.List.{AllByRecursion, filter, fold, reduce}
use Rattle.std.specs.Option.{option_map}
use Rattle.std.specs.Ordering.{is_lt, min_by_ordering}
use Rattle.std.proofs.lemmas.Bool.{and_parts, and_from, eqb-true, eq-eqb, both_ways}
use Rattle.bag.specs.Order.{Row, row_order}
use Rattle.bag.specs.declared.lines.StockLine.{StockLine}
use Rattle.bag.specs.RowOrder.{order_itself, order_equal, order_transitive, greater_less}
use Rattle.stock.specs.Holding.{LawfulLine, next_answer}
use Rattle.byte_stock.specs.ByteStored.{Stored, line_of, Apart, holding_of, comes_after, nearer, line_after}
use Rattle.byte_stock.specs.ByteLawful.{next_stored, next_of_none}

never_less : (x : Row) → row_order x x ≡ Less → ⊥
never_less x h = let k = order_itself x in let z : ◌≡◌ {A = ℕ} 0 1 = cc in omega arith

-- what is not below the nearer of two lines is below neither
not_below : (a x l : StockLine) → (row_order (nearer a x).row l.row ≡ Less → ⊥) → (row_order a.row l.row ≡ Less → ⊥) × (row_order x.row l.row ≡ Less → ⊥)
not_below a x l h = by (row_order a.row x.row) refl h
  where
    by : (o : Ordering) → row_order a.row x.row ≡ o → (row_order (min_by_ordering o a x).row l.row ≡ Less → ⊥) → (row_order a.row l.row ≡ Less → ⊥) × (row_order x.row l.row ≡ Less → ⊥)
    by Less e h = (h, λ q. h (order_transitive a.row x.row l.row e q))
    by Equal e h = (h, λ q. h (ap (λ r. row_order r l.row) (order_equal a.row x.row e) ∙ q))
    by Greater e h = (λ q. h (order_transitive x.row a.row l.row (greater_less a.row x.row e) q), h)

one_of : (a x : StockLine) → (nearer a x ≡ a) ⊎ (nearer a x ≡ x)
one_of a x = by (row_order a.row x.row)
  where
    by : (o : Ordering) → (min_by_ordering o a x ≡ a) ⊎ (min_by_ordering o a x ≡ x)
    by Less = inl refl
    by Equal = inl refl
    by Greater = inr refl

module _ (s : ℕ) (r : Row) where
  pub record Found (ls : Stored) (l : StockLine) : Type 0 where
    pub place : ℕ
    pub inside : place < length ls
    pub here : line_of ls place ≡ l
    pub after : comes_after s r l ≡ true

  abbrev NoneBelow : Stored → StockLine → Type 0
  NoneBelow ls l = (k : ℕ) → k < length ls → comes_after s r (line_of ls k) ≡ true → row_order (line_of ls k).row l.row ≡ Less → ⊥

  pub record Nearest (ls : Stored) (l : StockLine) : Type 0 where
    pub found : Found ls l
    pub least : (k : ℕ) → k < length ls → comes_after s r (line_of ls k) ≡ true → row_order (line_of ls k).row l.row ≡ Less → ⊥

  -- the fold that begins with line a ends with l
  record Kept (a : StockLine) (ls : Stored) (l : StockLine) : Type 0 where
    origin : (l ≡ a) ⊎ Found ls l
    first : row_order a.row l.row ≡ Less → ⊥
    least : NoneBelow ls l

  behind : (x : StockLine) (ls : Stored) (l : StockLine) → Found ls l → Found (x ∷ ls) l
  behind x ls l f = let m = f.inside in record { place = suc f.place; inside = omega arith; here = f.here; after = f.after }

  none_more : (x : StockLine) (ls : Stored) (l : StockLine) → (comes_after s r x ≡ true → row_order x.row l.row ≡ Less → ⊥) → NoneBelow ls l → NoneBelow (x ∷ ls) l
  none_more x ls l h f zero k = h
  none_more x ls l h f (suc i) k = f i (omega arith)

  kept : (a : StockLine) (ls : Stored) → Kept a ls (fold nearer a (filter (comes_after s r) ls))
  kept a [] = record { origin = inl refl; first = never_less a.row; least = λ k h. absurd (omega arith) }
  kept a (x ∷ ls) = by (comes_after s r x) refl (kept a ls) (kept (nearer a x) ls)
    where
      with : (l : StockLine) → comes_after s r x ≡ true → Kept (nearer a x) ls l → Kept a (x ∷ ls) l
      with l e h =
          let below = not_below a x l h.first in
          record { origin = from h.origin (one_of a x); first = below.0; least = none_more x ls l (λ q. below.1) h.least }
        where
          from : (l ≡ nearer a x) ⊎ Found ls l → (nearer a x ≡ a) ⊎ (nearer a x ≡ x) → (l ≡ a) ⊎ Found (x ∷ ls) l
          from (inl p) (inl q) = inl (p ∙ q)
          from (inl p) (inr q) = inr (record { place = 0; inside = omega arith; here = sym (p ∙ q); after = ap (comes_after s r) (p ∙ q) ∙ e })
          from (inr f) q = inr (behind x ls l f)

      without : (l : StockLine) → comes_after s r x ≡ false → Kept a ls l → Kept a (x ∷ ls) l
      without l e h = record { origin = from h.origin; first = h.first; least = none_more x ls l (λ q. absurd (both_ways (comes_after s r x) e q)) h.least }
        where
          from : (l ≡ a) ⊎ Found ls l → (l ≡ a) ⊎ Found (x ∷ ls) l
          from (inl p) = inl p
          from (inr f) = inr (behind x ls l f)

      by : (b : Bool) → comes_after s r x ≡ b → Kept a ls (fold nearer a (filter (comes_after s r) ls)) → Kept (nearer a x) ls (fold nearer (nearer a x) (filter (comes_after s r) ls)) →
          Kept a (x ∷ ls) (fold nearer a (cond b (x ∷ filter (comes_after s r) ls) (filter (comes_after s r) ls)))
      by true e h k = with (fold nearer (nearer a x) (filter (comes_after s r) ls)) e k
      by false e h k = without (fold nearer a (filter (comes_after s r) ls)) e h

  abbrev Told : Stored → Option StockLine → Type 0
  Told ls None = (k : ℕ) → k < length ls → comes_after s r (line_of ls k) ≡ false
  Told ls (Some l) = Nearest ls l

  nearest : (ls : Stored) → Told ls (line_after s r ls)
  nearest [] = λ k h. absurd (omega arith)
  nearest (x ∷ ls) = by (comes_after s r x) refl (nearest ls)
    where
      start : (l : StockLine) → comes_after s r x ≡ true → Kept x ls l → Nearest (x ∷ ls) l
      start l e h = record { found = from h.origin; least = none_more x ls l (λ q. h.first) h.least }
        where
          from : (l ≡ x) ⊎ Found ls l → Found (x ∷ ls) l
          from (inl p) = record { place = 0; inside = omega arith; here = sym p; after = ap (comes_after s r) p ∙ e }
          from (inr f) = behind x ls l f

      more : comes_after s r x ≡ false → (o : Option StockLine) → Told ls o → Told (x ∷ ls) o
      more e None t = none
        where
          none : (k : ℕ) → k < suc (length ls) → comes_after s r (line_of (x ∷ ls) k) ≡ false
          none zero h = e
          none (suc k) h = t k (omega arith)
      more e (Some l) t = record { found = behind x ls l t.found; least = none_more x ls l (λ q. absurd (both_ways (comes_after s r x) e q)) t.least }

      by : (b : Bool) → comes_after s r x ≡ b → Told ls (line_after s r ls) → Told (x ∷ ls) (reduce nearer (cond b (x ∷ filter (comes_after s r) ls) (filter (comes_after s r) ls)))
      by true e t = start (fold nearer x (filter (comes_after s r) ls)) e (kept x ls)
      by false e t = more e (line_after s r ls) t

  less_only : (o : Ordering) → is_lt o ≡ true → o ≡ Less
  less_only Less h = refl
  less_only Equal h = let z : ◌≡◌ {A = ℕ} 0 1 = cc in absurd (omega arith)
  less_only Greater h = let z : ◌≡◌ {A = ℕ} 0 1 = cc in absurd (omega arith)

  is_after : (l : StockLine) → l.shelf ≡ s → row_order r l.row ≡ Less → comes_after s r l ≡ true
  is_after l e f = and_from (eqb l.shelf s) (is_lt (row_order r l.row)) (eq-eqb l.shelf s e) (ap is_lt f)

  pub next_read : (c : ℕ) (ls : Stored) → AllByRecursion LawfulLine ls → Apart ls → next_answer (holding_of c ls) s r ≡ option_map (λ (l : StockLine). (l.row, l.count)) (line_after s r ls)
  next_read c ls a p = by (line_after s r ls) (nearest ls)
    where
      some : (l : StockLine) → Nearest ls l → next_answer (holding_of c ls) s r ≡ Some (l.row, l.count)
      some l m =
          let i = m.found.place in
          let q = m.found.here in
          let k = and_parts (eqb l.shelf s) (is_lt (row_order r l.row)) m.found.after in
          next_stored c ls a p s r i m.found.inside
          (ap (λ (x : StockLine). x.shelf) q ∙ eqb-true l.shelf s k.0)
          (ap (λ (x : StockLine). row_order r x.row) q ∙ less_only (row_order r l.row) k.1)
          (λ j b e f g. m.least j b (is_after (line_of ls j) e f) (ap (λ (x : StockLine). row_order (line_of ls j).row x.row) (sym q) ∙ g))
          ∙ ap (λ (x : StockLine). Some (x.row, x.count)) q

      by : (o : Option StockLine) → Told ls o → next_answer (holding_of c ls) s r ≡ option_map (λ (l : StockLine). (l.row, l.count)) o
      by None t = next_of_none c ls a p s r (λ k h e f. both_ways (comes_after s r (line_of ls k)) (t k h) (is_after (line_of ls k) e f))
      by (Some l) t = some l t
