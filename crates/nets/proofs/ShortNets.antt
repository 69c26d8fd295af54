-- The first net that takes too much, and what it says in counts. Assumes nothing.
--     first_short h ls         the node of the first line that leaves fewer than 0 copies
--     first_short_flattened    among the nets of one node behind the other it is the lowest such node
--     short_in_counts          what that says of every row
--     found_short              both, where the nets are those of a message
use Rattle.std.proofs.Common.{◌≡◌, ℕ, zero, suc, ◌+◌, ◌<◌, ◌≤◌, Bool, true, false, cond, not, ◌⊎◌, List, [], ◌∷◌, ◌++◌, ℤ, pos, ◌+ℤ◌, ◌≤ℤ◌, ◌<ℤ◌, Some, None, Option, Ordering, Less, Equal, Greater, sym, refl, ap, ◌∙◌, subst, inl, inr, ⊎_elim, arith}
use lib.IntN.{+ℤ_idl, +ℤ_idr}
use lib.Signed.{le_z}
use Rattle.std.specs.List.{find}
use Rattle.std.specs.Option.{option_map}
use Rattle.std.proofs.lemmas.Int.{ints}
use Rattle.std.proofs.lemmas.Bool.{cases_eq}
use Rattle.bag.specs.declared.lines.ChangeLine.{ChangeLine}
use Rattle.bag.specs.Order.{Row, row_order}
use Rattle.bag.specs.Bag.{Line, Lines, count, every_line, Before, Canonical}
use Rattle.bag.specs.RowOrder.{order_equal, greater_less, order_transitive}
use Rattle.bag.proofs.CanonicalForm.{count_before, count_head, canonical_collect}
use Rattle.bag.proofs.OperatorBags.{count_low}
use Rattle.message.specs.declared.record.Record.{Record}
use Rattle.stock.specs.Holding.{Holding, LawfulHolding, shelf_of}
use Rattle.sheet.specs.Sheets.{change_line, of_node, flattened}
use Rattle.nets.specs.Nets.{movements_of, net_of, nets_from, nets_by_node, nets_of}
use Rattle.nets.specs.Shorts.{goes_short, short_from, short_at, ShortOf, Enough, ShortInCounts}

abbrev pub takes_too_much : Holding → ChangeLine → Bool
takes_too_much h l = not (le_z (pos 0) (count (shelf_of h l.node) l.row +ℤ l.change))

-- the node of a line, if there is one
abbrev node_of : Option ChangeLine → Option ℕ
node_of o = option_map (λ (l : ChangeLine). l.node) o

abbrev pub first_short : Holding → List ChangeLine → Option ℕ
first_short h ls = node_of (find (takes_too_much h) ls)

first_of_node : (h : Holding) (k : ℕ) (d : Lines) (ls : List ChangeLine) → first_short h (of_node k d ++ ls) ≡ cond (goes_short (shelf_of h k) d) (Some k) (first_short h ls)
unfolding every_line
first_of_node h k [] ls = refl
first_of_node h k (e ∷ d) ls = by (le_z (pos 0) (count (shelf_of h k) e.0 +ℤ e.1)) (first_of_node h k d ls)
  where
    by : (b : Bool) → first_short h (of_node k d ++ ls) ≡ cond (goes_short (shelf_of h k) d) (Some k) (first_short h ls)
        → node_of (cond (not b) (Some (change_line k e)) (find (takes_too_much h) (of_node k d ++ ls))) ≡ cond (not (cond b (every_line (λ q n. le_z (pos 0) (count (shelf_of h k) q +ℤ n)) d) false)) (Some k) (first_short h ls)
    by true rec = rec
    by false rec = refl

pub first_short_flattened : (h : Holding) (k : ℕ) (ds : List Lines) → first_short h (flattened k ds) ≡ short_from h k ds
unfolding flattened short_from
first_short_flattened h k [] = refl
first_short_flattened h k (d ∷ ds) = first_of_node h k d (flattened (suc k) ds) ∙ ap (cond (goes_short (shelf_of h k) d) (Some k)) (first_short_flattened h (suc k) ds)

count_past : (e : Line) (d : Lines) (q : Row) → row_order e.0 q ≡ Less → count (e ∷ d) q ≡ count d q
unfolding count
count_past e d q h = rw h (+ℤ_idl (count d q))

count_there : (e : Line) (d : Lines) (q : Row) → Canonical (e ∷ d) → row_order e.0 q ≡ Equal → count (e ∷ d) q ≡ e.1
count_there e d q c h = ap (count (e ∷ d)) (sym (order_equal e.0 q h)) ∙ count_head e d c

at_least_none : (z : ℤ) → le_z (pos 0) z ≡ true → pos 0 ≤ℤ z
at_least_none z t = grind (arith, ints)

below_none : (z : ℤ) → le_z (pos 0) z ≡ false → z <ℤ pos 0
below_none z t = grind (arith, ints)

module _ (f : Row → ℤ) where
  abbrev fine : Row → ℤ → Bool
  fine q n = le_z (pos 0) (f q +ℤ n)

  -- every listed row comes to 0 or more
  all_fine : (d : Lines) → Canonical d → every_line fine d ≡ true → (q : Row) → (count d q ≡ pos 0) ⊎ (pos 0 ≤ℤ (f q +ℤ count d q))
  unfolding every_line count
  all_fine [] c a q = inl refl
  all_fine (e ∷ d) c a q = by (fine e.0 e.1) refl (row_order e.0 q) refl a (all_fine d c.2)
    where
      by : (b : Bool) → fine e.0 e.1 ≡ b → (o : Ordering) → row_order e.0 q ≡ o → cond b (every_line fine d) false ≡ true
          → (every_line fine d ≡ true → (q : Row) → (count d q ≡ pos 0) ⊎ (pos 0 ≤ℤ (f q +ℤ count d q))) → (count (e ∷ d) q ≡ pos 0) ⊎ (pos 0 ≤ℤ (f q +ℤ count (e ∷ d) q))
      by false t o h a rec = let z : ⊥ = cc in absurd z
      by true t Less h a rec = subst (λ n. (n ≡ pos 0) ⊎ (pos 0 ≤ℤ (f q +ℤ n))) (sym (count_past e d q h)) (rec a q)
      by true t Equal h a rec =
          let s : e.0 ≡ q = order_equal e.0 q h in
          let l : pos 0 ≤ℤ (f e.0 +ℤ e.1) = at_least_none (f e.0 +ℤ e.1) t in
          inr (subst (λ n. pos 0 ≤ℤ (f q +ℤ n)) (sym (count_there e d q c h)) (subst (λ r. pos 0 ≤ℤ (f r +ℤ e.1)) s l))
      by true t Greater h a rec = inl (count_before q (e ∷ d) c (greater_less e.0 q h))

  -- a listed row that does not, which stands behind every row before the list
  abbrev Lacking : Lines → Type 0
  Lacking d = (q : Row) × ((f q +ℤ count d q) <ℤ pos 0) × ((r : Row) → Before r d → row_order r q ≡ Less)

  some_lacking : (d : Lines) → Canonical d → every_line fine d ≡ false → Lacking d
  unfolding every_line
  some_lacking [] c a = let z : ⊥ = cc in absurd z
  some_lacking (e ∷ d) c a = by (fine e.0 e.1) refl a (some_lacking d c.2)
    where
      by : (b : Bool) → fine e.0 e.1 ≡ b → cond b (every_line fine d) false ≡ false → (every_line fine d ≡ false → Lacking d) → Lacking (e ∷ d)
      by true t a rec =
          let l = rec a in
          let past : row_order e.0 l.0 ≡ Less = l.2 e.0 c.1 in
          (l.0, subst (λ n. (f l.0 +ℤ n) <ℤ pos 0) (sym (count_past e d l.0 past)) l.1, λ r b. order_transitive r e.0 l.0 b past)
      by false t a rec =
          let l : (f e.0 +ℤ e.1) <ℤ pos 0 = below_none (f e.0 +ℤ e.1) t in
          (e.0, subst (λ n. (f e.0 +ℤ n) <ℤ pos 0) (sym (count_head e d c)) l, λ r b. b)

module _ (h : Holding) (lawful : LawfulHolding h) (m : List Record) where
  canonical_net : (k : ℕ) → Canonical (net_of k m)
  canonical_net k = canonical_collect (movements_of k m)

  enough_at : (k : ℕ) → goes_short (shelf_of h k) (net_of k m) ≡ false → Enough h m k
  enough_at k s q = ⊎_elim none there (all_fine (count (shelf_of h k)) (net_of k m) (canonical_net k) (passed (every_line (fine (count (shelf_of h k))) (net_of k m)) s) q)
    where
      passed : (b : Bool) → not b ≡ false → b ≡ true
      passed true p = refl
      passed false p = let z : ⊥ = cc in absurd z

      none : count (net_of k m) q ≡ pos 0 → pos 0 ≤ℤ (count (shelf_of h k) q +ℤ count (net_of k m) q)
      none z = subst (λ n. pos 0 ≤ℤ (count (shelf_of h k) q +ℤ n)) (sym z) (subst (λ n. pos 0 ≤ℤ n) (sym (+ℤ_idr (count (shelf_of h k) q))) (count_low (shelf_of h k) (lawful.bags k).1 q))

      there : pos 0 ≤ℤ (count (shelf_of h k) q +ℤ count (net_of k m) q) → pos 0 ≤ℤ (count (shelf_of h k) q +ℤ count (net_of k m) q)
      there l = l

  short_of : (k : ℕ) → goes_short (shelf_of h k) (net_of k m) ≡ true → ShortOf h m k
  short_of k s = let l = some_lacking (count (shelf_of h k)) (net_of k m) (canonical_net k) (failed (every_line (fine (count (shelf_of h k))) (net_of k m)) s) in (l.0, l.1)
    where
      failed : (b : Bool) → not b ≡ true → b ≡ false
      failed true p = let z : ⊥ = cc in absurd z
      failed false p = refl

  abbrev From : ℕ → ℕ → Option ℕ → Type 0
  From k n (Some i) = (i < k + n) × ShortOf h m i × ((j : ℕ) → k ≤ j → j < i → Enough h m j)
  From k n None = (j : ℕ) → k ≤ j → j < k + n → Enough h m j

  lowest : (n k : ℕ) → From k n (short_from h k (nets_from k n m))
  unfolding short_from nets_from
  lowest zero k = λ j l u. absurd (let z : ⊥ = omega arith in z)
  lowest (suc n) k = by (goes_short (shelf_of h k) (net_of k m)) refl (short_from h (suc k) (nets_from (suc k) n m)) (lowest n (suc k))
    where
      here : goes_short (shelf_of h k) (net_of k m) ≡ false → (j : ℕ) → k ≤ j → (suc k ≤ j → Enough h m j) → Enough h m j
      here s j l rest = ⊎_elim (λ (e : j ≡ k). subst (Enough h m) (sym e) (enough_at k s)) (λ (ne : j ≡ k → ⊥). rest (omega arith)) (cases_eq j k)

      by : (b : Bool) → goes_short (shelf_of h k) (net_of k m) ≡ b → (o : Option ℕ) → From (suc k) n o → From k (suc n) (cond b (Some k) o)
      by true s o rec = (omega arith, short_of k s, λ j l u. absurd (let z : ⊥ = omega arith in z))
      by false s (Some i) rec = (let u = rec.0 in omega arith, rec.1, λ j l u. here s j l (λ p. rec.2 j p u))
      by false s None rec = λ j l u. here s j l (λ p. rec j p (omega arith))

  pub short_in_counts : ShortInCounts h m (short_at h m)
  short_in_counts = by (short_at h m) (lowest 16 0)
    where
      by : (o : Option ℕ) → From 0 16 o → ShortInCounts h m o
      by (Some i) l = (let u = l.0 in omega arith, l.1, λ j u. l.2 j (omega arith) u)
      by None l = λ k u. l k (omega arith) (omega arith)

-- what a walk over the nets has found
pub found_short : (h : Holding) → LawfulHolding h → (ls : List ChangeLine) (r : Option ℕ) → r ≡ first_short h ls → (m : List Record) → ls ≡ nets_of m → (r ≡ short_at h m) × ShortInCounts h m r
found_short h lawful ls r q m e =
    let answer : r ≡ short_at h m = q ∙ ap (first_short h) e ∙ first_short_flattened h 0 (nets_by_node m) in
    (answer, subst (ShortInCounts h m) (sym answer) (short_in_counts h lawful m))
