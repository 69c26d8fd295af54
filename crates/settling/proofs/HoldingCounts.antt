-- What the counts of a holding say of it. Assumes nothing.
--     same_holding          holdings with equal counts and capacities are equal
--     count_with_copies, canonical_with_copies      the shelves after more copies of one row
--     copies_are, canonical_of      what is known of a lawful holding
use Rattle.std.proofs.Common.{◌≡◌, ℕ, ◌<◌, ◌≤◌, List, [], length, get_or, set, ℤ, pos, ◌+ℤ◌, sym, ap, ◌∙◌, subst, ap₂, ⊎_elim, arith}
use lib.IntN.{+ℤ_idl}
use Rattle.std.proofs.lemmas.List.{ext_get_or, get_or-set_same, get_or-set_other, set_past}
use Rattle.std.proofs.lemmas.Int.{ints}
use Rattle.std.proofs.lemmas.Bool.{cases_eq, cases_lt}
use Rattle.bag.specs.Order.{Row, row_order}
use Rattle.bag.specs.Bag.{Lines, if_equal, count, add_copies, Canonical}
use Rattle.bag.specs.Integers.{count_add_copies}
use Rattle.bag.proofs.CanonicalForm.{canonical_add_copies, equal_counts}
use Rattle.bag.proofs.OperatorBags.{count_low}
use Rattle.stock.specs.Holding.{Holding, shelf_of, copies, with_copies, LawfulHolding}
use Rattle.settling.specs.Keys.{key}
use Rattle.settling.proofs.KeyOrder.{key_less, key_greater, key_same}

pub same_holding : (h k : Holding) → h.capacity ≡ k.capacity → length h.shelves ≡ length k.shelves
    → ((s : ℕ) → Canonical (shelf_of h s)) → ((s : ℕ) → Canonical (shelf_of k s))
    → ((s : ℕ) → s < length h.shelves → (r : Row) → count (shelf_of h s) r ≡ count (shelf_of k s) r) → h ≡ k
same_holding h k c l a b e =
    let shelves : h.shelves ≡ k.shelves = ext_get_or [] h.shelves k.shelves l (λ s m. equal_counts (shelf_of h s) (shelf_of k s) (a s) (b s) (e s m)) in
    ap₂ {C = Holding} (λ x y. record { capacity = x; shelves = y }) c shelves

-- the key decides whether copies of one row count at another
other_shelf : (s t : ℕ) (r q : Row) (z : ℤ) → (s ≡ t → ⊥) → if_equal (row_order (key s r) (key t q)) z ≡ pos 0
other_shelf s t r q z n =
    ⊎_elim (λ (l : s < t). ap (λ o. if_equal o z) (key_less s t r q l))
    (λ (l : t ≤ s). ap (λ o. if_equal o z) (key_greater s t r q (omega arith)))
    (cases_lt s t)

pub count_with_copies : (h : Holding) (s : ℕ) (r : Row) (z : ℤ) (t : ℕ) (q : Row) → t < length h.shelves
    → count (shelf_of (with_copies h s r z) t) q ≡ if_equal (row_order (key s r) (key t q)) z +ℤ count (shelf_of h t) q
count_with_copies h s r z t q l =
    ⊎_elim (λ (e : s ≡ t).
    let at : shelf_of (with_copies h s r z) t ≡ add_copies r z (shelf_of h t) = subst (λ u. get_or (set h.shelves s (add_copies r z (shelf_of h s))) u [] ≡ add_copies r z (shelf_of h u)) e (get_or-set_same h.shelves s (add_copies r z (shelf_of h s)) [] (omega arith)) in
    let o : row_order (key s r) (key t q) ≡ row_order r q = ap (λ u. row_order (key u r) (key t q)) e ∙ key_same t r q in
    ap (λ xs. count xs q) at ∙ count_add_copies r z (shelf_of h t) q ∙ ap (λ p. if_equal p z +ℤ count (shelf_of h t) q) (sym o))
    (λ (n : s ≡ t → ⊥).
    let at : shelf_of (with_copies h s r z) t ≡ shelf_of h t = get_or-set_other h.shelves s t (add_copies r z (shelf_of h s)) [] (λ e. n (sym e)) in
    ap (λ xs. count xs q) at ∙ sym (ap (λ y. y +ℤ count (shelf_of h t) q) (other_shelf s t r q z n) ∙ +ℤ_idl (count (shelf_of h t) q)))
    (cases_eq s t)

-- what holds of each shelf before, and of the shelf that changes
pub each_shelf : (P : Lines → Type 0) (h : Holding) (s : ℕ) (r : Row) (z : ℤ) → ((t : ℕ) → P (shelf_of h t)) → P (add_copies r z (shelf_of h s)) → (t : ℕ) → P (shelf_of (with_copies h s r z) t)
each_shelf P h s r z c n t =
    ⊎_elim (λ (e : t ≡ s).
    ⊎_elim (λ (l : s < length h.shelves). subst (λ u. P (get_or (set h.shelves s (add_copies r z (shelf_of h s))) u [])) (sym e) (subst P (sym (get_or-set_same h.shelves s (add_copies r z (shelf_of h s)) [] l)) n))
    (λ (l : length h.shelves ≤ s). subst (λ (b : List Lines). P (get_or b t [])) (sym (set_past h.shelves s (add_copies r z (shelf_of h s)) l)) (c t))
    (cases_lt s (length h.shelves)))
    (λ (n : t ≡ s → ⊥). subst P (sym (get_or-set_other h.shelves s t (add_copies r z (shelf_of h s)) [] n)) (c t))
    (cases_eq t s)

pub canonical_with_copies : (h : Holding) (s : ℕ) (r : Row) (z : ℤ) → ((t : ℕ) → Canonical (shelf_of h t)) → (t : ℕ) → Canonical (shelf_of (with_copies h s r z) t)
canonical_with_copies h s r z c = each_shelf Canonical h s r z c (canonical_add_copies r z (shelf_of h s) (c s))

-- the counts of a lawful holding are natural numbers
pub copies_are : (h : Holding) → LawfulHolding h → (s : ℕ) (r : Row) → pos (copies h s r) ≡ count (shelf_of h s) r
copies_are h l s r = let c = count_low (shelf_of h s) (l.bags s).1 r in omega (arith, ints)

pub canonical_of : (h : Holding) → LawfulHolding h → (s : ℕ) → Canonical (shelf_of h s)
canonical_of h l s = (l.bags s).0
