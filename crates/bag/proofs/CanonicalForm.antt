-- A canonical list is known by its counts. Assumes nothing.
--     before_transitive, count_before, count_head      what stands before the first line, and in it
--     canonical_add_copies, canonical_collect          the results are canonical
--     equal_counts                                     canonical lists with equal counts are equal
use Rattle.std.proofs.Common.{◌≡◌, zero, suc, [], ◌∷◌, ℤ, pos, negsuc, ◌+ℤ◌, Ordering, Less, Equal, Greater, sym, refl, ap, ◌∙◌, ap₂, arith}
use lib.IntN.{+ℤ_idl, +ℤ_idr}
use Rattle.std.proofs.lemmas.Int.{ints}
use Rattle.bag.specs.Order.{Row, row_order}
use Rattle.bag.specs.Bag.{Line, Lines, if_equal, count, with_line, add_by, add_copies, collect, Before, Canonical}
use Rattle.bag.proofs.Numbers.{not_zero}
use Rattle.bag.specs.RowOrder.{order_itself, order_equal, order_transitive, greater_less, less_greater}

pub before_transitive : (a b : Row) (xs : Lines) → row_order a b ≡ Less → Before b xs → Before a xs
before_transitive a b [] p h = tt
before_transitive a b (e ∷ xs) p h = order_transitive a b e.0 p h

-- a row before the first line is not there
pub count_before : (r : Row) (xs : Lines) → Canonical xs → Before r xs → count xs r ≡ pos 0
unfolding count
count_before r [] c h = refl
count_before r (e ∷ xs) c h = rw (less_greater r e.0 h) (+ℤ_idl (count xs r) ∙ count_before r xs c.2 (before_transitive r e.0 xs h c.1))

pub count_head : (e : Line) (xs : Lines) → Canonical (e ∷ xs) → count (e ∷ xs) e.0 ≡ e.1
unfolding count
count_head e xs c = rw (order_itself e.0) (ap (λ k. e.1 +ℤ k) (count_before e.0 xs c.2 c.1) ∙ +ℤ_idr e.1)

pub before_with_line : (a r : Row) (n : ℤ) (xs : Lines) → row_order a r ≡ Less → Before a xs → Before a (with_line r n xs)
before_with_line a r (pos zero) xs p h = h
before_with_line a r (pos (suc n)) xs p h = p
before_with_line a r (negsuc n) xs p h = p

pub canonical_with_line : (r : Row) (n : ℤ) (xs : Lines) → Before r xs → Canonical xs → Canonical (with_line r n xs)
canonical_with_line r (pos zero) xs h c = c
canonical_with_line r (pos (suc n)) xs h c = (refl, h, c)
canonical_with_line r (negsuc n) xs h c = (refl, h, c)

before_add_copies : (a r : Row) (n : ℤ) (xs : Lines) → row_order a r ≡ Less → Before a xs → Canonical xs → Before a (add_copies r n xs)
unfolding add_copies
before_add_copies a r n [] p h c = before_with_line a r n [] p tt
before_add_copies a r n (e ∷ xs) p h c = by (row_order r e.0)
  where
    by : (o : Ordering) → Before a (add_by o r n e xs (add_copies r n xs))
    by Less = before_with_line a r n (e ∷ xs) p h
    by Equal = before_with_line a e.0 (n +ℤ e.1) xs h (before_transitive a e.0 xs h c.1)
    by Greater = h

pub canonical_add_copies : (r : Row) (n : ℤ) (xs : Lines) → Canonical xs → Canonical (add_copies r n xs)
unfolding add_copies
canonical_add_copies r n [] c = canonical_with_line r n [] tt tt
canonical_add_copies r n (e ∷ xs) c = by (row_order r e.0) refl (canonical_add_copies r n xs c.2)
  where
    by : (o : Ordering) → row_order r e.0 ≡ o → Canonical (add_copies r n xs) → Canonical (add_by o r n e xs (add_copies r n xs))
    by Less p ih = canonical_with_line r n (e ∷ xs) p c
    by Equal p ih = canonical_with_line e.0 (n +ℤ e.1) xs c.1 c.2
    by Greater p ih = (c.0, before_add_copies e.0 r n xs (greater_less r e.0 p) c.1 c.2, ih)

pub canonical_collect : (xs : Lines) → Canonical (collect xs)
unfolding collect
canonical_collect [] = tt
canonical_collect (e ∷ xs) = canonical_add_copies e.0 e.1 (collect xs) (canonical_collect xs)

-- canonical lists with equal counts are equal
pub equal_counts : (xs ys : Lines) → Canonical xs → Canonical ys → ((q : Row) → count xs q ≡ count ys q) → xs ≡ ys
unfolding count
equal_counts [] [] c d h = refl
equal_counts [] (e ∷ ys) c d h = absurd (not_zero e.1 d.0 (sym (count_head e ys d) ∙ sym (h e.0)))
equal_counts (e ∷ xs) [] c d h = absurd (not_zero e.1 c.0 (sym (count_head e xs c) ∙ h e.0))
equal_counts (e ∷ xs) (f ∷ ys) c d h = by (row_order e.0 f.0) refl (equal_counts xs ys c.2 d.2)
  where
    by : (o : Ordering) → row_order e.0 f.0 ≡ o → (((q : Row) → count xs q ≡ count ys q) → xs ≡ ys) → (e ∷ xs) ≡ (f ∷ ys)
    by Less p ih = absurd (not_zero e.1 c.0 (sym (count_head e xs c) ∙ h e.0 ∙ count_before e.0 (f ∷ ys) d p))
    by Equal p ih =
        let r : e.0 ≡ f.0 = order_equal e.0 f.0 p in
        let n : e.1 ≡ f.1 = sym (count_head e xs c) ∙ h e.0 ∙ ap (count (f ∷ ys)) r ∙ count_head f ys d in
        let g : (e.0, e.1) ≡ (f.0, f.1) = ap₂ {C = Line} (λ a b. (a, b)) r n in
        ap₂ (λ a b. a ∷ b) g (ih (λ q. cancel q r n (h q)))
      where
        cancel : (q : Row) → e.0 ≡ f.0 → e.1 ≡ f.1 → count (e ∷ xs) q ≡ count (f ∷ ys) q → count xs q ≡ count ys q
        cancel q r n h = let k : if_equal (row_order e.0 q) e.1 ≡ if_equal (row_order f.0 q) f.1 = ap₂ (λ a b. if_equal (row_order a q) b) r n in omega (arith, ints)
    by Greater p ih = absurd (not_zero f.1 d.0 (sym (count_head f ys d) ∙ sym (h f.0) ∙ count_before f.0 (e ∷ xs) c (greater_less e.0 f.0 p)))
