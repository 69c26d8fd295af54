-- Lines added up row by row: what a table finds and holds, and what the sums count. Assumes nothing.
--     found_is                  the entry of a row has the row's count
--     with_is                   replacing or adding the entry of a row adds its copies
--     ascends_added, count_added, length_added      one line more
--     gathered_more             lines added up one by one, from the end
--     ascends_gathered, count_gathered, length_gathered      all of them
--     canonical_without, count_without         the lines that have copies
--     count_small, sum_fits     numbers within ±65,535 add up to what 32 bits hold
use Rattle.std.proofs.Common.{◌≡◌, ℕ, suc, ◌+◌, ◌*◌, ◌<◌, ◌≤◌, Bool, true, false, cond, [], ◌∷◌, ◌++◌, length, ℤ, pos, ◌+ℤ◌, nat_abs, Some, None, Option, Ordering, Less, Equal, Greater, sym, refl, ap, ◌∙◌, subst, ap₂, mul-suc, arith, w32, SFits, rules}
use lib.IntN.{+ℤ_idl, +ℤ_idr}
use Rattle.std.proofs.lemmas.Int.{ints}
use Rattle.std.specs.Ordering.{is_eq}
use Rattle.bag.specs.declared.lines.ChangeLine.{ChangeLine}
use Rattle.bag.specs.Order.{Row, row_order, change_line_order}
use Rattle.bag.specs.Bag.{Line, Lines, is_zero, if_equal, copies_at, count, Before, Canonical}
use Rattle.bag.specs.RowOrder.{order_itself, order_equal, greater_less, less_greater}
use Rattle.bag.proofs.CanonicalForm.{before_transitive, canonical_with_line}
use Rattle.bag.specs.Integers.{if_equal_adds, if_equal_zero}
use Rattle.bag.proofs.Numbers.{zero_is}
use Rattle.table.specs.Order.{by_order}
use Rattle.table.specs.Entries.{entry_of, with_entry}
use Rattle.sheet.specs.Sheets.{change_line, of_node}
use Rattle.delta.specs.Writing.{without_zeros}
use Rattle.delta_groups.specs.Nets.{Ascends, added, gathered_onto, SmallLines}

-- ---- a row among lines whose rows ascend

pub count_absent : (r : Row) (xs : Lines) → Ascends xs → Before r xs → count xs r ≡ pos 0
unfolding count
count_absent r [] a b = refl
count_absent r (e ∷ xs) a b = ap₂ (λ x y. x +ℤ y) (ap (λ o. if_equal o e.1) (less_greater r e.0 b)) (count_absent r xs a.1 (before_transitive r e.0 xs b a.0))

-- how the count at r goes on behind the first line, by how r stands to its row
count_on : (r : Row) (e : Line) (xs : Lines) (o : Ordering) → row_order r e.0 ≡ o → Ascends (e ∷ xs) → count (e ∷ xs) r ≡ by_order o (pos 0) e.1 (count xs r)
unfolding count
count_on r e xs Less p a = count_absent r (e ∷ xs) a p
count_on r e xs Equal p a =
    let i : r ≡ e.0 = order_equal r e.0 p in
    ap₂ (λ x y. x +ℤ y) (ap (λ o. if_equal o e.1) (ap (row_order e.0) i ∙ order_itself e.0)) (count_absent r xs a.1 (subst (λ (q : Row). Before q xs) (sym i) a.0))
    ∙ +ℤ_idr e.1
count_on r e xs Greater p a = ap (λ o. if_equal o e.1 +ℤ count xs r) (greater_less r e.0 p) ∙ +ℤ_idl (count xs r)

-- ---- the entry of a row

abbrev pub change_in : Option ChangeLine → ℤ
change_in None = pos 0
change_in (Some l) = l.change

pub found_is : (r : Row) (z : ℤ) (xs : Lines) → Ascends xs → change_in (entry_of change_line_order (change_line 0 (r, z)) (of_node 0 xs)) ≡ count xs r
unfolding count
found_is r z [] a = refl
found_is r z (e ∷ xs) a = by (row_order r e.0) refl (found_is r z xs a.1)
  where
    by : (o : Ordering) → row_order r e.0 ≡ o → change_in (entry_of change_line_order (change_line 0 (r, z)) (of_node 0 xs)) ≡ count xs r →
        change_in (cond (is_eq o) (Some (change_line 0 e)) (entry_of change_line_order (change_line 0 (r, z)) (of_node 0 xs))) ≡ count (e ∷ xs) r
    by Less p ih = ih ∙ count_absent r xs a.1 (before_transitive r e.0 xs p a.0) ∙ sym (count_on r e xs Less p a)
    by Equal p ih = sym (count_on r e xs Equal p a)
    by Greater p ih = ih ∙ sym (count_on r e xs Greater p a)

pub with_is : (r : Row) (n s : ℤ) (xs : Lines) → Ascends xs → s ≡ count xs r +ℤ n → with_entry change_line_order (change_line 0 (r, s)) (of_node 0 xs) ≡ of_node 0 (added r n xs)
unfolding added count
with_is r n s [] a h = ap (λ m. change_line 0 (r, m) ∷ []) (h ∙ +ℤ_idl n)
with_is r n s (e ∷ xs) a h = by (row_order r e.0) refl (with_is r n s xs a.1)
  where
    by : (o : Ordering) → row_order r e.0 ≡ o → (s ≡ count xs r +ℤ n → with_entry change_line_order (change_line 0 (r, s)) (of_node 0 xs) ≡ of_node 0 (added r n xs)) →
        by_order o (change_line 0 (r, s) ∷ of_node 0 (e ∷ xs)) (change_line 0 (r, s) ∷ of_node 0 xs) (change_line 0 e ∷ with_entry change_line_order (change_line 0 (r, s)) (of_node 0 xs))
        ≡ of_node 0 (by_order o ((r, n) ∷ (e ∷ xs)) ((r, e.1 +ℤ n) ∷ xs) (e ∷ added r n xs))
    by Less p ih = ap (λ m. change_line 0 (r, m) ∷ of_node 0 (e ∷ xs)) (h ∙ ap (λ m. m +ℤ n) (count_on r e xs Less p a) ∙ +ℤ_idl n)
    by Equal p ih = ap (λ m. change_line 0 (r, m) ∷ of_node 0 xs) (h ∙ ap (λ m. m +ℤ n) (count_on r e xs Equal p a))
    by Greater p ih = ap (λ t. change_line 0 e ∷ t) (ih (h ∙ ap (λ m. m +ℤ n) (count_on r e xs Greater p a)))

-- ---- one line more

before_added : (q r : Row) (n : ℤ) (xs : Lines) → row_order q r ≡ Less → Before q xs → Before q (added r n xs)
unfolding added
before_added q r n [] l b = l
before_added q r n (e ∷ xs) l b = by (row_order r e.0)
  where
    by : (o : Ordering) → Before q (by_order o ((r, n) ∷ (e ∷ xs)) ((r, e.1 +ℤ n) ∷ xs) (e ∷ added r n xs))
    by Less = l
    by Equal = l
    by Greater = b

pub ascends_added : (r : Row) (n : ℤ) (xs : Lines) → Ascends xs → Ascends (added r n xs)
unfolding added
ascends_added r n [] a = (tt, tt)
ascends_added r n (e ∷ xs) a = by (row_order r e.0) refl (ascends_added r n xs a.1)
  where
    by : (o : Ordering) → row_order r e.0 ≡ o → Ascends (added r n xs) → Ascends (by_order o ((r, n) ∷ (e ∷ xs)) ((r, e.1 +ℤ n) ∷ xs) (e ∷ added r n xs))
    by Less p ih = (p, a)
    by Equal p ih = (subst (λ (q : Row). Before q xs) (sym (order_equal r e.0 p)) a.0, a.1)
    by Greater p ih = (before_added e.0 r n xs (greater_less r e.0 p) a.0, ih)

pub count_added : (r : Row) (n : ℤ) (xs : Lines) (q : Row) → count (added r n xs) q ≡ copies_at q r n +ℤ count xs q
unfolding added count
count_added r n [] q = refl
count_added r n (e ∷ xs) q = by (row_order r e.0) refl (count_added r n xs q)
  where
    swap : (x y z : ℤ) → x +ℤ (y +ℤ z) ≡ y +ℤ (x +ℤ z)
    swap x y z = omega (arith, ints)

    onto : (x y z : ℤ) → (x +ℤ y) +ℤ z ≡ y +ℤ (x +ℤ z)
    onto x y z = omega (arith, ints)

    by : (o : Ordering) → row_order r e.0 ≡ o → count (added r n xs) q ≡ copies_at q r n +ℤ count xs q →
        count (by_order o ((r, n) ∷ (e ∷ xs)) ((r, e.1 +ℤ n) ∷ xs) (e ∷ added r n xs)) q ≡ copies_at q r n +ℤ count (e ∷ xs) q
    by Less p ih = refl
    by Equal p ih =
        ap (λ x. x +ℤ count xs q) (if_equal_adds (row_order r q) e.1 n) ∙ onto (copies_at q r e.1) (copies_at q r n) (count xs q)
        ∙ ap (λ x. copies_at q r n +ℤ (copies_at q x e.1 +ℤ count xs q)) (order_equal r e.0 p)
    by Greater p ih = ap (λ x. copies_at q e.0 e.1 +ℤ x) ih ∙ swap (copies_at q e.0 e.1) (copies_at q r n) (count xs q)

pub length_added : (r : Row) (n : ℤ) (xs : Lines) → length (added r n xs) ≤ suc (length xs)
unfolding added
length_added r n [] = omega arith
length_added r n (e ∷ xs) = by (row_order r e.0) (length_added r n xs)
  where
    by : (o : Ordering) → length (added r n xs) ≤ suc (length xs) → length (by_order o ((r, n) ∷ (e ∷ xs)) ((r, e.1 +ℤ n) ∷ xs) (e ∷ added r n xs)) ≤ suc (length (e ∷ xs))
    by Less ih = omega arith
    by Equal ih = omega arith
    by Greater ih = omega arith

-- ---- lines one by one

pub gathered_more : (xs ys : Lines) (e : Line) → gathered_onto xs (ys ++ (e ∷ [])) ≡ added e.0 e.1 (gathered_onto xs ys)
unfolding gathered_onto
gathered_more xs [] e = refl
gathered_more xs (y ∷ ys) e = gathered_more (added y.0 y.1 xs) ys e

pub ascends_gathered : (xs ys : Lines) → Ascends xs → Ascends (gathered_onto xs ys)
unfolding gathered_onto
ascends_gathered xs [] a = a
ascends_gathered xs (y ∷ ys) a = ascends_gathered (added y.0 y.1 xs) ys (ascends_added y.0 y.1 xs a)

pub count_gathered : (xs ys : Lines) (q : Row) → count (gathered_onto xs ys) q ≡ count xs q +ℤ count ys q
unfolding gathered_onto count
count_gathered xs [] q = sym (+ℤ_idr (count xs q))
count_gathered xs (y ∷ ys) q = count_gathered (added y.0 y.1 xs) ys q ∙ ap (λ x. x +ℤ count ys q) (count_added y.0 y.1 xs q) ∙ turn (copies_at q y.0 y.1) (count xs q) (count ys q)
  where
    turn : (x y z : ℤ) → (x +ℤ y) +ℤ z ≡ y +ℤ (x +ℤ z)
    turn x y z = omega (arith, ints)

pub length_gathered : (xs ys : Lines) → length (gathered_onto xs ys) ≤ length xs + length ys
unfolding gathered_onto
length_gathered xs [] = omega arith
length_gathered xs (y ∷ ys) = let a = length_added y.0 y.1 xs in let b = length_gathered (added y.0 y.1 xs) ys in omega arith

-- ---- the lines that have copies

before_without : (r : Row) (xs : Lines) → Ascends xs → Before r xs → Before r (without_zeros xs)
unfolding without_zeros
before_without r [] a b = tt
before_without r (e ∷ xs) a b = by (is_zero e.1) (before_without r xs a.1 (before_transitive r e.0 xs b a.0))
  where
    by : (t : Bool) → Before r (without_zeros xs) → Before r (cond t (without_zeros xs) (e ∷ without_zeros xs))
    by true ih = ih
    by false ih = b

pub canonical_without : (xs : Lines) → Ascends xs → Canonical (without_zeros xs)
unfolding without_zeros
canonical_without [] a = tt
canonical_without (e ∷ xs) a = canonical_with_line e.0 e.1 (without_zeros xs) (before_without e.0 xs a.1 a.0) (canonical_without xs a.1)

pub count_without : (xs : Lines) (q : Row) → count (without_zeros xs) q ≡ count xs q
unfolding without_zeros count
count_without [] q = refl
count_without (e ∷ xs) q = by (is_zero e.1) refl (count_without xs q)
  where
    by : (t : Bool) → is_zero e.1 ≡ t → count (without_zeros xs) q ≡ count xs q → count (cond t (without_zeros xs) (e ∷ without_zeros xs)) q ≡ count (e ∷ xs) q
    by true z ih = ih ∙ sym (ap (λ n. copies_at q e.0 n +ℤ count xs q) (zero_is e.1 z) ∙ ap (λ n. n +ℤ count xs q) (if_equal_zero (row_order e.0 q)) ∙ +ℤ_idl (count xs q))
    by false z ih = ap (λ n. copies_at q e.0 e.1 +ℤ n) ih

-- ---- how large sums are

pub count_small : (ys : Lines) → SmallLines ys → (q : Row) → nat_abs (count ys q) ≤ 65535 * length ys
unfolding count
count_small [] s q = omega arith
count_small (e ∷ ys) s q = rw (mul-suc 65535 (length ys)) (by (row_order e.0 q) (count_small ys s.1 q))
  where
    both : (x y : ℤ) (m : ℕ) → nat_abs x ≤ 65535 → nat_abs y ≤ m → nat_abs (x +ℤ y) ≤ m + 65535
    both x y m h k = omega (arith, ints)

    by : (o : Ordering) → nat_abs (count ys q) ≤ 65535 * length ys → nat_abs (if_equal o e.1 +ℤ count ys q) ≤ 65535 * length ys + 65535
    by Less h = both (pos 0) (count ys q) (65535 * length ys) (omega arith) h
    by Equal h = both e.1 (count ys q) (65535 * length ys) s.0 h
    by Greater h = both (pos 0) (count ys q) (65535 * length ys) (omega arith) h

pub sum_fits : (x n : ℤ) (m : ℕ) → nat_abs x ≤ 65535 * m → m < 8192 → nat_abs n ≤ 65535 → SFits w32 (x +ℤ n)
sum_fits x n m h l k = let b : nat_abs (x +ℤ n) ≤ 536870911 = omega (arith, ints) in search rules
