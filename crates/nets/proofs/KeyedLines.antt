-- A table of change lines read as one canonical list by keys of node and row. Assumes nothing.
--     order_by_key         the order of keys is the order of lines
--     count_found          the change at a key is that of the line that the key finds
--     with_net             a line added or replaced, as copies added at its key
--     without_net          a line taken out, where the copies come to 0
--     longer_by_one        copies added at one key make one line more at most
use Rattle.std.proofs.Common.{◌≡◌, suc, ◌<◌, ◌≤◌, Bool, true, false, cond, List, [], ◌∷◌, map, length, ℤ, pos, ◌+ℤ◌, Some, None, Option, Ordering, Less, Equal, Greater, sym, refl, ap, ◌∙◌, arith}
use lib.IntN.{+ℤ_idl, +ℤ_idr}
use Rattle.std.specs.Cmp.{ranks}
use Rattle.std.specs.Ordering.{MatchOrdering, ordering_then, is_eq, nat_cmp}
use Rattle.bag.specs.declared.lines.ChangeLine.{ChangeLine}
use Rattle.bag.specs.Order.{Row, row_order, change_line_order}
use Rattle.bag.specs.Bag.{Line, Lines, is_zero, if_equal, count, with_line, add_by, add_copies, Canonical}
use Rattle.bag.proofs.Numbers.{zero_is}
use Rattle.bag.specs.RowOrder.{order_equal, greater_less}
use Rattle.bag.proofs.CanonicalForm.{before_transitive, count_before, count_head, canonical_add_copies, equal_counts}
use Rattle.bag.specs.Integers.{count_add_copies, if_equal_zero}
use Rattle.table.specs.Order.{by_order}
use Rattle.table.specs.Entries.{entry_of, with_entry, without_key}
use Rattle.settling.specs.Keys.{key, key_of, keyed}
use Rattle.settling.proofs.KeyOrder.{key_less, key_greater, key_same}

pub order_by_key : (x y : ChangeLine) → row_order (key_of x) (key_of y) ≡ change_line_order x y
order_by_key x y = by (nat_cmp x.node y.node) (ranks x.node y.node)
  where
    by : (o : Ordering) → MatchOrdering o (x.node < y.node) (x.node ≡ y.node) (y.node < x.node) → row_order (key_of x) (key_of y) ≡ ordering_then o (row_order x.row y.row)
    by Less h = key_less x.node y.node x.row y.row h
    by Equal h = ap (λ n. row_order (key_of x) (key n y.row)) (sym h) ∙ key_same x.node x.row y.row
    by Greater h = key_greater x.node y.node x.row y.row h

count_behind : (k : Row) (e : Line) (xs : Lines) → row_order k e.0 ≡ Greater → count (e ∷ xs) k ≡ count xs k
unfolding count
count_behind k e xs q = rw (greater_less k e.0 q) (+ℤ_idl (count xs k))

count_before_tail : (k : Row) (e : Line) (xs : Lines) → Canonical (e ∷ xs) → row_order k e.0 ≡ Less → count xs k ≡ pos 0
count_before_tail k e xs c q = count_before k xs c.2 (before_transitive k e.0 xs q c.1)

abbrev pub found_change : Option ChangeLine → ℤ
found_change None = pos 0
found_change (Some l) = l.change

pub count_found : (k : ChangeLine) (xs : List ChangeLine) → Canonical (map keyed xs) → count (map keyed xs) (key_of k) ≡ found_change (entry_of change_line_order k xs)
unfolding count
count_found k [] c = refl
count_found k (x ∷ xs) c = by (change_line_order k x) (order_by_key k x) (count_found k xs c.2)
  where
    by : (o : Ordering) → row_order (key_of k) (key_of x) ≡ o → count (map keyed xs) (key_of k) ≡ found_change (entry_of change_line_order k xs)
        → count (map keyed (x ∷ xs)) (key_of k) ≡ found_change (cond (is_eq o) (Some x) (entry_of change_line_order k xs))
    by Less q rec = count_before (key_of k) (map keyed (x ∷ xs)) c q ∙ sym (count_before_tail (key_of k) (keyed x) (map keyed xs) c q) ∙ rec
    by Equal q rec = ap (count (map keyed (x ∷ xs))) (order_equal (key_of k) (key_of x) q) ∙ count_head (keyed x) (map keyed xs) c
    by Greater q rec = count_behind (key_of k) (keyed x) (map keyed xs) q ∙ rec

-- a line of which the number is not 0 stands in front
line_stands : (r : Row) (a z : ℤ) (xs : Lines) → a ≡ z → is_zero a ≡ false → with_line r z xs ≡ (r, a) ∷ xs
line_stands r a z xs s n = let m : is_zero z ≡ false = ap is_zero (sym s) ∙ n in rw m (ap (λ v. (r, v) ∷ xs) (sym s))

line_gone : (r : Row) (z : ℤ) (xs : Lines) → is_zero z ≡ true → with_line r z xs ≡ xs
line_gone r z xs n = rw n

no_copies : (r : Row) (z : ℤ) (xs : Lines) → Canonical xs → is_zero z ≡ true → add_copies r z xs ≡ xs
no_copies r z xs c n =
    equal_counts (add_copies r z xs) xs (canonical_add_copies r z xs c) c (λ q. count_add_copies r z xs q ∙ ap (λ v. if_equal (row_order r q) v +ℤ count xs q) (zero_is z n) ∙ ap (λ v. v +ℤ count xs q) (if_equal_zero (row_order r q)) ∙ +ℤ_idl (count xs q))

pub with_net : (e : ChangeLine) (z : ℤ) (xs : List ChangeLine) → Canonical (map keyed xs) → e.change ≡ z +ℤ count (map keyed xs) (key_of e) → is_zero e.change ≡ false
    → map keyed (with_entry change_line_order e xs) ≡ add_copies (key_of e) z (map keyed xs)
unfolding add_copies count
with_net e z [] c q n = sym (line_stands (key_of e) e.change z [] (q ∙ +ℤ_idr z) n)
with_net e z (x ∷ xs) c q n =
    by (change_line_order e x) (order_by_key e x) (with_net e z xs c.2)
    ∙ sym (ap (λ o. add_by o (key_of e) z (keyed x) (map keyed xs) (add_copies (key_of e) z (map keyed xs))) (order_by_key e x))
  where
    by : (o : Ordering) → row_order (key_of e) (key_of x) ≡ o
        → (e.change ≡ z +ℤ count (map keyed xs) (key_of e) → is_zero e.change ≡ false → map keyed (with_entry change_line_order e xs) ≡ add_copies (key_of e) z (map keyed xs))
        → map keyed (by_order o (e ∷ (x ∷ xs)) (e ∷ xs) (x ∷ with_entry change_line_order e xs)) ≡ add_by o (key_of e) z (keyed x) (map keyed xs) (add_copies (key_of e) z (map keyed xs))
    by Less h rec = sym (line_stands (key_of e) e.change z (map keyed (x ∷ xs)) (q ∙ ap (λ v. z +ℤ v) (count_before (key_of e) (map keyed (x ∷ xs)) c h) ∙ +ℤ_idr z) n)
    by Equal h rec =
        let same : key_of e ≡ key_of x = order_equal (key_of e) (key_of x) h in
        let there = ap (count (map keyed (x ∷ xs))) same ∙ count_head (keyed x) (map keyed xs) c in
        ap (λ (r : Row). (r, e.change) ∷ map keyed xs) same ∙ sym (line_stands (key_of x) e.change (z +ℤ x.change) (map keyed xs) (q ∙ ap (λ v. z +ℤ v) there) n)
    by Greater h rec = ap (λ ys. keyed x ∷ ys) (rec (q ∙ ap (λ v. z +ℤ v) (count_behind (key_of e) (keyed x) (map keyed xs) h)) n)

pub without_net : (e : ChangeLine) (z : ℤ) (xs : List ChangeLine) → Canonical (map keyed xs) → is_zero (z +ℤ count (map keyed xs) (key_of e)) ≡ true
    → map keyed (without_key change_line_order e xs) ≡ add_copies (key_of e) z (map keyed xs)
unfolding add_copies count
without_net e z [] c n = sym (line_gone (key_of e) z [] (ap is_zero (sym (+ℤ_idr z)) ∙ n))
without_net e z (x ∷ xs) c n =
    by (change_line_order e x) (order_by_key e x) (without_net e z xs c.2)
    ∙ sym (ap (λ o. add_by o (key_of e) z (keyed x) (map keyed xs) (add_copies (key_of e) z (map keyed xs))) (order_by_key e x))
  where
    by : (o : Ordering) → row_order (key_of e) (key_of x) ≡ o
        → (is_zero (z +ℤ count (map keyed xs) (key_of e)) ≡ true → map keyed (without_key change_line_order e xs) ≡ add_copies (key_of e) z (map keyed xs))
        → map keyed (cond (is_eq o) xs (x ∷ without_key change_line_order e xs)) ≡ add_by o (key_of e) z (keyed x) (map keyed xs) (add_copies (key_of e) z (map keyed xs))
    by Less h rec =
        let none : is_zero z ≡ true = ap is_zero (sym (ap (λ v. z +ℤ v) (count_before (key_of e) (map keyed (x ∷ xs)) c h) ∙ +ℤ_idr z)) ∙ n in
        let behind : is_zero (z +ℤ count (map keyed xs) (key_of e)) ≡ true = ap is_zero (ap (λ v. z +ℤ v) (count_before_tail (key_of e) (keyed x) (map keyed xs) c h) ∙ +ℤ_idr z) ∙ none in
        ap (λ ys. keyed x ∷ ys) (rec behind ∙ no_copies (key_of e) z (map keyed xs) c.2 none) ∙ sym (line_gone (key_of e) z (map keyed (x ∷ xs)) none)
    by Equal h rec =
        let same : key_of e ≡ key_of x = order_equal (key_of e) (key_of x) h in
        let there = ap (count (map keyed (x ∷ xs))) same ∙ count_head (keyed x) (map keyed xs) c in
        sym (line_gone (key_of x) (z +ℤ x.change) (map keyed xs) (ap is_zero (ap (λ v. z +ℤ v) (sym there)) ∙ n))
    by Greater h rec = ap (λ ys. keyed x ∷ ys) (rec (ap is_zero (ap (λ v. z +ℤ v) (sym (count_behind (key_of e) (keyed x) (map keyed xs) h))) ∙ n))

length_with_line : (r : Row) (z : ℤ) (xs : Lines) → length (with_line r z xs) ≤ suc (length xs)
length_with_line r z xs = by (is_zero z)
  where
    by : (b : Bool) → length (cond b xs ((r, z) ∷ xs)) ≤ suc (length xs)
    by true = omega arith
    by false = omega arith

pub longer_by_one : (r : Row) (z : ℤ) (xs : Lines) → length (add_copies r z xs) ≤ suc (length xs)
unfolding add_copies
longer_by_one r z [] = length_with_line r z []
longer_by_one r z (e ∷ xs) = by (row_order r e.0) (longer_by_one r z xs)
  where
    by : (o : Ordering) → length (add_copies r z xs) ≤ suc (length xs) → length (add_by o r z e xs (add_copies r z xs)) ≤ suc (suc (length xs))
    by Less rec = length_with_line r z (e ∷ xs)
    by Equal rec = let l = length_with_line e.0 (z +ℤ e.1) xs in omega arith
    by Greater rec = omega arith
