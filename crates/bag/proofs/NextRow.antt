-- `next`, told by counts alone, and walking a bag by it. Assumes nothing.
--     next_is_after       next answers the row after
--     one_answer          only one answer is right
--     next_found, next_none      so whatever is the row after, or that there is none, is what next answers
--     length_new          a new row is one line more
--     next_first          next is the first of the rows after
--     walk_start, walk_more, walk_end      how many lines a walk by next has before it
--     before_lowest       where such a walk may begin
use Rattle.std.proofs.Common.{◌≡◌, ℕ, suc, false, cond, [], ◌∷◌, length, replicate, ℤ, pos, negsuc, ◌+ℤ◌, ◌<ℤ◌, Some, None, Option, Ordering, Less, Equal, Greater, sym, refl, ap, ◌∙◌, ap₂, arith}
use lib.IntN.{+ℤ_idl}
use Rattle.std.specs.Ordering.{ordering_then}
use Rattle.bag.specs.Order.{Row, row_order}
use Rattle.bag.specs.Columns.{column_of}
use Rattle.bag.specs.Bag.{Line, Lines, is_zero, if_equal, count, with_line, add_by, add_copies, Before, Canonical, EachRow, if_less, next, rows_after, lowest_row}
use Rattle.bag.specs.Laws.{RowAfter, NextFindsTheRowAfter}
use Rattle.bag.proofs.Numbers.{not_zero}
use Rattle.bag.specs.RowOrder.{column_less, order_itself, order_equal, order_transitive, greater_less, less_greater}
use Rattle.bag.proofs.CanonicalForm.{count_before, count_head}

-- a row greater than r, where the first line is not, is counted in the rest
skip_equal : (r : Row) (e : Line) (xs : Lines) → row_order r e.0 ≡ Equal → (q : Row) → row_order r q ≡ Less → count (e ∷ xs) q ≡ count xs q
unfolding count
skip_equal r e xs p q h = ap (λ o. if_equal o e.1 +ℤ count xs q) (ap (λ a. row_order a q) (sym (order_equal r e.0 p)) ∙ h) ∙ +ℤ_idl (count xs q)

skip_greater : (r : Row) (e : Line) (xs : Lines) → row_order r e.0 ≡ Greater → (q : Row) → row_order r q ≡ Less → count (e ∷ xs) q ≡ count xs q
unfolding count
skip_greater r e xs p q h = ap (λ o. if_equal o e.1 +ℤ count xs q) (order_transitive e.0 r q (greater_less r e.0 p) h) ∙ +ℤ_idl (count xs q)

behind : (r : Row) (e : Line) (xs : Lines) → ((q : Row) → row_order r q ≡ Less → count (e ∷ xs) q ≡ count xs q) → (answer : Option Line) → RowAfter xs r answer → RowAfter (e ∷ xs) r answer
behind r e xs skip (Some d) h = (h.0, skip d.0 h.2 ∙ h.1, h.2, λ q a b. skip q a ∙ h.3 q a b)
behind r e xs skip None h = λ q a. skip q a ∙ h q a

pub next_is_after : (xs : Lines) (r : Row) → Canonical xs → RowAfter xs r (next xs r)
unfolding next count
next_is_after [] r c = λ q h. refl
next_is_after (e ∷ xs) r c = by (row_order r e.0) refl (next_is_after xs r c.2)
  where
    by : (o : Ordering) → row_order r e.0 ≡ o → RowAfter xs r (next xs r) → RowAfter (e ∷ xs) r (if_less o (Some e) (next xs r))
    by Less p ih = (c.0, count_head e xs c, p, λ q a b. count_before q (e ∷ xs) c b)
    by Equal p ih = behind r e xs (skip_equal r e xs p) (next xs r) ih
    by Greater p ih = behind r e xs (skip_greater r e xs p) (next xs r) ih

pub one_answer : (xs : Lines) (r : Row) (a b : Option Line) → RowAfter xs r a → RowAfter xs r b → a ≡ b
one_answer xs r None None h k = refl
one_answer xs r None (Some d) h k = absurd (not_zero d.1 k.0 (sym k.1 ∙ h d.0 k.2))
one_answer xs r (Some e) None h k = absurd (not_zero e.1 h.0 (sym h.1 ∙ k e.0 h.2))
one_answer xs r (Some e) (Some d) h k = by (row_order e.0 d.0) refl
  where
    by : (o : Ordering) → row_order e.0 d.0 ≡ o → ◌≡◌ {A = Option Line} (Some e) (Some d)
    by Less p = absurd (not_zero e.1 h.0 (sym h.1 ∙ k.3 e.0 h.2 p))
    by Equal p =
        let a : e.0 ≡ d.0 = order_equal e.0 d.0 p in
        let b : e.1 ≡ d.1 = sym h.1 ∙ ap (count xs) a ∙ k.1 in
        ap Some (ap₂ {C = Line} (λ x y. (x, y)) a b)
    by Greater p = absurd (not_zero d.1 k.0 (sym k.1 ∙ h.3 d.0 k.2 (greater_less e.0 d.0 p)))

pub next_found : (xs : Lines) (r : Row) (e : Line) → Canonical xs → row_order r e.0 ≡ Less → count xs e.0 ≡ e.1 → is_zero e.1 ≡ false →
    ((p : Row) → row_order r p ≡ Less → row_order p e.0 ≡ Less → count xs p ≡ pos 0) → next xs r ≡ Some e
next_found xs r e c h n z m = one_answer xs r (next xs r) (Some e) (next_is_after xs r c) (z, n, h, m)

pub next_none : (xs : Lines) (r : Row) → Canonical xs → ((p : Row) → row_order r p ≡ Less → count xs p ≡ pos 0) → next xs r ≡ None
next_none xs r c m = one_answer xs r (next xs r) None (next_is_after xs r c) m

pub next_finds_the_row_after : NextFindsTheRowAfter
next_finds_the_row_after xs r c = record { found = next_is_after xs r c; only = λ answer h. one_answer xs r (next xs r) answer (next_is_after xs r c) h }

length_with_line : (r : Row) (n : ℤ) (xs : Lines) → is_zero n ≡ false → length (with_line r n xs) ≡ suc (length xs)
length_with_line r n xs z = ap (λ t. length (cond t xs ((r, n) ∷ xs))) z

pub length_new : (r : Row) (n : ℤ) (xs : Lines) → Canonical xs → count xs r ≡ pos 0 → is_zero n ≡ false → length (add_copies r n xs) ≡ suc (length xs)
unfolding add_copies count
length_new r n [] c h z = length_with_line r n [] z
length_new r n (e ∷ xs) c h z = by (row_order r e.0) refl (length_new r n xs c.2)
  where
    by : (o : Ordering) → row_order r e.0 ≡ o → (count xs r ≡ pos 0 → is_zero n ≡ false → length (add_copies r n xs) ≡ suc (length xs)) → length (add_by o r n e xs (add_copies r n xs)) ≡ suc (suc (length xs))
    by Less p ih = length_with_line r n (e ∷ xs) z
    by Equal p ih = absurd (not_zero e.1 c.0 (sym (count_head e xs c) ∙ ap (count (e ∷ xs)) (sym (order_equal r e.0 p)) ∙ h))
    by Greater p ih = ap suc (ih (sym (+ℤ_idl (count xs r)) ∙ sym (ap (λ o. if_equal o e.1 +ℤ count xs r) (greater_less r e.0 p)) ∙ h) z)

-- walking: next answers the first line of a greater row, and behind it is the rest
abbrev pub first_line : Lines → Option Line
first_line [] = None
first_line (e ∷ xs) = Some e

pub next_first : (xs : Lines) (r : Row) → next xs r ≡ first_line (rows_after xs r)
unfolding next rows_after
next_first [] r = refl
next_first (e ∷ xs) r = by (row_order r e.0) (next_first xs r)
  where
    by : (o : Ordering) → next xs r ≡ first_line (rows_after xs r) → if_less o (Some e) (next xs r) ≡ first_line (if_less o (e ∷ xs) (rows_after xs r))
    by Less ih = refl
    by Equal ih = ih
    by Greater ih = ih

pub rows_after_before : (r : Row) (xs : Lines) → Before r xs → rows_after xs r ≡ xs
unfolding rows_after
rows_after_before r [] b = refl
rows_after_before r (e ∷ xs) b = ap (λ o. if_less o (e ∷ xs) (rows_after xs r)) b

head_of : (e d : Line) (s t : Lines) → ◌≡◌ {A = Lines} (e ∷ s) (d ∷ t) → (e ≡ d) × (s ≡ t)
head_of e d s t p = (cc, cc)

pub rows_after_greater : (xs : Lines) (r : Row) (e : Line) (t : Lines) → rows_after xs r ≡ e ∷ t → row_order r e.0 ≡ Less
unfolding rows_after
rows_after_greater [] r e t h = let y : ◌≡◌ {A = ℕ} 0 1 = cc in absurd (omega arith)
rows_after_greater (d ∷ xs) r e t h = by (row_order r d.0) refl h (rows_after_greater xs r e t)
  where
    by : (o : Ordering) → row_order r d.0 ≡ o → if_less o (d ∷ xs) (rows_after xs r) ≡ e ∷ t → (rows_after xs r ≡ e ∷ t → row_order r e.0 ≡ Less) → row_order r e.0 ≡ Less
    by Less p h ih = ap (λ (l : Line). row_order r l.0) (sym (head_of d e xs t h).0) ∙ p
    by Equal p h ih = ih h
    by Greater p h ih = ih h

pub rows_after_next : (xs : Lines) (r : Row) (e : Line) (t : Lines) → Canonical xs → rows_after xs r ≡ e ∷ t → rows_after xs e.0 ≡ t
unfolding rows_after
rows_after_next [] r e t c h = let y : ◌≡◌ {A = ℕ} 0 1 = cc in absurd (omega arith)
rows_after_next (d ∷ xs) r e t c h = by (row_order r d.0) refl h (rows_after_next xs r e t c.2)
  where
    by : (o : Ordering) → row_order r d.0 ≡ o → if_less o (d ∷ xs) (rows_after xs r) ≡ e ∷ t → (rows_after xs r ≡ e ∷ t → rows_after xs e.0 ≡ t) → if_less (row_order e.0 d.0) (d ∷ xs) (rows_after xs e.0) ≡ t
    by Less p h ih =
        let q = head_of d e xs t h in
        ap (λ (l : Line). if_less (row_order l.0 d.0) (d ∷ xs) (rows_after xs l.0)) (sym q.0)
        ∙ ap (λ o. if_less o (d ∷ xs) (rows_after xs d.0)) (order_itself d.0) ∙ rows_after_before d.0 xs c.1 ∙ q.1
    by Equal p h ih =
        let q : row_order d.0 e.0 ≡ Less = ap (λ a. row_order a e.0) (sym (order_equal r d.0 p)) ∙ rows_after_greater xs r e t h in
        ap (λ o. if_less o (d ∷ xs) (rows_after xs e.0)) (less_greater d.0 e.0 q) ∙ ih h
    by Greater p h ih =
        let q : row_order d.0 e.0 ≡ Less = order_transitive d.0 r e.0 (greater_less r d.0 p) (rows_after_greater xs r e t h) in
        ap (λ o. if_less o (d ∷ xs) (rows_after xs e.0)) (less_greater d.0 e.0 q) ∙ ih h

some_of : (l : Lines) (e : Line) → first_line l ≡ Some e → (t : Lines) × (l ≡ e ∷ t)
some_of [] e h = let y : ◌≡◌ {A = ℕ} 0 1 = cc in absurd (omega arith)
some_of (d ∷ t) e h = (t, ap (λ x. x ∷ t) (let q : d ≡ e = cc in q))

pub walk_more : (xs : Lines) (r : Row) (e : Line) → Canonical xs → Some e ≡ next xs r → length (rows_after xs r) ≡ suc (length (rows_after xs e.0))
walk_more xs r e c h =
    let p = some_of (rows_after xs r) e (sym (next_first xs r) ∙ sym h) in
    ap length p.1 ∙ ap (λ t. suc (length t)) (sym (rows_after_next xs r e p.0 c p.1))

none_of : (l : Lines) → first_line l ≡ None → length l ≡ 0
none_of [] h = refl
none_of (d ∷ t) h = let y : ◌≡◌ {A = ℕ} 0 1 = cc in absurd (omega arith)

pub walk_end : (xs : Lines) (r : Row) → None ≡ next xs r → length (rows_after xs r) ≡ 0
walk_end xs r h = none_of (rows_after xs r) (sym (next_first xs r) ∙ sym h)

pub walk_start : (xs : Lines) (r : Row) → Before r xs → length (rows_after xs r) ≡ length xs
walk_start xs r b = ap length (rows_after_before r xs b)

-- where no row begins with the smallest number, a walk from the lowest row meets every line
lowest_less : (z : ℤ) (r : Row) → negsuc 2147483647 <ℤ z → row_order lowest_row (z ∷ r) ≡ Less
unfolding row_order
lowest_less z r h = ap (λ o. ordering_then o (row_order (replicate 7 (negsuc 2147483647)) r)) (column_less (negsuc 2147483647) z h)

pub before_lowest : (xs : Lines) → EachRow (λ r. (length r ≡ 8) × (negsuc 2147483647 <ℤ column_of r 0)) xs → Before lowest_row xs
before_lowest [] h = tt
before_lowest (e ∷ xs) h = by e.0 h.0.0 h.0.1
  where
    by : (r : Row) → length r ≡ 8 → negsuc 2147483647 <ℤ column_of r 0 → row_order lowest_row r ≡ Less
    by [] l k = let z : ⊥ = omega arith in absurd z
    by (z ∷ r) l k = lowest_less z r k
