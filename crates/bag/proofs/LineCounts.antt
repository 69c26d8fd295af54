-- How many lines a change wants and frees. Assumes nothing.
--     length_add_copies      one more line if the row was not there, one less if it goes
--     lines_follow_change    the lines after a change
--     length_most            a bound on them
use Rattle.std.proofs.Common.{◌≡◌, zero, suc, ◌+◌, ◌≤◌, Bool, true, false, [], ◌∷◌, length, ℤ, pos, negsuc, ◌+ℤ◌, Ordering, Less, Equal, Greater, sym, refl, ap, ◌∙◌, arith}
use lib.IntN.{+ℤ_comm, +ℤ_idl}
use Rattle.std.proofs.lemmas.Int.{ints}
use Rattle.bag.specs.Order.{Row, row_order}
use Rattle.bag.specs.Bag.{Lines, is_zero, if_equal, count, with_line, add_by, add_copies, Canonical}
use Rattle.bag.specs.Changes.{Moves}
use Rattle.bag.specs.Propagation.{one_if, appearing, vanishing}
use Rattle.bag.specs.Laws.{LinesFollowChange}
use Rattle.bag.specs.RowOrder.{order_equal, greater_less}
use Rattle.bag.specs.Integers.{count_add_copies}
use Rattle.bag.proofs.CanonicalForm.{count_before, count_head, canonical_add_copies, equal_counts}

length_with_line : (r : Row) (n : ℤ) (xs : Lines) → length (with_line r n xs) + one_if (is_zero n) ≡ suc (length xs)
length_with_line r (pos zero) xs = omega arith
length_with_line r (pos (suc n)) xs = omega arith
length_with_line r (negsuc n) xs = omega arith

pub length_add_copies : (r : Row) (n : ℤ) (xs : Lines) → Canonical xs → is_zero n ≡ false → length (add_copies r n xs) + one_if (is_zero (count xs r +ℤ n)) ≡ length xs + one_if (is_zero (count xs r))
unfolding add_copies count
length_add_copies r n [] c z =
    let a = length_with_line r n [] in
    let b : one_if (is_zero n) ≡ 0 = ap one_if z in
    let d : one_if (is_zero (pos 0 +ℤ n)) ≡ 0 = ap (λ k. one_if (is_zero k)) (+ℤ_idl n) ∙ b in
    omega arith
length_add_copies r n (e ∷ xs) c z = by (row_order r e.0) refl (length_add_copies r n xs c.2 z)
  where
    by : (o : Ordering) → row_order r e.0 ≡ o → length (add_copies r n xs) + one_if (is_zero (count xs r +ℤ n)) ≡ length xs + one_if (is_zero (count xs r)) →
        length (add_by o r n e xs (add_copies r n xs)) + one_if (is_zero (count (e ∷ xs) r +ℤ n)) ≡ suc (length xs) + one_if (is_zero (count (e ∷ xs) r))
    by Less p ih =
        let k : count (e ∷ xs) r ≡ pos 0 = count_before r (e ∷ xs) c p in
        let a = length_with_line r n (e ∷ xs) in
        let b : one_if (is_zero n) ≡ 0 = ap one_if z in
        let d : one_if (is_zero (count (e ∷ xs) r +ℤ n)) ≡ 0 = ap (λ k. one_if (is_zero (k +ℤ n))) k ∙ ap (λ k. one_if (is_zero k)) (+ℤ_idl n) ∙ b in
        let f : one_if (is_zero (count (e ∷ xs) r)) ≡ 1 = ap (λ k. one_if (is_zero k)) k in
        omega arith
    by Equal p ih =
        let k : count (e ∷ xs) r ≡ e.1 = ap (count (e ∷ xs)) (order_equal r e.0 p) ∙ count_head e xs c in
        let a = length_with_line e.0 (n +ℤ e.1) xs in
        let d : one_if (is_zero (count (e ∷ xs) r +ℤ n)) ≡ one_if (is_zero (n +ℤ e.1)) = ap (λ k. one_if (is_zero (k +ℤ n))) k ∙ ap (λ k. one_if (is_zero k)) (+ℤ_comm e.1 n) in
        let f : one_if (is_zero (count (e ∷ xs) r)) ≡ 0 = ap (λ k. one_if (is_zero k)) k ∙ ap one_if c.0 in
        omega arith
    by Greater p ih =
        let k : count (e ∷ xs) r ≡ count xs r = ap (λ o. if_equal o e.1 +ℤ count xs r) (greater_less r e.0 p) ∙ +ℤ_idl (count xs r) in
        let d : one_if (is_zero (count (e ∷ xs) r +ℤ n)) ≡ one_if (is_zero (count xs r +ℤ n)) = ap (λ k. one_if (is_zero (k +ℤ n))) k in
        let f : one_if (is_zero (count (e ∷ xs) r)) ≡ one_if (is_zero (count xs r)) = ap (λ k. one_if (is_zero k)) k in
        omega arith

unfoldable add_all : Lines → Lines → Lines
add_all [] xs = xs
add_all (e ∷ d) xs = add_copies e.0 e.1 (add_all d xs)

canonical_add_all : (d xs : Lines) → Canonical xs → Canonical (add_all d xs)
unfolding add_all
canonical_add_all [] xs c = c
canonical_add_all (e ∷ d) xs c = canonical_add_copies e.0 e.1 (add_all d xs) (canonical_add_all d xs c)

count_add_all : (d xs : Lines) (q : Row) → count (add_all d xs) q ≡ count d q +ℤ count xs q
unfolding add_all count
count_add_all [] xs q = sym (+ℤ_idl (count xs q))
count_add_all (e ∷ d) xs q = let a = count_add_copies e.0 e.1 (add_all d xs) q in let b = count_add_all d xs q in omega (arith, ints)

length_add_all : (d xs : Lines) → Canonical d → Canonical xs → length (add_all d xs) + vanishing xs d ≡ length xs + appearing xs d
unfolding add_all vanishing appearing
length_add_all [] xs c k = refl
length_add_all (e ∷ d) xs c k =
    let i = length_add_all d xs c.2 k in
    let a = length_add_copies e.0 e.1 (add_all d xs) (canonical_add_all d xs k) c.0 in
    let n : count (add_all d xs) e.0 ≡ count xs e.0 = count_add_all d xs e.0 ∙ ap (λ z. z +ℤ count xs e.0) (count_before e.0 d c.2 c.1) ∙ +ℤ_idl (count xs e.0) in
    let p : one_if (is_zero (count (add_all d xs) e.0 +ℤ e.1)) ≡ one_if (is_zero (count xs e.0 +ℤ e.1)) = ap (λ z. one_if (is_zero (z +ℤ e.1))) n in
    let q : one_if (is_zero (count (add_all d xs) e.0)) ≡ one_if (is_zero (count xs e.0)) = ap (λ z. one_if (is_zero z)) n in
    omega arith

pub lines_follow_change : LinesFollowChange
lines_follow_change old d new c k m h =
    ap (λ x. length x + vanishing old d) (equal_counts new (add_all d old) m (canonical_add_all d old c) (λ q. let a = h q in let b = count_add_all d old q in omega (arith, ints)))
    ∙ length_add_all d old k c

appearing_most : (old d : Lines) → appearing old d ≤ length d
unfolding appearing
appearing_most old [] = omega arith
appearing_most old (e ∷ d) = let a = most (is_zero (count old e.0)) in let b = appearing_most old d in omega arith
  where
    most : (t : Bool) → one_if t ≤ 1
    most true = omega arith
    most false = omega arith

-- a bag has at most as many lines as the old one and the change together
pub length_most : (old d new : Lines) → Canonical old → Canonical d → Canonical new → Moves old d new → length new ≤ length old + length d
length_most old d new co cd cn m = let a = lines_follow_change old d new co cd cn m in let b = appearing_most old d in omega arith
