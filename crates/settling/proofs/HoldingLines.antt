-- How many lines a holding has. Assumes nothing.
--     lines_set             how many lines there are with one shelf replaced
--     lines_with_copies     how many there are after more copies of one row
--     length_fewer, lines_fewer      smaller counts are on no more lines
use Rattle.std.proofs.Common.{◌≡◌, ℕ, zero, suc, ◌+◌, ◌<◌, ◌≤◌, false, List, [], ◌∷◌, length, get_or, set, ℤ, pos, negsuc, ◌+ℤ◌, ◌≤ℤ◌, ◌<ℤ◌, refl, ap, ap₂, arith}
use Rattle.std.proofs.lemmas.Int.{ints}
use Rattle.bag.specs.Order.{Row}
use Rattle.bag.specs.Bag.{Lines, is_zero, count, add_copies, difference, Canonical, Positive, IsBag}
use Rattle.bag.specs.Propagation.{one_if, vanishing}
use Rattle.bag.proofs.Numbers.{positive_above}
use Rattle.bag.proofs.Moves.{difference_moves, canonical_difference}
use Rattle.bag.proofs.LineCounts.{length_add_copies, lines_follow_change}
use Rattle.bag.proofs.OperatorBags.{count_low}
use Rattle.bag.proofs.TestsAtChanges.{bag_from_counts}
use Rattle.stock.specs.Holding.{Holding, shelf_of, lines_on, lines_of, with_copies}

pub lines_set : (bags : List Lines) (s : ℕ) (b : Lines) → s < length bags → lines_on (set bags s b) + length (get_or bags s []) ≡ lines_on bags + length b
unfolding lines_on
lines_set [] s b l = absurd (let z : ⊥ = omega arith in z)
lines_set (a ∷ bags) zero b l = omega arith
lines_set (a ∷ bags) (suc s) b l = let r = lines_set bags s b (omega arith) in omega arith

pub lines_with_copies : (h : Holding) (s : ℕ) (r : Row) (z : ℤ) → s < length h.shelves → Canonical (shelf_of h s) → is_zero z ≡ false
    → lines_of (with_copies h s r z) + one_if (is_zero (count (shelf_of h s) r +ℤ z)) ≡ lines_of h + one_if (is_zero (count (shelf_of h s) r))
lines_with_copies h s r z l c n =
    let a = lines_set h.shelves s (add_copies r z (shelf_of h s)) l in
    let b = length_add_copies r z (shelf_of h s) c n in
    omega (arith, a, b)

above_zero : (z : ℤ) → pos 0 <ℤ z → is_zero z ≡ false
above_zero (pos zero) h = absurd (let y : ⊥ = omega (arith, ints) in y)
above_zero (pos (suc n)) h = refl
above_zero (negsuc n) h = refl

-- no row vanishes by puts
vanishing_none : (old d : Lines) → ((q : Row) → pos 0 ≤ℤ count old q) → Positive d → vanishing old d ≡ 0
unfolding vanishing
vanishing_none old [] low p = refl
vanishing_none old (e ∷ d) low p =
    let l = low e.0 in
    let a = positive_above e.1 p.0 in
    ap₂ (λ x y. x + y) (ap one_if (above_zero (count old e.0 +ℤ e.1) (omega (arith, ints)))) (vanishing_none old d low p.1)

-- smaller counts are on no more lines
pub length_fewer : (xs ys : Lines) → IsBag xs → IsBag ys → ((q : Row) → count xs q ≤ℤ count ys q) → length xs ≤ length ys
length_fewer xs ys a b h =
    let in_order = canonical_difference xs ys in
    let whole = lines_follow_change xs (difference xs ys) ys a.0 in_order b.0 (difference_moves xs ys) in
    let puts = bag_from_counts (difference xs ys) in_order (λ q. let m = difference_moves xs ys q in let l = h q in omega (arith, ints)) in
    let none = vanishing_none xs (difference xs ys) (count_low xs a.1) puts in
    omega arith

pub lines_fewer : (us bs : List Lines) → length us ≡ length bs → ((s : ℕ) → s < length us → length (get_or us s []) ≤ length (get_or bs s [])) → lines_on us ≤ lines_on bs
unfolding lines_on
lines_fewer [] bs l h = omega arith
lines_fewer (a ∷ us) [] l h = absurd (let z : ⊥ = omega arith in z)
lines_fewer (a ∷ us) (b ∷ bs) l h = let x = h 0 (omega arith) in let y = lines_fewer us bs (omega arith) (λ s m. h (suc s) (omega arith)) in omega arith
