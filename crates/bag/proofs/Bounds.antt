-- Bounds on counts and on the copies of groups. Assumes nothing.
--     count_most          where no line has more than b copies, no row has
--     group_copies_low    the copies of a group of a bag are not negative
--     group_copies_most   where no line has more than b copies, a group has at most b for each line
use Rattle.std.proofs.Common.{◌≡◌, ℕ, suc, ◌+◌, ◌*◌, Bool, true, false, cond, [], ◌∷◌, length, ℤ, pos, ◌+ℤ◌, ◌≤ℤ◌, Ordering, Less, Equal, Greater, sym, refl, subst, mul-zero, mul-suc, arith}
use lib.Signed.{le_z}
use Rattle.std.proofs.lemmas.Int.{ints}
use Rattle.bag.specs.Order.{Row, row_order}
use Rattle.bag.specs.Bag.{Lines, is_zero, if_equal, copies_at, count, Canonical, Positive, every_line}
use Rattle.bag.specs.Operators.{map_rows, group_copies}
use Rattle.bag.proofs.Numbers.{zero_is}
use Rattle.bag.proofs.OperatorBags.{count_low, positive_map_rows}
use Rattle.bag.proofs.TestsAtChanges.{every_passes}

at_most_if : (n : ℤ) (b : ℕ) → le_z n (pos b) ≡ true → n ≤ℤ pos b
at_most_if n b h = omega (arith, ints)

pub count_most : (b : ℕ) (xs : Lines) → Canonical xs → every_line (λ q n. le_z n (pos b)) xs ≡ true → (q : Row) → count xs q ≤ℤ pos b
count_most b xs c h q = by (is_zero (count xs q)) refl
  where
    by : (t : Bool) → is_zero (count xs q) ≡ t → count xs q ≤ℤ pos b
    by true e = subst (λ (n : ℤ). n ≤ℤ pos b) (sym (zero_is (count xs q) e)) (omega (arith, ints))
    by false e = at_most_if (count xs q) b (every_passes (λ q n. le_z n (pos b)) xs c h q e)

pub group_copies_low : (key : Row → Row) (xs : Lines) → Positive xs → (k : Row) → pos 0 ≤ℤ group_copies key xs k
unfolding group_copies
group_copies_low key xs p k = count_low (map_rows key xs) (positive_map_rows key xs p) k

pub group_copies_most : (b : ℕ) (key : Row → Row) (xs : Lines) → every_line (λ q n. le_z n (pos b)) xs ≡ true → (k : Row) → group_copies key xs k ≤ℤ pos (b * length xs)
unfolding group_copies map_rows count every_line
group_copies_most b key [] h k = rw (mul-zero b) (omega (arith, ints))
group_copies_most b key (e ∷ xs) h k = by (le_z e.1 (pos b)) refl h (group_copies_most b key xs)
  where
    if_equal_most : (o : Ordering) (n : ℤ) → n ≤ℤ pos b → if_equal o n ≤ℤ pos b
    if_equal_most Less n h = omega (arith, ints)
    if_equal_most Equal n h = h
    if_equal_most Greater n h = omega (arith, ints)

    sums : (x y : ℤ) (m : ℕ) → x ≤ℤ pos b → y ≤ℤ pos m → (x +ℤ y) ≤ℤ pos (m + b)
    sums x y m h k = omega (arith, ints)

    by : (t : Bool) → le_z e.1 (pos b) ≡ t → cond t (every_line (λ q n. le_z n (pos b)) xs) false ≡ true → (every_line (λ q n. le_z n (pos b)) xs ≡ true → (k : Row) → group_copies key xs k ≤ℤ pos (b * length xs)) →
        (copies_at k (key e.0) e.1 +ℤ group_copies key xs k) ≤ℤ pos (b * suc (length xs))
    by true p h ih =
        rw (mul-suc b (length xs))
        (sums (copies_at k (key e.0) e.1) (group_copies key xs k) (b * length xs) (if_equal_most (row_order (key e.0) k) e.1 (at_most_if e.1 b p)) (ih h k))
    by false p h ih = let z : ⊥ = cc in absurd z
