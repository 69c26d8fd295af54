-- Each operator makes a bag of bags. Assumes nothing.
--     count_low           no count of a bag is negative
--     bag_collect, bag_project, bag_join, bag_both, bag_monus, bag_aggregate, bag_select      the results are bags
--     canonical_select    a keep of a change is in order
--     positive_map_counts      numbers rewritten to ones that are not negative
use Rattle.std.proofs.Common.{◌≡◌, zero, suc, Bool, true, false, cond, [], ◌∷◌, ◌++◌, ℤ, pos, negsuc, ◌+ℤ◌, ◌-ℤ◌, ◌*ℤ◌, ◌≤ℤ◌, Ordering, Less, Equal, Greater, refl, arith}
use Rattle.std.proofs.lemmas.Int.{ints}
use Rattle.bag.specs.Order.{Row, row_order}
use Rattle.bag.specs.Bag.{Line, Lines, is_positive, if_equal, count, with_line, add_by, add_copies, collect, Before, Canonical, Positive, IsBag}
use Rattle.bag.specs.Group.{Group}
use Rattle.bag.specs.Operators.{select, map_rows, project, matches, products, join, both, map_counts, at_least_zero, monus, map_groups, aggregate}
use Rattle.bag.proofs.Numbers.{positive_above, positive_sum, positive_times, low_at_least_zero}
use Rattle.bag.proofs.CanonicalForm.{before_transitive, canonical_collect}
use Rattle.bag.proofs.RowByRow.{canonical_map_counts}

-- counts of a bag
if_equal_low : (o : Ordering) (n : ℤ) → pos 0 ≤ℤ n → pos 0 ≤ℤ if_equal o n
if_equal_low Less n h = omega (arith, ints)
if_equal_low Equal n h = h
if_equal_low Greater n h = omega (arith, ints)

pub count_low : (xs : Lines) → Positive xs → (q : Row) → pos 0 ≤ℤ count xs q
unfolding count
count_low [] p q = omega (arith, ints)
count_low (e ∷ xs) p q = sums (if_equal (row_order e.0 q) e.1) (count xs q) (if_equal_low (row_order e.0 q) e.1 (let k = positive_above e.1 p.0 in omega (arith, ints))) (count_low xs p.1 q)
  where
    sums : (a b : ℤ) → pos 0 ≤ℤ a → pos 0 ≤ℤ b → pos 0 ≤ℤ (a +ℤ b)
    sums a b h k = omega (arith, ints)

positive_with_line : (r : Row) (n : ℤ) (xs : Lines) → is_positive n ≡ true → Positive xs → Positive (with_line r n xs)
positive_with_line r (pos zero) xs h p = p
positive_with_line r (pos (suc n)) xs h p = (h, p)
positive_with_line r (negsuc n) xs h p = (h, p)

pub positive_add_copies : (r : Row) (n : ℤ) (xs : Lines) → is_positive n ≡ true → Positive xs → Positive (add_copies r n xs)
unfolding add_copies
positive_add_copies r n [] h p = positive_with_line r n [] h tt
positive_add_copies r n (e ∷ xs) h p = by (row_order r e.0) (positive_add_copies r n xs h p.1)
  where
    by : (o : Ordering) → Positive (add_copies r n xs) → Positive (add_by o r n e xs (add_copies r n xs))
    by Less ih = positive_with_line r n (e ∷ xs) h p
    by Equal ih = positive_with_line e.0 (n +ℤ e.1) xs (positive_sum n e.1 h p.0) p.1
    by Greater ih = (p.0, ih)

positive_collect : (xs : Lines) → Positive xs → Positive (collect xs)
unfolding collect
positive_collect [] p = tt
positive_collect (e ∷ xs) p = positive_add_copies e.0 e.1 (collect xs) p.0 (positive_collect xs p.1)

positive-++ : (xs ys : Lines) → Positive xs → Positive ys → Positive (xs ++ ys)
positive-++ [] ys p q = q
positive-++ (e ∷ xs) ys p q = (p.0, positive-++ xs ys p.1 q)

bag_collect : (xs : Lines) → Positive xs → IsBag (collect xs)
bag_collect xs p = (canonical_collect xs, positive_collect xs p)

pub positive_map_rows : (g : Row → Row) (xs : Lines) → Positive xs → Positive (map_rows g xs)
unfolding map_rows
positive_map_rows g [] p = tt
positive_map_rows g (e ∷ xs) p = (p.0, positive_map_rows g xs p.1)

pub bag_project : (g : Row → Row) (xs : Lines) → IsBag xs → IsBag (project g xs)
unfolding project
bag_project g xs b = bag_collect (map_rows g xs) (positive_map_rows g xs b.1)

pub bag_both : (l r : Lines) → IsBag l → IsBag r → IsBag (both l r)
unfolding both
bag_both l r b c = bag_collect (l ++ r) (positive-++ l r b.1 c.1)

positive_matches : (on : Row → Row → Bool) (combine : Row → Row → Row) (e : Line) (r : Lines) → is_positive e.1 ≡ true → Positive r → Positive (matches on combine e r)
unfolding matches
positive_matches on combine e [] h p = tt
positive_matches on combine e (d ∷ r) h p = by (on e.0 d.0) (positive_matches on combine e r h p.1)
  where
    by : (t : Bool) → Positive (matches on combine e r) → Positive (cond t ((combine e.0 d.0, e.1 *ℤ d.1) ∷ matches on combine e r) (matches on combine e r))
    by true ih = (positive_times e.1 d.1 h p.0, ih)
    by false ih = ih

positive_products : (on : Row → Row → Bool) (combine : Row → Row → Row) (l r : Lines) → Positive l → Positive r → Positive (products on combine l r)
unfolding products
positive_products on combine [] r p q = tt
positive_products on combine (e ∷ l) r p q = positive-++ (matches on combine e r) (products on combine l r) (positive_matches on combine e r p.0 q) (positive_products on combine l r p.1 q)

pub bag_join : (on : Row → Row → Bool) (combine : Row → Row → Row) (l r : Lines) → IsBag l → IsBag r → IsBag (join on combine l r)
unfolding join
bag_join on combine l r b c = bag_collect (products on combine l r) (positive_products on combine l r b.1 c.1)

positive_with_line_low : (r : Row) (n : ℤ) (xs : Lines) → pos 0 ≤ℤ n → Positive xs → Positive (with_line r n xs)
positive_with_line_low r (pos zero) xs h p = p
positive_with_line_low r (pos (suc n)) xs h p = (refl, p)
positive_with_line_low r (negsuc n) xs h p = let z : ⊥ = omega (arith, ints) in absurd z

-- numbers rewritten to ones that are not negative
pub positive_map_counts : (h : Row → ℤ → ℤ) → ((q : Row) (n : ℤ) → pos 0 ≤ℤ h q n) → (xs : Lines) → Positive (map_counts h xs)
unfolding map_counts
positive_map_counts h low [] = tt
positive_map_counts h low (e ∷ xs) = positive_with_line_low e.0 (h e.0 e.1) (map_counts h xs) (low e.0 e.1) (positive_map_counts h low xs)

pub bag_monus : (l r : Lines) → IsBag l → IsBag (monus l r)
unfolding monus
bag_monus l r b = (canonical_map_counts (λ q n. at_least_zero (n -ℤ count r q)) l b.0, positive_map_counts (λ q n. at_least_zero (n -ℤ count r q)) (λ q n. low_at_least_zero (n -ℤ count r q)) l)

positive_map_groups : (row : Row → ℤ → Row) (gs : Lines) → Positive (map_groups row gs)
unfolding map_groups
positive_map_groups row [] = tt
positive_map_groups row (e ∷ gs) = (refl, positive_map_groups row gs)

pub bag_aggregate : {V : Type 0} (G : Group V) (key : Row → Row) (worth : Row → ℤ → V) (row-for : Row → ℤ → V → Row) (xs : Lines) → IsBag (aggregate G key worth row-for xs)
unfolding aggregate
bag_aggregate G key worth row-for xs = bag_collect _ (positive_map_groups _ (project key xs))

-- keep
before_select : (p : Row → Bool) (a : Row) (xs : Lines) → Before a xs → Canonical xs → Before a (select p xs)
unfolding select
before_select p a [] b c = tt
before_select p a (e ∷ xs) b c = by (p e.0) (before_select p a xs (before_transitive a e.0 xs b c.1) c.2)
  where
    by : (t : Bool) → Before a (select p xs) → Before a (cond t (e ∷ select p xs) (select p xs))
    by true ih = b
    by false ih = ih

pub canonical_select : (p : Row → Bool) (xs : Lines) → Canonical xs → Canonical (select p xs)
unfolding select
canonical_select p [] c = tt
canonical_select p (e ∷ xs) c = by (p e.0) (canonical_select p xs c.2)
  where
    by : (t : Bool) → Canonical (select p xs) → Canonical (cond t (e ∷ select p xs) (select p xs))
    by true ih = (c.0, before_select p e.0 xs c.1 c.2, ih)
    by false ih = ih

positive_select : (p : Row → Bool) (xs : Lines) → Positive xs → Positive (select p xs)
unfolding select
positive_select p [] c = tt
positive_select p (e ∷ xs) c = by (p e.0) (positive_select p xs c.1)
  where
    by : (t : Bool) → Positive (select p xs) → Positive (cond t (e ∷ select p xs) (select p xs))
    by true ih = (c.0, ih)
    by false ih = ih

pub bag_select : (p : Row → Bool) (xs : Lines) → IsBag xs → IsBag (select p xs)
bag_select p xs b = (canonical_select p xs b.0, positive_select p xs b.1)
