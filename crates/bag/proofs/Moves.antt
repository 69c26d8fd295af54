-- How sums, and the linear operators, move when the bags below them move. Assumes nothing.
--     difference_moves, difference_only      the difference leads from old to new, and no other canonical list does
--     collect_equal_counts, collect_canonical      collecting by counts, and a canonical list
--     applied_moves, moves_applied           so does what a change is applied to
--     sum_moves                              the sum over the new bag is the sum over the old plus the sum over the change: the one law of change
--     count_project, project_copies, count_kept, count_both      the counts of linear operators
--     map_rows_moves, project_moves, select_moves, both_moves      its instances that are linear operators
--     negated_moves                          the way back
use Rattle.std.proofs.Common.{◌≡◌, ℕ, Bool, true, false, cond, not, [], ◌∷◌, ◌++◌, ℤ, pos, ◌+ℤ◌, Ordering, Less, Equal, Greater, sym, refl, ap, ◌∙◌, ap₂, arith}
use lib.IntN.{+ℤ_idl}
use Rattle.std.proofs.lemmas.Int.{ints}
use Rattle.bag.specs.Order.{Row, row_order}
use Rattle.bag.specs.Bag.{Line, Lines, if_equal, copies_at, count, collect, Before, Canonical, negated, difference, applied}
use Rattle.bag.specs.Group.{Group, GroupLaws, AddsUp, sum_over, every_integer, integers}
use Rattle.bag.specs.Operators.{select, map_rows, project, both, group_copies}
use Rattle.bag.specs.Changes.{Moves}
use Rattle.bag.proofs.Numbers.{not_zero_negated}
use Rattle.bag.specs.RowOrder.{order_equal}
use Rattle.bag.specs.Sums.{sum_collect, sum-++}
use Rattle.bag.specs.Integers.{integer_laws, copies_at_adds_up, count_is_sum, count_collect, count-++, count_negated}
use Rattle.bag.proofs.CanonicalForm.{canonical_collect, equal_counts}

pub collect_equal_counts : (xs ys : Lines) → ((q : Row) → count xs q ≡ count ys q) → collect xs ≡ collect ys
collect_equal_counts xs ys h = equal_counts (collect xs) (collect ys) (canonical_collect xs) (canonical_collect ys) (λ q. count_collect xs q ∙ h q ∙ sym (count_collect ys q))

pub collect_canonical : (xs : Lines) → Canonical xs → collect xs ≡ xs
collect_canonical xs c = equal_counts (collect xs) xs (canonical_collect xs) c (count_collect xs)

pub moves_applied : (old d new : Lines) → Canonical new → Moves old d new → new ≡ applied old d
unfolding applied
moves_applied old d new c m = equal_counts new (collect (old ++ d)) c (canonical_collect (old ++ d)) (λ q. m q ∙ sym (count_collect (old ++ d) q ∙ count-++ old d q))

pub applied_moves : (old d : Lines) → Moves old d (applied old d)
unfolding applied
applied_moves old d q = count_collect (old ++ d) q ∙ count-++ old d q

pub difference_moves : (old new : Lines) → Moves old (difference old new) new
unfolding difference
difference_moves old new q = let a = count_collect (new ++ negated old) q in let b = count-++ new (negated old) q in let c = count_negated old q in omega (arith, ints)

pub canonical_difference : (old new : Lines) → Canonical (difference old new)
unfolding difference
canonical_difference old new = canonical_collect _

-- there is one canonical change
pub difference_only : (old d new : Lines) → Canonical d → Moves old d new → d ≡ difference old new
unfolding difference
difference_only old d new c m = equal_counts d (collect (new ++ negated old)) c (canonical_collect (new ++ negated old)) (λ q. let a = m q in let b = difference_moves old new q in omega (arith, ints))

module _ {V : Type 0} {ok : V → Type 0} (G : Group V) (L : GroupLaws ok G) (f : Row → ℤ → V) (C : AddsUp ok G f) where
  pub sum_equal_counts : (xs ys : Lines) → ((q : Row) → count xs q ≡ count ys q) → sum_over G f xs ≡ sum_over G f ys
  sum_equal_counts xs ys h = sym (sum_collect G L f C xs) ∙ ap (sum_over G f) (collect_equal_counts xs ys h) ∙ sum_collect G L f C ys

  pub sum_moves : (old d new : Lines) → Moves old d new → sum_over G f new ≡ G.plus (sum_over G f old) (sum_over G f d)
  sum_moves old d new m = sum_equal_counts new (old ++ d) (λ q. m q ∙ sym (count-++ old d q)) ∙ sum-++ G L f C old d

-- pick
sum_map_rows : {V : Type 0} (G : Group V) (f : Row → ℤ → V) (g : Row → Row) (xs : Lines) → sum_over G f (map_rows g xs) ≡ sum_over G (λ r n. f (g r) n) xs
unfolding sum_over map_rows
sum_map_rows G f g [] = refl
sum_map_rows G f g (e ∷ xs) = ap (G.plus (f (g e.0) e.1)) (sum_map_rows G f g xs)

pub map_rows_adds_up : (g : Row → Row) (q : Row) → AddsUp every_integer integers (λ r n. copies_at q (g r) n)
map_rows_adds_up g q = record { ok_worth = λ a n. tt; at_zero = λ r. (copies_at_adds_up q).at_zero (g r); adds = λ r. (copies_at_adds_up q).adds (g r) }

pub count_map_rows : (g : Row → Row) (xs : Lines) (q : Row) → count (map_rows g xs) q ≡ sum_over integers (λ r n. copies_at q (g r) n) xs
count_map_rows g xs q = count_is_sum q (map_rows g xs) ∙ sum_map_rows integers (copies_at q) g xs

pub map_rows_moves : (g : Row → Row) (old d new : Lines) → Moves old d new → Moves (map_rows g old) (map_rows g d) (map_rows g new)
map_rows_moves g old d new m q =
    count_map_rows g new q ∙ sum_moves integers integer_laws (λ r n. copies_at q (g r) n) (map_rows_adds_up g q) old d new m
    ∙ sym (ap₂ (λ a b. a +ℤ b) (count_map_rows g old q) (count_map_rows g d q))

pub collect_moves : (old d new : Lines) → Moves old d new → Moves (collect old) (collect d) (collect new)
collect_moves old d new m q = count_collect new q ∙ m q ∙ sym (ap₂ (λ a b. a +ℤ b) (count_collect old q) (count_collect d q))

pub count_project : (g : Row → Row) (xs : Lines) (q : Row) → count (project g xs) q ≡ sum_over integers (λ r n. copies_at q (g r) n) xs
unfolding project
count_project g xs q = count_collect (map_rows g xs) q ∙ count_map_rows g xs q

pub canonical_project : (g : Row → Row) (xs : Lines) → Canonical (project g xs)
unfolding project
canonical_project g xs = canonical_collect (map_rows g xs)

pub project_copies : (key : Row → Row) (xs : Lines) (k : Row) → count (project key xs) k ≡ group_copies key xs k
unfolding project group_copies
project_copies key xs k = count_collect (map_rows key xs) k

pub project_moves : (g : Row → Row) (old d new : Lines) → Moves old d new → Moves (project g old) (project g d) (project g new)
unfolding project
project_moves g old d new m = collect_moves (map_rows g old) (map_rows g d) (map_rows g new) (map_rows_moves g old d new m)

-- keep: a row counts as before if it passes, and not at all if it does not
module _ (p : Row → Bool) (q : Row) where
  other_row : (e : Line) → p e.0 ≡ not (p q) → copies_at q e.0 e.1 ≡ pos 0
  other_row e h = by (row_order e.0 q) refl
    where
      apart : (t : Bool) → t ≡ not t → ⊥
      apart true h = let z : ◌≡◌ {A = ℕ} 0 1 = cc in omega arith
      apart false h = let z : ◌≡◌ {A = ℕ} 0 1 = cc in omega arith

      by : (o : Ordering) → row_order e.0 q ≡ o → if_equal o e.1 ≡ pos 0
      by Less r = refl
      by Equal r = absurd (apart (p q) (sym (ap p (order_equal e.0 q r)) ∙ h))
      by Greater r = refl

  select_passes : p q ≡ true → (xs : Lines) → count (select p xs) q ≡ count xs q
  unfolding count select
  select_passes t [] = refl
  select_passes t (e ∷ xs) = by (p e.0) refl (select_passes t xs)
    where
      by : (b : Bool) → p e.0 ≡ b → count (select p xs) q ≡ count xs q → count (cond b (e ∷ select p xs) (select p xs)) q ≡ copies_at q e.0 e.1 +ℤ count xs q
      by true r ih = ap (λ k. copies_at q e.0 e.1 +ℤ k) ih
      by false r ih = ih ∙ sym (ap (λ k. k +ℤ count xs q) (other_row e (r ∙ ap not (sym t))) ∙ +ℤ_idl (count xs q))

  select_fails : p q ≡ false → (xs : Lines) → count (select p xs) q ≡ pos 0
  unfolding count select
  select_fails t [] = refl
  select_fails t (e ∷ xs) = by (p e.0) refl (select_fails t xs)
    where
      by : (b : Bool) → p e.0 ≡ b → count (select p xs) q ≡ pos 0 → count (cond b (e ∷ select p xs) (select p xs)) q ≡ pos 0
      by true r ih = ap₂ (λ a b. a +ℤ b) (other_row e (r ∙ ap not (sym t))) ih
      by false r ih = ih

  pub count_kept : (xs : Lines) → count (select p xs) q ≡ cond (p q) (count xs q) (pos 0)
  count_kept xs = by (p q) refl
    where
      by : (b : Bool) → p q ≡ b → count (select p xs) q ≡ cond b (count xs q) (pos 0)
      by true t = select_passes t xs
      by false t = select_fails t xs

pub select_moves : (p : Row → Bool) (old d new : Lines) → Moves old d new → Moves (select p old) (select p d) (select p new)
select_moves p old d new m q = count_kept p q new ∙ by (p q) ∙ sym (ap₂ (λ a b. a +ℤ b) (count_kept p q old) (count_kept p q d))
  where
    by : (b : Bool) → cond b (count new q) (pos 0) ≡ cond b (count old q) (pos 0) +ℤ cond b (count d q) (pos 0)
    by true = m q
    by false = refl

-- both
pub count_both : (l r : Lines) (q : Row) → count (both l r) q ≡ count l q +ℤ count r q
unfolding both
count_both l r q = count_collect (l ++ r) q ∙ count-++ l r q

pub both_moves : (l dl l' r dr r' : Lines) → Moves l dl l' → Moves r dr r' → Moves (both l r) (both dl dr) (both l' r')
both_moves l dl l' r dr r' ml mr q =
    let a = count_both l r q in
    let b = count_both dl dr q in
    let c = count_both l' r' q in
    let x = ml q in
    let y = mr q in
    omega (arith, ints)

-- the way back
before_negated : (a : Row) (xs : Lines) → Before a xs → Before a (negated xs)
unfolding negated
before_negated a [] b = tt
before_negated a (e ∷ xs) b = b

pub canonical_negated : (xs : Lines) → Canonical xs → Canonical (negated xs)
unfolding negated
canonical_negated [] c = tt
canonical_negated (e ∷ xs) c = (not_zero_negated e.1 c.0, before_negated e.0 xs c.1, canonical_negated xs c.2)

pub negated_moves : (old d new : Lines) → Moves old d new → Moves new (negated d) old
negated_moves old d new m q = let a = m q in let b = count_negated d q in omega (arith, ints)
