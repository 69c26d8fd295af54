-- The changes worked out from old bags and changes lead from the old results to the new. Assumes nothing.
--     monus_moves         less, from old and new counts of both sides
--     touched             the groups of the changed rows are all that a change touches
--     change_of_aggregate_moves      the exchange of their rows, from old copies and values and the sums over the change
use Rattle.std.proofs.Common.{◌≡◌, Bool, true, false, cond, [], ◌∷◌, ◌++◌, ℤ, pos, ◌+ℤ◌, ◌-ℤ◌, ◌≤ℤ◌, Ordering, Less, Equal, Greater, sym, refl, ap, ◌∙◌, subst, ap₂, arith}
use lib.IntN.{+ℤ_idl, +ℤ_idr}
use Rattle.std.proofs.lemmas.Int.{ints}
use Rattle.bag.specs.Order.{Row, row_order}
use Rattle.bag.specs.Bag.{Line, Lines, is_zero, if_equal, count, collect, Canonical, IsBag, negated}
use Rattle.bag.specs.Group.{Group, GroupLaws, AddsUp, sum_over}
use Rattle.bag.specs.Operators.{map_rows, project, map_counts, at_least_zero, monus, one_if_any, support, group_copies, worth_if_equal, group_value, aggregate}
use Rattle.bag.specs.Changes.{Moves}
use Rattle.bag.specs.Propagation.{change_of_less, row_if_any, touched_groups, exchange_groups, change_of_aggregate}
use Rattle.bag.proofs.Numbers.{zero_is, none_if_neither}
use Rattle.bag.specs.Integers.{count_collect, count-++}
use Rattle.bag.proofs.CanonicalForm.{canonical_collect}
use Rattle.bag.proofs.RowByRow.{canonical_map_counts, count_map_counts_where_any, count_support, count_monus}
use Rattle.bag.proofs.GroupMoves.{group_value_ok, group_value_moves, group_copies_moves}
use Rattle.bag.proofs.AggregateMoves.{with_line_one, exchange, Touched, aggregate_moves}
use Rattle.bag.proofs.OperatorBags.{count_low}

pub canonical_change_of_less : (l dl r dr : Lines) → Canonical (change_of_less l dl r dr)
unfolding change_of_less
canonical_change_of_less l dl r dr = canonical_map_counts _ (collect (support dl ++ support dr)) (canonical_collect _)

pub monus_moves : (l dl l' r dr r' : Lines) → IsBag l → IsBag l' → IsBag r → IsBag r' → Canonical dl → Canonical dr → Moves l dl l' → Moves r dr r' → Moves (monus l r) (change_of_less l dl r dr) (monus l' r')
unfolding change_of_less
monus_moves l dl l' r dr r' bl bl' br br' cl cr ml mr q =
    count_monus l' r' bl'.0 (count_low r' br'.1) q
    ∙ ap₂ (λ x y. at_least_zero (x -ℤ y)) (ml q) (mr q)
    ∙ by (is_zero (one_if_any (count dl q) +ℤ one_if_any (count dr q))) refl
    ∙ sym (ap₂ (λ x y. x +ℤ y) (count_monus l r bl.0 (count_low r br.1) q) (count_map_counts_where_any _ (collect (support dl ++ support dr)) (canonical_collect _) q ∙ ap (λ n. cond (is_zero n) (pos 0) step) touch))
  where
    before : ℤ
    before = at_least_zero (count l q -ℤ count r q)

    rows_after : ℤ
    rows_after = at_least_zero ((count l q +ℤ count dl q) -ℤ (count r q +ℤ count dr q))

    step : ℤ
    step = rows_after -ℤ before

    touch : count (collect (support dl ++ support dr)) q ≡ one_if_any (count dl q) +ℤ one_if_any (count dr q)
    touch = count_collect (support dl ++ support dr) q ∙ count-++ (support dl) (support dr) q ∙ ap₂ (λ x y. x +ℤ y) (count_support dl cl q) (count_support dr cr q)

    rejoin : (x y : ℤ) → x ≡ y +ℤ (x -ℤ y)
    rejoin x y = omega (arith, ints)

    by : (t : Bool) → is_zero (one_if_any (count dl q) +ℤ one_if_any (count dr q)) ≡ t → rows_after ≡ before +ℤ cond t (pos 0) step
    by true e =
        let z = none_if_neither (count dl q) (count dr q) e in
        ap₂ (λ x y. at_least_zero ((count l q +ℤ x) -ℤ (count r q +ℤ y))) z.0 z.1 ∙ ap₂ (λ x y. at_least_zero (x -ℤ y)) (+ℤ_idr (count l q)) (+ℤ_idr (count r q)) ∙ sym (+ℤ_idr before)
    by false e = rejoin rows_after before

-- every number is not 0
abbrev NoZeros : Lines → Type 0
NoZeros [] = Unit {0}
NoZeros (e ∷ xs) = (is_zero e.1 ≡ false) × NoZeros xs

no_zeros : (xs : Lines) → Canonical xs → NoZeros xs
no_zeros [] c = tt
no_zeros (e ∷ xs) c = (c.0, no_zeros xs c.2)

module _ (key : Row → Row) (k : Row) where
  -- how many changed rows belong to the group k
  abbrev changed_rows : Lines → ℤ
  changed_rows xs = count (map_rows key (support xs)) k

  changed_rows_more : (e : Line) (xs : Lines) → is_zero e.1 ≡ false → changed_rows (e ∷ xs) ≡ if_equal (row_order (key e.0) k) (pos 1) +ℤ changed_rows xs
  unfolding count map_rows support map_counts
  changed_rows_more e xs h = ap (λ t. count (map_rows key t) k) (with_line_one e.0 e.1 (map_counts (λ q n. one_if_any n) xs) h)

  if_equal_low : (o : Ordering) → pos 0 ≤ℤ if_equal o (pos 1)
  if_equal_low Less = omega (arith, ints)
  if_equal_low Equal = omega (arith, ints)
  if_equal_low Greater = omega (arith, ints)

  changed_rows_low : (xs : Lines) → NoZeros xs → pos 0 ≤ℤ changed_rows xs
  unfolding count map_rows support map_counts
  changed_rows_low [] z = omega (arith, ints)
  changed_rows_low (e ∷ xs) z = subst (λ (n : ℤ). pos 0 ≤ℤ n) (sym (changed_rows_more e xs z.0)) (sums (if_equal (row_order (key e.0) k) (pos 1)) (changed_rows xs) (if_equal_low _) (changed_rows_low xs z.1))
    where
      sums : (a b : ℤ) → pos 0 ≤ℤ a → pos 0 ≤ℤ b → pos 0 ≤ℤ (a +ℤ b)
      sums a b h i = omega (arith, ints)

  module _ {V : Type 0} {ok : V → Type 0} (G : Group V) (L : GroupLaws ok G) (worth : Row → ℤ → V) (C : AddsUp ok G worth) where
    untouched : (xs : Lines) → NoZeros xs → changed_rows xs ≡ pos 0 → (group_copies key xs k ≡ pos 0) × (group_value G key worth xs k ≡ G.zero)
    unfolding group_copies group_value sum_over count map_rows
    untouched [] z h = (refl, refl)
    untouched (e ∷ xs) z h = by (row_order (key e.0) k) (sym (changed_rows_more e xs z.0) ∙ h) (changed_rows_low xs z.1) (untouched xs z.1)
      where
        by : (o : Ordering) → if_equal o (pos 1) +ℤ changed_rows xs ≡ pos 0 → pos 0 ≤ℤ changed_rows xs → (changed_rows xs ≡ pos 0 → (group_copies key xs k ≡ pos 0) × (group_value G key worth xs k ≡ G.zero)) →
            (if_equal o e.1 +ℤ group_copies key xs k ≡ pos 0) × (G.plus (worth_if_equal G o (worth e.0 e.1)) (group_value G key worth xs k) ≡ G.zero)
        by Less p low ih = let i = ih (sym (+ℤ_idl (changed_rows xs)) ∙ p) in (+ℤ_idl (group_copies key xs k) ∙ i.0, L.neutral (group_value G key worth xs k) (group_value_ok G L key worth C xs k) ∙ i.1)
        by Equal p low ih = let z : ⊥ = never (changed_rows xs) p low in absurd z
          where
            never : (n : ℤ) → pos 1 +ℤ n ≡ pos 0 → pos 0 ≤ℤ n → ⊥
            never n p low = omega (arith, ints)
        by Greater p low ih = let i = ih (sym (+ℤ_idl (changed_rows xs)) ∙ p) in (+ℤ_idl (group_copies key xs k) ∙ i.0, L.neutral (group_value G key worth xs k) (group_value_ok G L key worth C xs k) ∙ i.1)

module _ {V : Type 0} {ok : V → Type 0} (G : Group V) (L : GroupLaws ok G) (key : Row → Row) (worth : Row → ℤ → V) (C : AddsUp ok G worth) (row-for : Row → ℤ → V → Row) where
  pub touched : (d : Lines) → Canonical d → Touched G L key worth C row-for d (project key (support d))
  unfolding project
  touched d c = record { in_order = canonical_collect _; no_copies = λ k h. (copies_at k h).0; no_value = λ k h. (copies_at k h).1 }
    where
      copies_at : (k : Row) → is_zero (count (collect (map_rows key (support d))) k) ≡ true → (group_copies key d k ≡ pos 0) × (group_value G key worth d k ≡ G.zero)
      copies_at k h = untouched key k G L worth C d (no_zeros d c) (sym (count_collect (map_rows key (support d)) k) ∙ zero_is _ h)

  abbrev old_group : Lines → Row → ℤ × V
  old_group xs k = (group_copies key xs k, group_value G key worth xs k)

  exchange_is : (old d new t : Lines) → Moves old d new → exchange_groups G key worth row-for (old_group old) d t ≡ exchange G L key worth C row-for old new t
  unfolding exchange_groups exchange
  exchange_is old d new [] m = refl
  exchange_is old d new (e ∷ t) m =
      ap₂ (λ (c : ℤ × V) rest. (negated (row_if_any (group_copies key old e.0) (row-for e.0 (group_copies key old e.0) (group_value G key worth old e.0))) ++ row_if_any c.0 (row-for e.0 c.0 c.1)) ++ rest)
      (ap₂ {C = ℤ × V} (λ a b. (a, b)) (sym (group_copies_moves G L key worth C old d new m e.0)) (sym (group_value_moves G L key worth C old d new m e.0)))
      (exchange_is old d new t m)

  pub canonical_change_of_aggregate : (group : Row → ℤ × V) (d : Lines) → Canonical (change_of_aggregate G key worth row-for group d)
  unfolding change_of_aggregate
  canonical_change_of_aggregate group d = canonical_collect _

  pub change_of_aggregate_moves : (old d new : Lines) → Canonical d → Moves old d new → Moves (aggregate G key worth row-for old) (change_of_aggregate G key worth row-for (old_group old) d) (aggregate G key worth row-for new)
  unfolding change_of_aggregate
  change_of_aggregate_moves old d new c m q =
      aggregate_moves G L key worth C row-for old d new (touched_groups key d) m (touched d c) q
      ∙ ap (λ n. count (aggregate G key worth row-for old) q +ℤ n)
      (sym (count_collect (exchange_groups G key worth row-for (old_group old) d (touched_groups key d)) q ∙ ap (λ t. count t q) (exchange_is old d new (touched_groups key d) m)))
