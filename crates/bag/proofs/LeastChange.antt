-- The difference of two bags is the least change that leads from one to the other, and back again. Assumes nothing.
--     bag_takes, bag_puts, puts_less_takes      the two halves of a change
--     difference_is_least, difference_is_the_least_change      every rival takes and puts at least as many copies
--     changes_applied                           what a change is applied to
--     changes_back, change_leads_back           the way back
use Rattle.std.proofs.Common.{◌≡◌, ◌⊎◌, ℤ, pos, negsuc, ◌+ℤ◌, ◌-ℤ◌, ◌≤ℤ◌, sym, refl, ◌∙◌, subst, ap₂, inl, inr, arith}
use Rattle.std.proofs.lemmas.Int.{ints}
use Rattle.bag.specs.Order.{Row}
use Rattle.bag.specs.Bag.{Lines, count, Canonical, IsBag, negated, difference, applied}
use Rattle.bag.specs.Operators.{at_least_zero}
use Rattle.bag.specs.Changes.{Changes, taken, takes, puts, Rival, IsLeast}
use Rattle.bag.specs.Laws.{DifferenceIsTheLeastChange, ChangeLeadsBack}
use Rattle.bag.proofs.Numbers.{low_at_least_zero, low_taken}
use Rattle.bag.proofs.Moves.{moves_applied, difference_moves, canonical_difference, difference_only, canonical_negated, negated_moves}
use Rattle.bag.proofs.RowByRow.{canonical_map_counts, count_takes, count_puts}
use Rattle.bag.proofs.OperatorBags.{count_low, positive_map_counts}

-- at one row: a is the old count, b the new one, t is taken and p put
record At (a b t p : ℤ) : Type 0 where
  take_low : pos 0 ≤ℤ t
  put_low : pos 0 ≤ℤ p
  within : t ≤ℤ a
  to : b ≡ (a -ℤ t) +ℤ p

parts : (a b d : ℤ) → pos 0 ≤ℤ a → pos 0 ≤ℤ b → b ≡ a +ℤ d → At a b (taken d) (at_least_zero d)
parts a b (pos n) ha hb e = record { take_low = omega (arith, ints); put_low = omega (arith, ints); within = ha; to = omega (arith, ints) }
parts a b (negsuc n) ha hb e = record { take_low = omega (arith, ints); put_low = omega (arith, ints); within = omega (arith, ints); to = omega (arith, ints) }

apart_at : (d : ℤ) → (taken d ≡ pos 0) ⊎ (at_least_zero d ≡ pos 0)
apart_at (pos n) = inl refl
apart_at (negsuc n) = inr refl

least_at : (a b d t p : ℤ) → b ≡ a +ℤ d → At a b t p → (taken d ≤ℤ t) × (at_least_zero d ≤ℤ p)
least_at a b (pos n) t p e h = (h.take_low, omega (arith, ints, h.take_low, h.to))
least_at a b (negsuc n) t p e h = (omega (arith, ints, h.put_low, h.to), h.put_low)

pub bag_takes : (d : Lines) → Canonical d → IsBag (takes d)
unfolding takes
bag_takes d c = (canonical_map_counts (λ q n. taken n) d c, positive_map_counts (λ q n. taken n) (λ q n. low_taken n) d)

pub bag_puts : (d : Lines) → Canonical d → IsBag (puts d)
unfolding puts
bag_puts d c = (canonical_map_counts (λ q n. at_least_zero n) d c, positive_map_counts (λ q n. at_least_zero n) (λ q n. low_at_least_zero n) d)

pub puts_less_takes : (d : Lines) → Canonical d → (q : Row) → count d q ≡ count (puts d) q -ℤ count (takes d) q
puts_less_takes d c q = halves (count d q) ∙ sym (ap₂ (λ x y. x -ℤ y) (count_puts d c q) (count_takes d c q))
  where
    halves : (n : ℤ) → n ≡ at_least_zero n -ℤ taken n
    halves (pos n) = omega (arith, ints)
    halves (negsuc n) = omega (arith, ints)

pub difference_is_least : (old new : Lines) → IsBag old → IsBag new → IsLeast old (takes (difference old new)) (puts (difference old new)) new
difference_is_least old new bo bn = record {
  change = record {
    leads = record {
      take_bag = bag_takes (difference old new) (canonical_difference old new);
      put_bag = bag_puts (difference old new) (canonical_difference old new);
      within_old = λ q. subst (λ (z : ℤ). z ≤ℤ count old q) (sym (tk q)) (here q).within;
      to_new = λ q. (here q).to ∙ sym (ap₂ (λ x y. (count old q -ℤ x) +ℤ y) (tk q) (pt q));
    };
    apart = λ q. rw (tk q, pt q) (apart_at (count (difference old new) q));
  };
  take_least = λ t p l q. subst (λ (z : ℤ). z ≤ℤ count t q) (sym (tk q)) (best t p l q).0;
  put_least = λ t p l q. subst (λ (z : ℤ). z ≤ℤ count p q) (sym (pt q)) (best t p l q).1;
}
  where
    tk : (q : Row) → count (takes (difference old new)) q ≡ taken (count (difference old new) q)
    tk q = count_takes (difference old new) (canonical_difference old new) q

    pt : (q : Row) → count (puts (difference old new)) q ≡ at_least_zero (count (difference old new) q)
    pt q = count_puts (difference old new) (canonical_difference old new) q

    here : (q : Row) → At (count old q) (count new q) (taken (count (difference old new) q)) (at_least_zero (count (difference old new) q))
    here q = parts (count old q) (count new q) (count (difference old new) q) (count_low old bo.1 q) (count_low new bn.1 q) (difference_moves old new q)

    best : (t p : Lines) → Rival old t p new → (q : Row) → (taken (count (difference old new) q) ≤ℤ count t q) × (at_least_zero (count (difference old new) q) ≤ℤ count p q)
    best t p l q =
        least_at (count old q) (count new q) (count (difference old new) q) (count t q) (count p q) (difference_moves old new q)
        (record { take_low = count_low t l.take_bag.1 q; put_low = count_low p l.put_bag.1 q; within = l.within_old q; to = l.to_new q })

pub difference_changes : (old new : Lines) → IsBag old → IsBag new → Changes old (difference old new) new
difference_changes old new bo bn = record { old_bag = bo; new_bag = bn; in_order = canonical_difference old new; moves = difference_moves old new }

pub changes_applied : (old d new : Lines) → Changes old d new → applied old d ≡ new
changes_applied old d new h = sym (moves_applied old d new h.new_bag.0 h.moves)

pub difference_is_the_least_change : DifferenceIsTheLeastChange
difference_is_the_least_change old new bo bn = record {
  changes = difference_changes old new bo bn;
  arrives = changes_applied old (difference old new) new (difference_changes old new bo bn);
  puts_less_takes = puts_less_takes (difference old new) (canonical_difference old new);
  least = difference_is_least old new bo bn;
  only = λ d h. difference_only old d new h.in_order h.moves;
}

pub changes_back : (old d new : Lines) → Changes old d new → Changes new (negated d) old
changes_back old d new h = record { old_bag = h.new_bag; new_bag = h.old_bag; in_order = canonical_negated d h.in_order; moves = negated_moves old d new h.moves }

pub change_leads_back : ChangeLeadsBack
change_leads_back old d new h = record {
  changes = changes_back old d new h;
  arrives = changes_applied new (negated d) old (changes_back old d new h);
  turned = difference_only new (negated (difference old new)) old (canonical_negated _ (canonical_difference old new)) (negated_moves old (difference old new) new (difference_moves old new));
}
