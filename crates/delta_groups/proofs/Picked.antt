-- The images of a change's lines added up are its pick. Assumes nothing.
--     picked           without those that come to 0
--     small_change     the numbers of a change between bags of small counts are small
use Rattle.std.proofs.Common.{◌≡◌, ℕ, ◌≤◌, [], ◌∷◌, ℤ, pos, ◌+ℤ◌, nat_abs, ◌≤ℤ◌, Ordering, Less, Equal, Greater, sym, refl, ap, ◌∙◌, subst, arith}
use lib.IntN.{+ℤ_idl}
use Rattle.std.proofs.lemmas.Int.{ints}
use Rattle.bag.specs.Order.{Row, row_order}
use Rattle.bag.specs.Bag.{Lines, if_equal, count, Before, Canonical}
use Rattle.bag.specs.Operators.{map_rows, project, group_copies}
use Rattle.bag.specs.RowOrder.{order_equal}
use Rattle.bag.proofs.CanonicalForm.{count_before, count_head, equal_counts}
use Rattle.bag.proofs.Moves.{canonical_project, project_copies}
use Rattle.bag.proofs.OperatorBags.{count_low}
use Rattle.bag.proofs.Bounds.{count_most}
use Rattle.stock.specs.Holding.{Holding, LawfulHolding, shelf_of, copies}
use Rattle.stock.proofs.Accepted.{count_is_copies}
use Rattle.delta.specs.NodeChange.{LowerNode}
use Rattle.delta.specs.Writing.{without_zeros}
use Rattle.delta_groups.specs.Nets.{gathered, SmallLines}
use Rattle.delta_groups.proofs.Gathered.{ascends_gathered, count_gathered, canonical_without, count_without}

pub picked : (g : Row → Row) (d : Lines) → without_zeros (gathered (map_rows g d)) ≡ project g d
unfolding count group_copies
picked g d = equal_counts _ _ (canonical_without (gathered (map_rows g d)) (ascends_gathered [] (map_rows g d) tt)) (canonical_project g d) (λ q.
    count_without (gathered (map_rows g d)) q ∙ count_gathered [] (map_rows g d) q ∙ +ℤ_idl (count (map_rows g d) q) ∙ sym (project_copies g d q))

small_counts : (xs : Lines) → Canonical xs → ((q : Row) → nat_abs (count xs q) ≤ 65535) → SmallLines xs
unfolding count
small_counts [] c h = tt
small_counts (e ∷ xs) c h = (subst (λ (z : ℤ). nat_abs z ≤ 65535) (count_head e xs c) (h e.0), small_counts xs c.2 (λ q. by q (row_order e.0 q) refl (h q)))
  where
    by : (q : Row) (o : Ordering) → row_order e.0 q ≡ o → nat_abs (if_equal (row_order e.0 q) e.1 +ℤ count xs q) ≤ 65535 → nat_abs (count xs q) ≤ 65535
    by q Less p l = subst (λ (z : ℤ). nat_abs z ≤ 65535) (ap (λ o. if_equal o e.1 +ℤ count xs q) p ∙ +ℤ_idl (count xs q)) l
    by q Equal p l = subst (λ (z : ℤ). nat_abs z ≤ 65535) (sym (count_before q xs c.2 (subst (λ (a : Row). Before a xs) (order_equal e.0 q p) c.1))) (omega arith)
    by q Greater p l = subst (λ (z : ℤ). nat_abs z ≤ 65535) (ap (λ o. if_equal o e.1 +ℤ count xs q) p ∙ +ℤ_idl (count xs q)) l

pub small_change : (h : Holding) → LawfulHolding h → (k w : ℕ) (d new : Lines) → LowerNode w (shelf_of h k) d new → SmallLines d
small_change h law k w d new lower =
    small_counts d lower.changes.in_order (λ q.
    apart (count new q) (count (shelf_of h k) q) (count d q) (copies h k q) (lower.changes.moves q) (count_is_copies h law k q) (law.counts k q)
    (count_low new lower.changes.new_bag.1 q) (count_most 65535 new lower.changes.new_bag.0 lower.counts q))
  where
    apart : (n o d : ℤ) (m : ℕ) → n ≡ o +ℤ d → o ≡ pos m → m ≤ 65535 → pos 0 ≤ℤ n → n ≤ℤ pos 65535 → nat_abs d ≤ 65535
    apart n o d m e f l low most = omega (arith, ints)
