-- How a group's copies and value move. Assumes nothing.
--     group_value_ok      the value is one that code can hold
--     group_value_moves, group_copies_moves      value and copies of the new bag from those of the old and of the change
use Rattle.std.proofs.Common.{◌≡◌, ℤ, pos, ◌+ℤ◌, Ordering, Less, Equal, Greater, sym, refl}
use Rattle.bag.specs.Order.{Row, row_order}
use Rattle.bag.specs.Bag.{Lines}
use Rattle.bag.specs.Group.{Group, GroupLaws, AddsUp}
use Rattle.bag.specs.Operators.{group_copies, worth_if_equal, group_worth, group_value}
use Rattle.bag.specs.Changes.{Moves}
use Rattle.bag.specs.Sums.{sum_ok}
use Rattle.bag.proofs.Moves.{sum_moves, map_rows_moves}

module _ {V : Type 0} {ok : V → Type 0} (G : Group V) (L : GroupLaws ok G) (key : Row → Row) (worth : Row → ℤ → V) (C : AddsUp ok G worth) where
  group_worth_adds_up : (k : Row) → AddsUp ok G (group_worth G key worth k)
  group_worth_adds_up k = record { ok_worth = λ r n. ok_worth (row_order (key r) k) r n; at_zero = λ r. at_zero (row_order (key r) k) r; adds = λ r m n. adds (row_order (key r) k) r m n }
    where
      ok_worth : (o : Ordering) (r : Row) (n : ℤ) → ok (worth_if_equal G o (worth r n))
      ok_worth Less r n = L.ok_zero
      ok_worth Equal r n = C.ok_worth r n
      ok_worth Greater r n = L.ok_zero

      at_zero : (o : Ordering) (r : Row) → worth_if_equal G o (worth r (pos 0)) ≡ G.zero
      at_zero Less r = refl
      at_zero Equal r = C.at_zero r
      at_zero Greater r = refl

      adds : (o : Ordering) (r : Row) (m n : ℤ) → worth_if_equal G o (worth r (m +ℤ n)) ≡ G.plus (worth_if_equal G o (worth r m)) (worth_if_equal G o (worth r n))
      adds Less r m n = sym (L.neutral G.zero L.ok_zero)
      adds Equal r m n = C.adds r m n
      adds Greater r m n = sym (L.neutral G.zero L.ok_zero)

  pub group_value_ok : (xs : Lines) (k : Row) → ok (group_value G key worth xs k)
  unfolding group_value
  group_value_ok xs k = sum_ok G L (group_worth G key worth k) (group_worth_adds_up k) xs

  pub group_value_moves : (old d new : Lines) → Moves old d new → (k : Row) → group_value G key worth new k ≡ G.plus (group_value G key worth old k) (group_value G key worth d k)
  unfolding group_value
  group_value_moves old d new m k = sum_moves G L (group_worth G key worth k) (group_worth_adds_up k) old d new m

  pub group_copies_moves : (old d new : Lines) → Moves old d new → (k : Row) → group_copies key new k ≡ group_copies key old k +ℤ group_copies key d k
  unfolding group_copies
  group_copies_moves old d new m k = map_rows_moves key old d new m k
