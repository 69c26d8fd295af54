-- The laws of the operators: each makes bags of bags, and its change is the difference of its bags. Assumes nothing.
--     counts_are_sums          of bags, projections and joins
--     operators_count_as_said  of keep, both and less
--     operators_give_bags      of all but the total
--     keep_follows_change, pick_follows_change, pair_follows_change, both_follows_change, less_follows_change
--     keep_changes, pick_changes, pair_changes, both_changes, less_changes, total_changes      so a change goes up from node to node
--     total_follows_change, total_follows_change_from_its_rows, total_has_a_row_for_each_group      for any measure under its laws
use Rattle.std.proofs.Common.{◌≡◌, ℕ, Bool, List, length, sym, ◌∙◌, subst, arith}
use Rattle.bag.specs.declared.condition.Relation.{Relation}
use Rattle.bag.specs.declared.condition.Operand.{Operand}
use Rattle.bag.specs.Order.{Row}
use Rattle.bag.specs.Condition.{stands}
use Rattle.bag.specs.Columns.{column_of, operand_of, listed, followed, agree}
use Rattle.bag.specs.Bag.{Lines, Canonical, IsBag, difference}
use Rattle.bag.specs.Measure.{Measure, MeasureLaws}
use Rattle.bag.specs.Operators.{select, keep, pick, pair, both, monus, column_worth, total_row, total}
use Rattle.bag.specs.Changes.{Changes}
use Rattle.bag.specs.Propagation.{change_of_pair, change_of_less, group_of, change_of_total}
use Rattle.bag.specs.Laws.{CountsAreSums, OperatorsCountAsSaid, OperatorsGiveBags, KeepFollowsChange, PickFollowsChange, PairFollowsChange, BothFollowsChange, LessFollowsChange, TotalFollowsChange, TotalFollowsChangeFromItsRows, TotalHasARowForEachGroup}
use Rattle.bag.specs.Integers.{copies_at_adds_up, count_is_sum}
use Rattle.bag.proofs.CanonicalForm.{canonical_collect}
use Rattle.bag.proofs.Moves.{difference_only, map_rows_adds_up, count_project, canonical_project, project_copies, project_moves, count_kept, select_moves, count_both, both_moves}
use Rattle.bag.proofs.RowByRow.{count_monus}
use Rattle.bag.proofs.JoinMoves.{joined_with_adds_up, count_join, canonical_change_of_join, join_moves}
use Rattle.bag.proofs.OperatorBags.{count_low, bag_project, bag_both, bag_join, bag_monus, bag_aggregate, canonical_select, bag_select}
use Rattle.bag.proofs.ChangeLaws.{canonical_change_of_less, monus_moves, canonical_change_of_aggregate, change_of_aggregate_moves}
use Rattle.bag.proofs.LeastChange.{difference_changes}
use Rattle.bag.proofs.ReadBack.{column_worth_adds_up, total_is_rows, count_total, own_total_is}

canonical_both : (l r : Lines) → Canonical (both l r)
unfolding both
canonical_both l r = canonical_collect _

pub counts_are_sums : CountsAreSums
counts_are_sums = record {
  of_bag = λ xs q. count_is_sum q xs;
  of_project = count_project;
  of_join = count_join;
  bag_adds_up = copies_at_adds_up;
  project_adds_up = map_rows_adds_up;
  join_adds_up = λ on combine r q. joined_with_adds_up on combine q r;
}

pub operators_count_as_said : OperatorsCountAsSaid
operators_count_as_said = record {
  of_keep = λ a relation o xs q. count_kept (λ r. stands relation (column_of r a) (operand_of o r)) q xs;
  of_both = count_both;
  of_less = λ l r b c q. count_monus l r b.0 (count_low r c.1) q;
}

pub operators_give_bags : OperatorsGiveBags
operators_give_bags = record {
  of_keep = λ a relation o xs b. bag_select _ xs b;
  of_pick = λ is xs b. bag_project (listed is) xs b;
  of_pair = λ w ps l r b c. bag_join (agree ps) (followed w) l r b c;
  of_both = λ l r b c. bag_both l r b c;
  of_less = λ l r b c. bag_monus l r b;
}

pub keep_follows_change : KeepFollowsChange
keep_follows_change a relation o old d new h =
    let p : Row → Bool = λ r. stands relation (column_of r a) (operand_of o r) in
    difference_only (select p old) (select p d) (select p new) (canonical_select p d h.in_order) (select_moves p old d new h.moves)

pub pick_follows_change : PickFollowsChange
pick_follows_change is old d new h =
    difference_only (pick is old) (pick is d) (pick is new) (canonical_project (listed is) d) (project_moves (listed is) old d new h.moves)

pub pair_follows_change : PairFollowsChange
pair_follows_change w ps l dl l' r dr r' hl hr =
    difference_only (pair w ps l r) (change_of_pair w ps l dl r dr) (pair w ps l' r') (canonical_change_of_join (agree ps) (followed w) l dl r dr)
    (join_moves (agree ps) (followed w) l dl l' r dr r' hl.moves hr.moves)

pub both_follows_change : BothFollowsChange
both_follows_change l dl l' r dr r' hl hr =
    difference_only (both l r) (both dl dr) (both l' r') (canonical_both dl dr) (both_moves l dl l' r dr r' hl.moves hr.moves)

pub less_follows_change : LessFollowsChange
less_follows_change l dl l' r dr r' hl hr =
    difference_only (monus l r) (change_of_less l dl r dr) (monus l' r') (canonical_change_of_less l dl r dr)
    (monus_moves l dl l' r dr r' hl.old_bag hl.new_bag hr.old_bag hr.new_bag hl.in_order hr.in_order hl.moves hr.moves)

-- from one node to the next: what an operator's bag changes by
as_changes : (old d new : Lines) → IsBag old → IsBag new → d ≡ difference old new → Changes old d new
as_changes old d new b c e = subst (λ (x : Lines). Changes old x new) (sym e) (difference_changes old new b c)

pub keep_changes : (a : ℕ) (relation : Relation) (o : Operand) (old d new : Lines) → Changes old d new → Changes (keep a relation o old) (keep a relation o d) (keep a relation o new)
keep_changes a relation o old d new h =
    as_changes _ _ _ (operators_give_bags.of_keep a relation o old h.old_bag) (operators_give_bags.of_keep a relation o new h.new_bag) (keep_follows_change a relation o old d new h)

pub pick_changes : (is : List ℕ) (old d new : Lines) → Changes old d new → Changes (pick is old) (pick is d) (pick is new)
pick_changes is old d new h = as_changes _ _ _ (operators_give_bags.of_pick is old h.old_bag) (operators_give_bags.of_pick is new h.new_bag) (pick_follows_change is old d new h)

pub pair_changes : (w : ℕ) (ps : List (ℕ × ℕ)) (l dl l' r dr r' : Lines) → Changes l dl l' → Changes r dr r' → Changes (pair w ps l r) (change_of_pair w ps l dl r dr) (pair w ps l' r')
pair_changes w ps l dl l' r dr r' h k =
    as_changes _ _ _ (operators_give_bags.of_pair w ps l r h.old_bag k.old_bag) (operators_give_bags.of_pair w ps l' r' h.new_bag k.new_bag) (pair_follows_change w ps l dl l' r dr r' h k)

pub both_changes : (l dl l' r dr r' : Lines) → Changes l dl l' → Changes r dr r' → Changes (both l r) (both dl dr) (both l' r')
both_changes l dl l' r dr r' h k =
    as_changes _ _ _ (operators_give_bags.of_both l r h.old_bag k.old_bag) (operators_give_bags.of_both l' r' h.new_bag k.new_bag) (both_follows_change l dl l' r dr r' h k)

pub less_changes : (l dl l' r dr r' : Lines) → Changes l dl l' → Changes r dr r' → Changes (monus l r) (change_of_less l dl r dr) (monus l' r')
less_changes l dl l' r dr r' h k =
    as_changes _ _ _ (operators_give_bags.of_less l r h.old_bag k.old_bag) (operators_give_bags.of_less l' r' h.new_bag k.new_bag) (less_follows_change l dl l' r dr r' h k)

module _ {V : Type 0} {ok : V → Type 0} (M : Measure V) (L : MeasureLaws ok M) where
  pub total_follows_change : TotalFollowsChange M
  total_follows_change j is old d new h =
      difference_only (total M j is old) (change_of_total M j is old d) (total M j is new)
      (canonical_change_of_aggregate M.group L.group_laws (listed is) (column_worth M j) (column_worth_adds_up M L.adds_up j) (total_row M (length is)) (group_of M j is old) d)
      (change_of_aggregate_moves M.group L.group_laws (listed is) (column_worth M j) (column_worth_adds_up M L.adds_up j) (total_row M (length is)) old d new h.in_order h.moves)

  pub total_changes : (j : ℕ) (is : List ℕ) (old d new : Lines) → Changes old d new → Changes (total M j is old) (change_of_total M j is old d) (total M j is new)
  total_changes j is old d new h =
      as_changes _ _ _ (bag_aggregate M.group (listed is) (column_worth M j) (total_row M (length is)) old) (bag_aggregate M.group (listed is) (column_worth M j) (total_row M (length is)) new)
      (total_follows_change j is old d new h)

  pub total_follows_change_from_its_rows : TotalFollowsChangeFromItsRows M
  total_follows_change_from_its_rows j is old d new room fits h =
      own_total_is M L.group_laws L.adds_up (L.showing (omega arith)) j is room old h.old_bag fits d
      ∙ total_follows_change j is old d new h

  pub total_has_a_row_for_each_group : TotalHasARowForEachGroup M
  total_has_a_row_for_each_group j is xs small = record {
    row_by_row = count_total M j is xs small;
    in_order = total_is_rows M j is xs small;
    groups = project_copies (listed is) xs;
    a_bag = bag_aggregate M.group (listed is) (column_worth M j) (total_row M (length is)) xs;
  }
