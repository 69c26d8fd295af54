-- The laws of bags, sums, operators and changes, as statements; each is held by the contract of a function of the same name. Assumes nothing.
--     EqualCountsMeanEqualBags              two canonical lists with equal counts are one list
--     EqualCountsOfRowsMeanEqualBags        the same where only rows that the type Row holds are listed and compared
--     TheLowestRowIsLeast                   eight times the smallest number is less than every other such row
--     ColumnsAreAsSaid                      which columns agree, and which stand where in a row that is listed or joined
--     SumFollowsChange G f                  the sum over the new bag is the sum over the old plus the sum over the change
--     CountsAreSums                         counts of bags, of projections and of joins are such sums
--     OperatorsCountAsSaid                  the counts of keep, both and less
--     OperatorsGiveBags                     keep, pick, pair, both and less make bags of bags
--     OperatorsKeepWidths, TotalKeepsItsWidth M      how wide the rows are
--     KeepFollowsChange, and so on          what is worked out from old bags and changes is the difference of the operator's bags
--     TotalFollowsChange M                  the same of a total, group by group
--     TotalFollowsChangeFromItsRows M       the same, where old copies and values are read back from the total's own old bag
--     TotalHasARowForEachGroup M            a total is the rows of its groups; a group is there exactly if it has copies
--     TestsFollowChange, LinesFollowChange, FitFollowsChange M      tests of counts, the number of lines, and whether every
--                                             group fits, told from the changed rows and the touched groups alone
--     DifferenceIsTheLeastChange            the difference of two bags leads from old to new, and no rival takes or puts fewer copies
--     ChangeLeadsBack                       a change negated leads from new to old
--     ChangeTurnsRound                      a change with takes and puts exchanged leads from new to old; so do the takes and puts of its negation
--     NextFindsTheRowAfter                  next answers the smallest greater row, and none if none is greater
use Rattle.std.specs.Prelude.{◌≡◌, ℕ, ◌+◌, ◌-◌, ◌<◌, ◌≤◌, Bool, true, false, cond, ◌⊎◌, List, length, ℤ, pos, ◌+ℤ◌, ◌-ℤ◌, ◌*ℤ◌, Some, None, Decides, Option, slice_index_or}
use Rattle.std.specs.declared.cmp.Ordering.TheVariants.{Less}
use Rattle.bag.specs.declared.condition.Relation.{Relation}
use Rattle.bag.specs.declared.condition.Operand.{Operand}
use Rattle.bag.specs.Order.{Row, row_order}
use Rattle.bag.specs.Condition.{stands}
use Rattle.std.specs.List.{AllByRecursion}
use Rattle.bag.specs.Columns.{column_of, operand_of, listed, followed, agree, IsRow, OfWidth}
use Rattle.bag.specs.Bag.{Line, Lines, is_zero, copies_at, count, Canonical, IsBag, EachRow, every_line, negated, difference, applied, next, lowest_row}
use Rattle.bag.specs.Group.{Group, AddsUp, sum_over, every_integer, integers}
use Rattle.bag.specs.Measure.{Measure}
use Rattle.bag.specs.Operators.{project, join, keep, pick, pair, both, at_least_zero, monus, map_groups, group_key, total_copies, total_value, total_row, total, all_groups_fit}
use Rattle.bag.specs.Changes.{Moves, Changes, takes, puts, IsChange, IsLeast}
use Rattle.bag.specs.Propagation.{change_of_pair, change_of_less, change_of_total, change_of_own_total, touched_groups_fit, appearing, vanishing}

abbrev pub EqualCountsMeanEqualBags : Type 0
EqualCountsMeanEqualBags = (xs ys : Lines) → Canonical xs → Canonical ys → ((q : Row) → count xs q ≡ count ys q) → xs ≡ ys

abbrev pub EqualCountsOfRowsMeanEqualBags : Type 0
EqualCountsOfRowsMeanEqualBags = (xs ys : Lines) → Canonical xs → Canonical ys → EachRow IsRow xs → EachRow IsRow ys →
    ((q : Row) → IsRow q → count xs q ≡ count ys q) → xs ≡ ys

abbrev pub TheLowestRowIsLeast : Type 0
TheLowestRowIsLeast = (r : Row) → IsRow r → (r ≡ lowest_row) ⊎ (row_order lowest_row r ≡ Less)

pub record ColumnsAreAsSaid : Type 0 where
  pub agreeing : (ps : List (ℕ × ℕ)) (a b : Row) → Decides (agree ps a b) (AllByRecursion (λ p. column_of a p.0 ≡ column_of b p.1) ps)
  pub of_listed : (is : List ℕ) (r : Row) (i d : ℕ) → i < length is → i < 8 → column_of (listed is r) i ≡ column_of r (slice_index_or is i d)
  pub of_left : (w : ℕ) (a b : Row) (i : ℕ) → length a ≡ 8 → i < 8 → i < w → column_of (followed w a b) i ≡ column_of a i
  pub of_right : (w : ℕ) (a b : Row) (i : ℕ) → length a ≡ 8 → i < 8 → w ≤ i → column_of (followed w a b) i ≡ column_of b (i - w)

-- `CountsAreSums` says that counts, projections and joins are such sums, and the value of a group is one by definition: so this
-- is the one law of change.
abbrev pub SumFollowsChange : {V : Type 0} → Group V → (Row → ℤ → V) → Type 0
SumFollowsChange G f = (old d new : Lines) → Moves old d new → sum_over G f new ≡ G.plus (sum_over G f old) (sum_over G f d)

-- what m copies of b beside one copy of a add at q in a join
abbrev pub joined_at : (Row → Row → Bool) → (Row → Row → Row) → Row → Row → Row → ℤ → ℤ
joined_at on combine q a b m = cond (on a b) (copies_at q (combine a b) m) (pos 0)

-- what n copies of a add at q in a join with r
abbrev pub joined_with : (Row → Row → Bool) → (Row → Row → Row) → Lines → Row → Row → ℤ → ℤ
joined_with on combine r q a n = n *ℤ sum_over integers (joined_at on combine q a) r

pub record CountsAreSums : Type 0 where
  pub of_bag : (xs : Lines) (q : Row) → count xs q ≡ sum_over integers (copies_at q) xs
  pub of_project : (g : Row → Row) (xs : Lines) (q : Row) → count (project g xs) q ≡ sum_over integers (λ r n. copies_at q (g r) n) xs
  pub of_join : (on : Row → Row → Bool) (combine : Row → Row → Row) (l r : Lines) (q : Row) → count (join on combine l r) q ≡ sum_over integers (joined_with on combine r q) l
  -- and what is summed adds up over copies
  pub bag_adds_up : (q : Row) → AddsUp every_integer integers (copies_at q)
  pub project_adds_up : (g : Row → Row) (q : Row) → AddsUp every_integer integers (λ r n. copies_at q (g r) n)
  pub join_adds_up : (on : Row → Row → Bool) (combine : Row → Row → Row) (r : Lines) (q : Row) → AddsUp every_integer integers (joined_with on combine r q)

-- `CountsAreSums` has the counts of pick and pair
pub record OperatorsCountAsSaid : Type 0 where
  pub of_keep : (a : ℕ) (relation : Relation) (o : Operand) (xs : Lines) (q : Row) → count (keep a relation o xs) q ≡ cond (stands relation (column_of q a) (operand_of o q)) (count xs q) (pos 0)
  pub of_both : (l r : Lines) (q : Row) → count (both l r) q ≡ count l q +ℤ count r q
  pub of_less : (l r : Lines) → IsBag l → IsBag r → (q : Row) → count (monus l r) q ≡ at_least_zero (count l q -ℤ count r q)

pub record OperatorsGiveBags : Type 0 where
  pub of_keep : (a : ℕ) (relation : Relation) (o : Operand) (xs : Lines) → IsBag xs → IsBag (keep a relation o xs)
  pub of_pick : (is : List ℕ) (xs : Lines) → IsBag xs → IsBag (pick is xs)
  pub of_pair : (w : ℕ) (ps : List (ℕ × ℕ)) (l r : Lines) → IsBag l → IsBag r → IsBag (pair w ps l r)
  pub of_both : (l r : Lines) → IsBag l → IsBag r → IsBag (both l r)
  pub of_less : (l r : Lines) → IsBag l → IsBag r → IsBag (monus l r)

-- A node of width w uses columns 0 to w − 1, and the others hold 0; the total's width is in `TotalKeepsItsWidth`.
pub record OperatorsKeepWidths : Type 0 where
  pub of_keep : (w a : ℕ) (relation : Relation) (o : Operand) (xs : Lines) → EachRow (OfWidth w) xs → EachRow (OfWidth w) (keep a relation o xs)
  pub of_pick : (is : List ℕ) (xs : Lines) → EachRow (OfWidth (length is)) (pick is xs)
  pub of_pair : (w v : ℕ) (ps : List (ℕ × ℕ)) (l r : Lines) → EachRow (OfWidth v) r → EachRow (OfWidth (w + v)) (pair w ps l r)
  pub of_both : (w : ℕ) (l r : Lines) → EachRow (OfWidth w) l → EachRow (OfWidth w) r → EachRow (OfWidth w) (both l r)
  pub of_less : (w : ℕ) (l r : Lines) → EachRow (OfWidth w) l → EachRow (OfWidth w) (monus l r)

abbrev pub KeepFollowsChange : Type 0
KeepFollowsChange = (a : ℕ) (relation : Relation) (o : Operand) (old d new : Lines) → Changes old d new →
    keep a relation o d ≡ difference (keep a relation o old) (keep a relation o new)

abbrev pub PickFollowsChange : Type 0
PickFollowsChange = (is : List ℕ) (old d new : Lines) → Changes old d new → pick is d ≡ difference (pick is old) (pick is new)

-- both sides may change at once
abbrev pub PairFollowsChange : Type 0
PairFollowsChange = (w : ℕ) (ps : List (ℕ × ℕ)) (l dl l' r dr r' : Lines) → Changes l dl l' → Changes r dr r' →
    change_of_pair w ps l dl r dr ≡ difference (pair w ps l r) (pair w ps l' r')

abbrev pub BothFollowsChange : Type 0
BothFollowsChange = (l dl l' r dr r' : Lines) → Changes l dl l' → Changes r dr r' → both dl dr ≡ difference (both l r) (both l' r')

abbrev pub LessFollowsChange : Type 0
LessFollowsChange = (l dl l' r dr r' : Lines) → Changes l dl l' → Changes r dr r' →
    change_of_less l dl r dr ≡ difference (monus l r) (monus l' r')

module _ {V : Type 0} (M : Measure V) where
  abbrev pub TotalFollowsChange : Type 0
  TotalFollowsChange = (j : ℕ) (is : List ℕ) (old d new : Lines) → Changes old d new →
      change_of_total M j is old d ≡ difference (total M j is old) (total M j is new)

  -- The old row of a group says its copies and, if it fits, its value: a total needs no bag but its own.
  abbrev pub TotalFollowsChangeFromItsRows : Type 0
  TotalFollowsChangeFromItsRows = (j : ℕ) (is : List ℕ) (old d new : Lines) → length is + 1 + M.shows ≤ 8 → all_groups_fit M j is old ≡ true → Changes old d new →
      change_of_own_total M j is (total M j is old) d ≡ difference (total M j is old) (total M j is new)

  -- A row is in a total exactly if it is the row of its group and the group has copies: so a group goes at 0 copies, whatever its
  -- value, and there is no row over an empty bag, also with no listed column. The groups are the lines of a pick.
  pub record RowsOfGroups (j : ℕ) (is : List ℕ) (xs : Lines) : Type 0 where
    pub row_by_row : (q : Row) → count (total M j is xs) q
        ≡ cond (is_zero (total_copies is xs (group_key (length is) q))) (pos 0)
        (copies_at q (total_row M (length is) (group_key (length is) q) (total_copies is xs (group_key (length is) q)) (total_value M j is xs (group_key (length is) q))) (pos 1))
    pub in_order : total M j is xs ≡ map_groups (λ k n. total_row M (length is) k n (total_value M j is xs k)) (pick is xs)
    pub groups : (k : Row) → count (pick is xs) k ≡ total_copies is xs k
    pub a_bag : IsBag (total M j is xs)

  abbrev pub TotalHasARowForEachGroup : Type 0
  TotalHasARowForEachGroup = (j : ℕ) (is : List ℕ) (xs : Lines) → length is ≤ 7 → RowsOfGroups j is xs

  abbrev pub TotalKeepsItsWidth : Type 0
  TotalKeepsItsWidth = (j : ℕ) (is : List ℕ) (xs : Lines) → length is + 1 + M.shows ≤ 8 → all_groups_fit M j is xs ≡ true →
      EachRow (OfWidth (length is + 1 + M.shows)) (total M j is xs)

  -- the touched groups alone tell whether every group of the new bag fits
  abbrev pub FitFollowsChange : Type 0
  FitFollowsChange = (j : ℕ) (is : List ℕ) (old d new : Lines) → length is + 1 + M.shows ≤ 8 → all_groups_fit M j is old ≡ true → Changes old d new →
      all_groups_fit M j is new ≡ touched_groups_fit M j is (total M j is old) d

-- A test of counts that 0 passes, and each line of the old bag: the changed rows alone tell whether each line of the new one passes.
abbrev pub TestsFollowChange : Type 0
TestsFollowChange = (test : ℤ → Bool) → test (pos 0) ≡ true → (old d new : Lines) → Canonical old → Canonical d → Canonical new → Moves old d new →
    every_line (λ q n. test n) old ≡ true → every_line (λ q n. test n) new ≡ every_line (λ q n. test (count old q +ℤ n)) d

abbrev pub LinesFollowChange : Type 0
LinesFollowChange = (old d new : Lines) → Canonical old → Canonical d → Canonical new → Moves old d new →
    length new + vanishing old d ≡ length old + appearing old d

pub record LeadsFromTo (old new : Lines) : Type 0 where
  pub changes : Changes old (difference old new) new
  pub arrives : applied old (difference old new) ≡ new
  pub puts_less_takes : (q : Row) → count (difference old new) q ≡ count (puts (difference old new)) q -ℤ count (takes (difference old new)) q
  pub least : IsLeast old (takes (difference old new)) (puts (difference old new)) new
  -- no other canonical list leads there
  pub only : (d : Lines) → Changes old d new → d ≡ difference old new

abbrev pub DifferenceIsTheLeastChange : Type 0
DifferenceIsTheLeastChange = (old new : Lines) → IsBag old → IsBag new → LeadsFromTo old new

pub record LeadsBack (old d new : Lines) : Type 0 where
  pub changes : Changes new (negated d) old
  pub arrives : applied new (negated d) ≡ old
  pub turned : negated (difference old new) ≡ difference new old

abbrev pub ChangeLeadsBack : Type 0
ChangeLeadsBack = (old d new : Lines) → Changes old d new → LeadsBack old d new

pub record ChangeTurnsRound : Type 0 where
  pub exchanged : (old take put new : Lines) → IsChange old take put new → IsChange new put take old
  pub takes_of_negated : (d : Lines) → takes (negated d) ≡ puts d
  pub puts_of_negated : (d : Lines) → puts (negated d) ≡ takes d

-- what `next` may answer: a row that has copies, greater than r, and none that has copies between; or none, if none is greater
abbrev pub RowAfter : Lines → Row → Option Line → Type 0
RowAfter xs r (Some e) =
    (is_zero e.1 ≡ false) × (count xs e.0 ≡ e.1) × (row_order r e.0 ≡ Less)
    × ((q : Row) → row_order r q ≡ Less → row_order q e.0 ≡ Less → count xs q ≡ pos 0)
RowAfter xs r None = (q : Row) → row_order r q ≡ Less → count xs q ≡ pos 0

pub record FoundAfter (xs : Lines) (r : Row) : Type 0 where
  pub found : RowAfter xs r (next xs r)
  -- no other answer is right
  pub only : (answer : Option Line) → RowAfter xs r answer → next xs r ≡ answer

abbrev pub NextFindsTheRowAfter : Type 0
NextFindsTheRowAfter = (xs : Lines) (r : Row) → Canonical xs → FoundAfter xs r
