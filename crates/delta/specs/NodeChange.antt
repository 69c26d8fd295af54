-- What is known where the change of a node is worked out, and what working it out owes; one form for all operators. Assumes nothing.
--     within_count n, counts_fit xs  a count that a line can have, at most 65,535; every count of a bag is one
--     LawfulRow w r                  r is w columns wide, and no column is −2,147,483,648
--     LowerNode w old d new          what is known of a node below: its change leads from its old to its new bag, of rows w wide
--     Setting h ws k old ds news     the stock holds h, of the node k the bag `old`; ds are the changes and news the new bags of the
--                                    nodes below, whose rows are as wide as ws says
--     LinesOf c d lines              the lines are the change d of the node c, no more than a sheet has
--     node_answer new fit            what working out a node answers: Over, then Wide; fit says whether every group that it shows fits
--     over_at old d                  some changed row comes to a count above 65,535
use Rattle.std.specs.Prelude.{◌≡◌, ℕ, ◌<◌, ◌≤◌, Bool, true, cond, not, List, length, ℤ, pos, ◌+ℤ◌, Ok, Err, Result, int_le, slice_index}
use Rattle.std.specs.List.{AllByRecursion}
use Rattle.bag.specs.declared.lines.ChangeLine.{ChangeLine}
use Rattle.bag.specs.Order.{Row}
use Rattle.bag.specs.Columns.{OfWidth}
use Rattle.bag.specs.Bag.{Lines, count, EachRow, every_line}
use Rattle.bag.specs.Measure.{ShownColumn}
use Rattle.bag.specs.Changes.{Changes}
use Rattle.stock.specs.Holding.{Holding, shelf_of}
use Rattle.plan.specs.Afresh.{board}
use Rattle.sheet.specs.Sheets.{of_node}
use Rattle.delta.specs.declared.fault.NodeFault.{NodeFault}
use Rattle.delta.specs.declared.fault.NodeFault.TheVariants.{Over, Wide}

abbrev pub within_count : ℤ → Bool
within_count n = int_le n (pos 65535)

abbrev pub counts_fit : Lines → Bool
counts_fit xs = every_line (λ q n. within_count n) xs

abbrev pub over_at : Lines → Lines → Bool
over_at old d = not (every_line (λ q n. within_count (count old q +ℤ n)) d)

pub record LawfulRow (w : ℕ) (r : Row) : Type 0 where
  pub width : OfWidth w r
  pub columns : AllByRecursion ShownColumn r

pub record LowerNode (w : ℕ) (old d new : Lines) : Type 0 where
  pub changes : Changes old d new
  pub counts : counts_fit new ≡ true
  pub old_rows : EachRow (LawfulRow w) old
  pub new_rows : EachRow (LawfulRow w) new

pub record Setting (h : Holding) (ws : List ℕ) (k : ℕ) (old : Lines) (ds news : List Lines) : Type 0 where
  pub low : k ≤ 15
  pub many : length ds ≡ k
  pub own : shelf_of h k ≡ old
  pub lower : (i : ℕ) → i < k → LowerNode (slice_index ws i) (shelf_of h i) (board ds i) (board news i)

-- the lines of the change of a node below, as many as a sheet has at most
pub record LinesOf (c : ℕ) (d : Lines) (lines : List ChangeLine) : Type 0 where
  pub are : lines ≡ of_node c d
  pub few : length d ≤ 8192

abbrev pub node_answer : Lines → Bool → Result (Unit {0}) NodeFault
node_answer new fit = cond (counts_fit new) (cond fit (Ok tt) (Err Wide)) (Err Over)
