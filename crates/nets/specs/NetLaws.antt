-- What the nets of a message say of its records.
--
--   moves_here i q r        a record moves copies of the row q at node i
--   copies_put i q m        how many copies of the row q the records m put on node i
--   copies_taken i q m      how many they take from it
--   at_node i ls            what the change lines ls have of node i
--   AscendingLines ls       the lines ascend by node and row, so each row of a node stands once, and no change is 0
--   BaseRow w q             q is w columns wide, and no column is −2,147,483,648
--   NetRows nodes m         the rows of each base's net are such rows of its width
--   NetRowsLaw              so they are for every message that a plan accepts
--   NetLaws                 each net has the copies put less the copies taken; the lines of a message are its nets, each at its node;
--                           and of a message that a plan accepts: its records are those that the reader reads, at most 1,024, each of
--                           a base; a node that is no base has no net, and the rows of a base's net are as wide as the base
use Rattle.std.specs.Prelude.{◌≡◌, ℕ, ◌+◌, ◌≤◌, Bool, true, false, cond, not, ◌&&◌, List, [], ◌∷◌, length, pos, ◌-ℤ◌, Some, None, Ok, ◌==◌}
use Rattle.std.specs.Ordering.{is_eq}
use Rattle.std.specs.List.{AllByRecursion}
use Rattle.bag.specs.declared.lines.ChangeLine.{ChangeLine}
use Rattle.bag.specs.Order.{Row, row_order, change_line_order}
use Rattle.bag.specs.Columns.{column_of, OfWidth}
use Rattle.bag.specs.Bag.{Lines, is_zero, count, EachRow}
use Rattle.bag.specs.Bytes.{Bytes}
use Rattle.bag.specs.Measure.{ShownColumn}
use Rattle.table.specs.Entries.{Ascending}
use Rattle.message.specs.declared.record.Record.{Record}
use Rattle.message.specs.Limits.{max_records}
use Rattle.message.specs.Reading.{reading, records_of}
use Rattle.plan.specs.declared.node.Node.{Node}
use Rattle.nets.specs.Nets.{net_of, nets_of}
use Rattle.nets.specs.Gathered.{base_at, of_base, gathered}

abbrev pub moves_here : ℕ → Row → Record → Bool
moves_here i q r = r.node == i && is_eq (row_order r.row q)

unfoldable pub copies_put : ℕ → Row → List Record → ℕ
copies_put i q [] = 0
copies_put i q (r ∷ m) = cond (moves_here i q r && not r.take) r.count 0 + copies_put i q m

unfoldable pub copies_taken : ℕ → Row → List Record → ℕ
copies_taken i q [] = 0
copies_taken i q (r ∷ m) = cond (moves_here i q r && r.take) r.count 0 + copies_taken i q m

unfoldable pub at_node : ℕ → List ChangeLine → Lines
at_node i [] = []
at_node i (l ∷ ls) = cond (l.node == i) ((l.row, l.change) ∷ at_node i ls) (at_node i ls)

pub record AscendingLines (ls : List ChangeLine) : Type 0 where
  pub ascend : Ascending change_line_order ls
  pub some : AllByRecursion (λ l. is_zero l.change ≡ false) ls

abbrev pub BaseRow : ℕ → Row → Type 0
BaseRow w q = OfWidth w q × AllByRecursion ShownColumn q

abbrev pub NetRows : List Node → List Record → Type 0
NetRows nodes m = (i w : ℕ) → base_at nodes i ≡ Some w → EachRow (BaseRow w) (net_of i m)

pub record NetLaws : Type 0 where
  pub adds_up : (m : List Record) (i : ℕ) (q : Row) → count (net_of i m) q ≡ pos (copies_put i q m) -ℤ pos (copies_taken i q m)
  pub ascends : (m : List Record) → AscendingLines (nets_of m)
  pub by_node : (m : List Record) (i : ℕ) → i ≤ 15 → at_node i (nets_of m) ≡ net_of i m
  pub as_read : (nodes : List Node) (bytes : List ℕ) (m : List Record) → gathered nodes bytes ≡ Ok m → records_of (reading bytes) ≡ Ok m
  pub few : (nodes : List Node) (bytes : List ℕ) (m : List Record) → gathered nodes bytes ≡ Ok m → length m ≤ max_records
  pub of_bases : (nodes : List Node) (bytes : List ℕ) (m : List Record) → gathered nodes bytes ≡ Ok m → AllByRecursion (λ r. of_base nodes r ≡ true) m
  pub only_bases : (nodes : List Node) (bytes : List ℕ) (m : List Record) → gathered nodes bytes ≡ Ok m → (i : ℕ) → base_at nodes i ≡ None → net_of i m ≡ []
  pub widths : (nodes : List Node) (bytes : List ℕ) (m : List Record) → gathered nodes bytes ≡ Ok m → (i w : ℕ) → base_at nodes i ≡ Some w →
      EachRow (λ q. (j : ℕ) → w ≤ j → column_of q j ≡ pos 0) (net_of i m)

abbrev pub NetRowsLaw : Type 0
NetRowsLaw = (nodes : List Node) (bytes : List ℕ) (m : List Record) → Bytes bytes → gathered nodes bytes ≡ Ok m → NetRows nodes m
