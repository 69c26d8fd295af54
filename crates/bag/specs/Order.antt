-- The order of rows, and of the lines that stores and sheets hold. Assumes nothing.
--     Row                     a row: the list of its eight signed columns
--     row_order a b           column 0 decides, then column 1, and so on (lexicographic order)
--     key_order m a n b       the number decides, then the row
--     stock_line_order        the order of lines by shelf and row
--     change_line_order       the order of lines by node and row
--     LawfulOrder key order   `order` is a total order of what `key` gives
use Rattle.std.specs.Prelude.{◌≡◌, ℕ, List, ℤ}
use Rattle.std.specs.declared.cmp.Ordering.TheVariants.{Less, Equal}
use Rattle.std.specs.declared.cmp.Ordering.{Ordering}
use Rattle.std.specs.Ordering.{ordering_then, ordering_reverse, int_cmp, nat_cmp}
use Rattle.bag.specs.declared.lines.StockLine.{StockLine}
use Rattle.bag.specs.declared.lines.ChangeLine.{ChangeLine}
use Rattle.std.specs.Cmp.Lexicographic.{slice_cmp}

abbrev pub Row : Type 0
Row = List ℤ

unfoldable pub row_order : Row → Row → Ordering
row_order a b = slice_cmp int_cmp a b

abbrev pub key_order : ℕ → Row → ℕ → Row → Ordering
key_order m a n b = ordering_then (nat_cmp m n) (row_order a b)

abbrev pub stock_line_order : StockLine → StockLine → Ordering
stock_line_order x y = key_order x.shelf x.row y.shelf y.row

abbrev pub change_line_order : ChangeLine → ChangeLine → Ordering
change_line_order x y = key_order x.node x.row y.node y.row

-- Of two keys exactly one holds: the first is less, they are the same, the first is greater. An `Ordering` is one of three, so
-- it is left to say that the middle one is equality and that the outer ones are each other's mirror.
pub record LawfulOrder {E K : Type 0} (key : E → K) (order : E → E → Ordering) : Type 0 where
  pub equal_is_same : (x y : E) → order x y ≡ Equal → key x ≡ key y
  pub same_is_equal : (x y : E) → key x ≡ key y → order x y ≡ Equal
  pub turned : (x y : E) → order x y ≡ ordering_reverse (order y x)
  pub transitive : (x y z : E) → order x y ≡ Less → order y z ≡ Less → order x z ≡ Less
  pub alike : (x y z : E) → order x y ≡ Equal → order x z ≡ order y z

abbrev pub RowsAreTotallyOrdered : Type 0
RowsAreTotallyOrdered = LawfulOrder (λ (r : Row). r) row_order

abbrev pub StockLinesAreOrderedByKey : Type 0
StockLinesAreOrderedByKey = LawfulOrder {K = ℕ × Row} (λ (l : StockLine). (l.shelf, l.row)) stock_line_order

abbrev pub ChangeLinesAreOrderedByKey : Type 0
ChangeLinesAreOrderedByKey = LawfulOrder {K = ℕ × Row} (λ (l : ChangeLine). (l.node, l.row)) change_line_order
