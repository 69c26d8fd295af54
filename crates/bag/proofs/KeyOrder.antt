-- Lines are in a total order by a number and a row. Assumes nothing.
--     key_is_total                     the order of whatever has a number and a row
use Rattle.std.proofs.Common.{ℕ, sym, ap, ◌∙◌}
use Rattle.std.proofs.lemmas.Map.Lookups.{exact_unsigned, exact_pairs}
use Rattle.std.specs.Cmp.{nat_cmp_total, int_cmp_total, then_total, on_total, tied_itself}
use Rattle.std.specs.Cmp.Lexicographic.{lists_total}
use Rattle.std.specs.Ordering.{nat_cmp}
use Rattle.bag.specs.Order.{Row, row_order, key_order, LawfulOrder, StockLinesAreOrderedByKey, ChangeLinesAreOrderedByKey}
use Rattle.bag.specs.RowOrder.{order_equal}

pub key_is_total : {E : Type 0} (number : E → ℕ) (row : E → Row) → LawfulOrder {K = ℕ × Row} (λ x. (number x, row x)) (λ x y. key_order (number x) (row x) (number y) (row y))
unfolding row_order
key_is_total number row =
    let o = then_total (on_total number nat_cmp_total) (on_total row (lists_total int_cmp_total)) in
    record {
      equal_is_same = λ x y. exact_pairs nat_cmp row_order exact_unsigned order_equal (number x, row x) (number y, row y);
      same_is_equal = λ x y e. ap (λ (k : ℕ × Row). key_order (number x) (row x) k.0 k.1) (sym e) ∙ tied_itself o x;
      turned = o.antisymm;
      transitive = o.trans;
      alike = o.congr;
    }

pub stock_lines_are_ordered_by_key : StockLinesAreOrderedByKey
stock_lines_are_ordered_by_key = key_is_total (λ l. l.shelf) (λ l. l.row)

pub change_lines_are_ordered_by_key : ChangeLinesAreOrderedByKey
change_lines_are_ordered_by_key = key_is_total (λ l. l.node) (λ l. l.row)
