-- Lines added up row by row in a work space. It describes how code works, not what an operator means. Assumes nothing.
--     Ascends xs          the rows of xs strictly ascend; numbers of 0 are allowed
--     added r n xs        n more copies of r among the lines xs; a row whose copies come to 0 stays
--     gathered ys         the lines ys added up one by one
--     SmallLines ys       every number is within ±65,535
--     Nets t xs           the entries of the table t are the lines xs
use Rattle.std.specs.Prelude.{◌≡◌, ◌≤◌, [], ◌∷◌, ℤ, ◌+ℤ◌, unsigned_abs}
use Rattle.std.specs.List.{AllByRecursion}
use Rattle.bag.specs.Order.{Row, row_order}
use Rattle.bag.specs.Bag.{Lines, Before}
use Rattle.table.specs.LineTables.{ChangeTable}
use Rattle.table.specs.Order.{by_order}
use Rattle.table.specs.Tables.{items}
use Rattle.sheet.specs.Sheets.{of_node}

abbrev pub Ascends : Lines → Type 0
Ascends [] = Unit {0}
Ascends (e ∷ xs) = Before e.0 xs × Ascends xs

unfoldable pub added : Row → ℤ → Lines → Lines
added r n [] = (r, n) ∷ []
added r n (e ∷ xs) = by_order (row_order r e.0) ((r, n) ∷ (e ∷ xs)) ((r, e.1 +ℤ n) ∷ xs) (e ∷ added r n xs)

unfoldable pub gathered_onto : Lines → Lines → Lines
gathered_onto xs [] = xs
gathered_onto xs (e ∷ ys) = gathered_onto (added e.0 e.1 xs) ys

abbrev pub gathered : Lines → Lines
gathered ys = gathered_onto [] ys

abbrev pub SmallLines : Lines → Type 0
SmallLines ys = AllByRecursion (λ e. unsigned_abs e.1 ≤ 65535) ys

pub record Nets (t : ChangeTable) (xs : Lines) : Type 0 where
  pub entries : items t ≡ of_node 0 xs
  pub ascend : Ascends xs
