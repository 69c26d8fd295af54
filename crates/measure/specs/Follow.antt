-- The value of a bag's column over all copies, and that it follows from changes alone. Assumes nothing.
--     line_of l, lines_of ls         the lines of a sheet as rows with a signed number of copies
--     column_value M j xs            the plus, over the lines of xs, of what the copies of column j are worth
--     ValueFollowsChange M j         the value over the new bag is the value over the old one plus the value over the change
use Rattle.std.specs.Prelude.{ℕ, List, map}
use Rattle.bag.specs.declared.lines.ChangeLine.{ChangeLine}
use Rattle.bag.specs.Bag.{Line, Lines}
use Rattle.bag.specs.Group.{sum_over}
use Rattle.bag.specs.Measure.{Measure}
use Rattle.bag.specs.Operators.{column_worth}
use Rattle.bag.specs.Laws.{SumFollowsChange}

abbrev pub line_of : ChangeLine → Line
line_of l = (l.row, l.change)

abbrev pub lines_of : List ChangeLine → Lines
lines_of ls = map line_of ls

module _ {V : Type 0} (M : Measure V) (j : ℕ) where
  abbrev pub column_value : Lines → V
  column_value xs = sum_over M.group (column_worth M j) xs

  abbrev pub ValueFollowsChange : Type 0
  ValueFollowsChange = SumFollowsChange M.group (column_worth M j)
