use Rattle.std.proofs.Common.{ℕ, ◌≤◌, [], length, take}
use Rattle.bag.specs.Columns.{listed}
use Rattle.bag.specs.Bag.{Lines}
use Rattle.bag.specs.Operators.{map_rows}
use Rattle.table.specs.Tables.{capacity, SameRun}
use Rattle.delta.specs.NodeChange.{LinesOf}
use Rattle.delta_groups.specs.Nets.{gathered, SmallLines, Nets}
use Rattle.delta_groups.proofs.images.gather_images.Given as goal

-- the lines before the place of `line` are added up
abbrev pub invariant-loop-line : goal.invariant-loop-line
invariant-loop-line l =
    SameRun l.initial.table l.table
    × ((c : ℕ) (d : Lines) → LinesOf c d l.below → SmallLines d → length d ≤ capacity l.initial.table → Nets l.initial.table [] → Nets l.table (gathered (map_rows (listed l.columns) (take l.line-index d))))
