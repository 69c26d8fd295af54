use Rattle.std.proofs.Common.{take, w32, SFits}
use Rattle.std.specs.List.{AllByRecursion}
use Rattle.stock.proofs.columns.read_columns.Given as goal

-- the columns before `column-index` are read
abbrev pub invariant-loop-column : goal.invariant-loop-column
invariant-loop-column l = AllByRecursion (SFits w32) (take l.column-index l.row)
