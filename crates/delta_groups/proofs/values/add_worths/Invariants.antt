use Rattle.std.proofs.Common.{ℕ, ◌≤◌, [], length, take}
use Rattle.bag.specs.Bag.{Lines}
use Rattle.delta.specs.NodeChange.{LinesOf}
use Rattle.delta_groups.specs.Nets.{Nets}
use Rattle.delta_groups.specs.Groups.{ValuesOf}
use Rattle.delta_groups.proofs.values.add_worths.Given as goal

-- the lines before the place of `line` are added
abbrev pub invariant-loop-line : goal.invariant-loop-line
invariant-loop-line g l =
    (c : ℕ) (d xs : Lines) → LinesOf c d l.below → Nets l.table xs → length xs ≤ length l.initial.values → ValuesOf g.M.Measure.model l.grouping.measured l.grouping.columns.now [] xs l.initial.values →
    ValuesOf g.M.Measure.model l.grouping.measured l.grouping.columns.now (take l.line-index d) xs l.values
