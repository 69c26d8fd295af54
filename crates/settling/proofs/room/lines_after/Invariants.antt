use Rattle.std.proofs.Common.{◌≡◌, ◌≤◌, take}
use Rattle.bag.specs.Propagation.{appearing, vanishing}
use Rattle.settling.specs.Keys.{changes}
use Rattle.settling.proofs.LinesAfter.{all_lines}
use Rattle.settling.proofs.room.lines_after.Given as goal

-- the rows that appear and vanish by the lines so far are counted
abbrev pub invariant-loop-line : goal.invariant-loop-line
invariant-loop-line g l =
    let stock = g.S.Stock in
    (l.appear ≤ l.line-index)
    × (l.vanish ≤ l.line-index)
    × (l.appear ≡ appearing (all_lines (stock.meaning l.stock)) (changes (take l.line-index l.lines)))
    × (l.vanish ≡ vanishing (all_lines (stock.meaning l.stock)) (changes (take l.line-index l.lines)))
