-- What the lines of a pending book mean: signed changes by shelf and row, as one canonical list. Assumes nothing.
-- The node of a line is the shelf that it changes.
--     held p                   the lines in use
--     changes_of p             their changes, by keys
--     count_at p s r           the change of the row r on shelf s
use Rattle.std.specs.Prelude.{ℕ, List, take, ℤ}
use Rattle.bag.specs.declared.lines.ChangeLine.{ChangeLine}
use Rattle.bag.specs.Order.{Row}
use Rattle.bag.specs.Bag.{Lines}
use Rattle.settling.specs.Keys.{changes, change_at}
use Rattle.pending_lines.specs.declared.pending_lines.PendingLines.{PendingLines}

abbrev pub held : PendingLines → List ChangeLine
held p = take p.len p.lines

abbrev pub changes_of : PendingLines → Lines
changes_of p = changes (held p)

abbrev pub count_at : PendingLines → ℕ → Row → ℤ
count_at p s r = change_at (held p) s r
