use Rattle.std.proofs.Common.{◌≡◌, ◌+◌, ◌≤◌, length}
use Rattle.bag.specs.Bag.{next, rows_after}
use Rattle.stock.specs.Holding.{shelf_of}
use Rattle.settling.specs.Keys.{key}
use Rattle.pending_lines.specs.PendingLines.{changes_of}
use Rattle.pending_book.specs.PendingBook.{meaning_of}
use Rattle.pending_book.proofs.pending.PendingBook.next_of_sum.Given as goal

-- nothing is missed up to `at`, and each turn leaves a pending line behind
abbrev pub invariant-loop-turn : goal.invariant-loop-turn
invariant-loop-turn g l =
    (next (shelf_of (meaning_of l.self) l.shelf) l.row ≡ next (shelf_of (meaning_of l.self) l.shelf) l.at)
    × (l._turn + length (rows_after (changes_of l.self.pending) (key l.shelf l.at)) ≤ 64)
