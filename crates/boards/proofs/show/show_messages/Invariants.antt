use Rattle.std.proofs.Common.{◌+◌, ◌≤◌, length}
use Rattle.boards.proofs.show.show_messages.Given as goal

abbrev pub invariant-loop-message : goal.invariant-loop-message
invariant-loop-message l = l.number + length l.left ≤ length l.messages + 1

abbrev pub decreases-loop-message : goal.decreases-loop-message
decreases-loop-message l = length l.left
