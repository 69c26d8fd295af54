use Rattle.std.proofs.Common.{◌≡◌, ◌-◌, length}
use Rattle.table.specs.Tables.{SameRun}
use Rattle.plan.specs.Plans.{nodes_of}
use Rattle.nets.proofs.Gathering.{Reached}
use Rattle.nets.proofs.gather.add_up.Given as goal

abbrev pub invariant-loop-movement : goal.invariant-loop-movement
invariant-loop-movement l =
    (l.nets.table.ghost_name ≡ l.initial.nets.table.ghost_name)
    × SameRun l.initial.nets.table.now l.nets.table.now
    × (l.reader.bytes.now ≡ l.message)
    × (l.place ≡ l.reader.at)
    × Reached (nodes_of l.plan) l.message l.initial.nets.table.now l.nets.table.now l.reader.at l.reader.seen

abbrev pub decreases-loop-movement : goal.decreases-loop-movement
decreases-loop-movement l = length l.message - l.reader.at
