use Rattle.std.proofs.Common.{◌≡◌, true, [], length, take, ℤ}
use Rattle.bag.specs.Order.{Row}
use Rattle.bag.specs.Bag.{Lines, every_line}
use Rattle.stock.specs.Holding.{shelf_of}
use Rattle.delta.specs.Writing.{SameTask, Written}
use Rattle.delta_groups.specs.Groups.{RoomForGroup}
use Rattle.delta_groups.specs.Totals.{exchanges, fit_after, GroupsReady}
use Rattle.delta_groups.proofs.exchange.exchange_groups.Given as goal

-- the groups that were yielded are done, and all of them fit
abbrev pub invariant-loop-group : goal.invariant-loop-group
invariant-loop-group g l =
    let M = g.M.Measure.model in
    let n = length l.grouping.columns.now in
    let v = l.initial.writer in
    let own = shelf_of (g.S.Stock.meaning v.stock.now) v.node in
    SameTask v l.writer
    × ((xs : Lines) (delta : Row → ℤ × g.row.M-Value.Denot) → RoomForGroup M n → GroupsReady M n own delta xs l.groups l.values → Written g.S.Stock.meaning v [] →
    Written g.S.Stock.meaning l.writer (exchanges M n own delta (take (length l.yielded) xs)) × (every_line (fit_after M n own delta) (take (length l.yielded) xs) ≡ true))
