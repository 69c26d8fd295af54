use Rattle.std.proofs.Common.{◌≡◌, ◌+◌, ◌-◌, ◌<◌, ◌≤◌, true, [], length, take}
use Rattle.plan.specs.Lawful.{lawful, widths}
use Rattle.plan.specs.Check.{nodes, checked}
use Rattle.plan.proofs.Taken.{after}
use Rattle.plan.proofs.plan.Plan.check.Given as goal

abbrev pub invariant-loop-fields : goal.invariant-loop-fields
invariant-loop-fields l = record {
  few : l.len ≤ 16;
  node_places : length l.nodes ≡ 16;
  width_places : length l.widths ≡ 16;
  fit : lawful l.showing [] (take l.len l.nodes) ≡ true;
  wide : take l.len l.widths ≡ widths l.showing [] (take l.len l.nodes);
  some : 0 < l.len + length l.fields.rest.now;
  left : after (take l.len l.nodes) (nodes (16 - l.len) l.showing l.len (take l.len l.widths) l.fields.rest.now) ≡ checked l.showing l.bytes;
}

abbrev pub decreases-loop-fields : goal.decreases-loop-fields
decreases-loop-fields l = 16 - l.len
