use Rattle.std.proofs.Common.{◌≡◌, length, take, Some}
use Rattle.message.specs.Decode.{columns}
use Rattle.message.proofs.field.columns_of.Given as goal

abbrev pub invariant-loop-k : goal.invariant-loop-k
invariant-loop-k l =
    (length l.column-items ≡ 8) × (columns l.k l.map.bits l.bytes ≡ Some (take l.k l.column-items, l.rest))
