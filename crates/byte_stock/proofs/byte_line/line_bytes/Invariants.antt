use Rattle.std.proofs.Common.{◌≡◌, ◌∷◌, take, replicate}
use Rattle.std.specs.List.{flat_map}
use Rattle.bag.specs.Bytes.{in_four}
use Rattle.byte_stock.specs.ByteLines.{laid}
use Rattle.byte_stock.proofs.byte_line.line_bytes.Given as goal

-- the shelf stands in front, and behind it the columns before `k`
abbrev pub invariant-loop-k : goal.invariant-loop-k
invariant-loop-k l = l.bytes ≡ laid (l.line.shelf ∷ replicate 34 0) 1 (flat_map in_four (take l.k l.line.row))
