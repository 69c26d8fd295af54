use Rattle.std.proofs.Common.{◌≡◌, ◌^◌, ◌<◌, not, map, take}
use Rattle.bag.specs.Bag.{is_zero}
use Rattle.message.specs.Encode.{bits_value}
use Rattle.message.proofs.map.column_bits.Given as goal

abbrev pub invariant-loop-k : goal.invariant-loop-k
invariant-loop-k l = (l.bits ≡ bits_value (map (λ v. not (is_zero v)) (take l.k l.row))) × (l.bits < 2 ^ l.k)
