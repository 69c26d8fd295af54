use Rattle.std.proofs.Common.{◌≡◌, ◌*◌, ◌%◌, not, eqb, length, arith, rules}
use Rattle.message.specs.Encode.{bit_value}
use Rattle.message.proofs.Encoded.{field_bit, map_of_sum}
use Rattle.message.proofs.map.FieldMap.of.Goals as goal

pub returns : goal.returns
returns c =
    let r = c.args.record.now in
    let eight : length r.row ≡ 8 = search rules in
    let x = field_bit (not (eqb r.count 1)) c.from.result c.from.ensures in
    let y = field_bit (not (eqb r.node 0)) c.from-2.result c.from-2.ensures in
    let z = field_bit r.take c.from-3.result c.from-3.ensures in
    let count : c.from.result * 256 % 65536 ≡ 256 * bit_value (not (eqb r.count 1)) = omega arith in
    let node : c.from-2.result * 512 % 65536 ≡ 512 * bit_value (not (eqb r.node 0)) = omega arith in
    let take : c.from-3.result * 1024 % 65536 ≡ 1024 * bit_value r.take = omega arith in
    map_of_sum r c.column_bits-columns.result _ _ _ eight c.column_bits-columns.ensures.is count node take
