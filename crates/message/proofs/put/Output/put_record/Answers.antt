use Rattle.std.proofs.Common.{◌≡◌, ◌++◌, [], ◌∷◌, length, ap, refl, ◌∙◌, arith, length-append}
use Rattle.std.specs.List.{flat_map}
use Rattle.std.proofs.lemmas.List.{append_assoc}
use Rattle.message.specs.Buffer.{Put}
use Rattle.bag.specs.Bytes.{in_two}
use Rattle.message.specs.Encode.{map_of, column_bytes, count_bytes, node_bytes, encode}
use Rattle.message.proofs.Laid.{put_then}
use Rattle.message.proofs.Encoded.{length_encode, absent_or_whole}
use Rattle.message.proofs.put.Output.put_record.Goals as goal

pub put-requires : goal.put-requires
put-requires c = omega (arith, length_encode c.args.record.now, ap length c.to_be_bytes.ensures)

pub put_columns-requires : goal.put_columns-requires
put_columns-requires c = omega (arith, length_encode c.args.record.now, ap length c.to_be_bytes.ensures)

pub put_field-requires : goal.put_field-requires
put_field-requires c =
    let r = c.args.record.now in
    let n = ap length (absent_or_whole r.count 1 c.to_be_bytes-2.result (in_two r.count) c.to_be_bytes-2.ensures) in
    omega (arith, length_encode r, ap length c.to_be_bytes.ensures)

pub put_field-requires-2 : goal.put_field-requires-2
put_field-requires-2 c =
    let r = c.args.record.now in
    let n = ap length (absent_or_whole r.count 1 c.to_be_bytes-2.result (in_two r.count) c.to_be_bytes-2.ensures) in
    let s = ap length (absent_or_whole r.node 0 (r.node ∷ []) (r.node ∷ []) refl) in
    omega (arith, length_encode r, ap length c.to_be_bytes.ensures)

pub returns : goal.returns
unfolding encode
returns c =
    let r = c.args.record.now in
    let b = c.args.self.now.buffer in
    let at = c.args.self.now.at in
    let n = length_encode r in
    let xs = in_two (map_of r) in
    let ys = flat_map column_bytes r.row in
    let zs = count_bytes r.count in
    let m : c.to_be_bytes.result ≡ xs = c.to_be_bytes.ensures ∙ ap in_two c.of.ensures in
    let p1 : Put b at xs c.put.new.self.buffer c.put.new.self.at = rw m at c.put.ensures in
    let k = absent_or_whole r.count 1 c.to_be_bytes-2.result (in_two r.count) c.to_be_bytes-2.ensures in
    let p3 : Put c.put_columns.new.self.buffer c.put_columns.new.self.at zs c.put_field.new.self.buffer c.put_field.new.self.at = rw k at c.put_field.ensures in
    let s = absent_or_whole r.node 0 (r.node ∷ []) (r.node ∷ []) refl in
    let p4 : Put c.put_field.new.self.buffer c.put_field.new.self.at (node_bytes r.node) c.put_field-2.new.self.buffer c.put_field-2.new.self.at = rw s at c.put_field-2.ensures in
    let q2 = put_then (omega (arith, n)) p1 c.put_columns.ensures in
    let q3 = put_then (omega (arith, n, length-append xs ys)) q2 p3 in
    let q4 = put_then (omega (arith, n, length-append xs ys, length-append (xs ++ ys) zs)) q3 p4 in
    simp append_assoc at q4
