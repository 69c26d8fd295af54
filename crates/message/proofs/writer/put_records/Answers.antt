use Rattle.std.proofs.Common.{◌+◌, ◌≤◌, length, take, ap, arith}
use Rattle.message.specs.Encode.{encode, encode_all}
use Rattle.message.proofs.Encoded.{none}
use Rattle.message.proofs.Laid.{put_nothing, put_then}
use Rattle.std.proofs.lemmas.List.Folds.{length-flat_map-take}
use Rattle.message.proofs.Joins.{joined_step}
use Rattle.message.proofs.writer.put_records.Goals as goal

pub loop-record-init : goal.loop-record-init
loop-record-init c = put_nothing c.new-output.result.buffer c.new-output.result.at

pub put_record-requires : goal.put_record-requires
put_record-requires c =
    omega (arith, length-flat_map-take encode c.args.records.now c.loop-record.record-index none c.loop-record-test.true, ap length c.new-output.ensures.buffer)

pub loop-record-preserved : goal.loop-record-preserved
loop-record-preserved c =
    let rs = c.args.records.now in
    let k = c.loop-record.record-index in
    let o = c.new-output.result in
    let room : o.at + length (encode_all (take k rs)) ≤ length o.buffer.now = omega (arith, length-flat_map-take encode rs k none c.loop-record-test.true, ap length c.new-output.ensures.buffer) in
    rw (joined_step encode rs k none c.loop-record-test.true) (put_then room c.loop-record.invariant c.put_record.ensures)
