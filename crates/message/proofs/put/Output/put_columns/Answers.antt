use Rattle.std.proofs.Common.{◌+◌, ◌<◌, ◌≤◌, length, get_or, take, pos, arith, w32, SFits, rules}
use Rattle.std.specs.List.{flat_map}
use Rattle.std.proofs.lemmas.Int.{to_z-of_z}
use Rattle.message.specs.Encode.{column_bytes}
use Rattle.message.proofs.Laid.{put_nothing, put_then}
use Rattle.std.proofs.lemmas.List.Folds.{length-flat_map-take}
use Rattle.message.proofs.Joins.{joined_step}
use Rattle.message.proofs.Columns.{column_field_is}
use Rattle.message.proofs.put.Output.put_columns.Goals as goal

pub loop-column-init : goal.loop-column-init
loop-column-init c = put_nothing c.args.self.now.buffer c.args.self.now.at

pub put_field-requires : goal.put_field-requires
put_field-requires c =
    let row = c.args.row.now in
    let k = c.loop-column.column-index in
    let v = get_or row k (pos 0) in
    let f : SFits w32 v = search rules in
    let h = column_field_is v f c.to_be_bytes.result (rw (to_z-of_z w32 v f) at c.to_be_bytes.ensures) in
    let lt : k < length row = omega arith in
    let r = length-flat_map-take column_bytes row k (pos 0) lt in
    rw h (omega arith)

pub loop-column-preserved : goal.loop-column-preserved
loop-column-preserved c =
    let s = c.args.self.now in
    let row = c.args.row.now in
    let k = c.loop-column.column-index in
    let v = get_or row k (pos 0) in
    let f : SFits w32 v = search rules in
    let h = column_field_is v f c.to_be_bytes.result (rw (to_z-of_z w32 v f) at c.to_be_bytes.ensures) in
    let lt : k < length row = omega arith in
    let room : s.at + length (flat_map column_bytes (take k row)) ≤ length s.buffer.now = omega (arith, length-flat_map-take column_bytes row k (pos 0) lt) in
    rw (joined_step column_bytes row k (pos 0) lt, ← h) (put_then room c.loop-column.invariant c.put_field.ensures)
