use Rattle.std.proofs.Common.{◌≤◌, length, sym, ap, rules}
use Rattle.std.proofs.lemmas.Result.{err_from_is_err_and}
use Rattle.message.specs.Refusal.{read_refusal}
use Rattle.message.specs.Listed.{items}
use Rattle.message.specs.Writing.{Written}
use Rattle.message.specs.RoundTrip.{same_records, reread}
use Rattle.message.proofs.Trips.{room_of, reread_is, never_refused}
use Rattle.message.proofs.round_trip.reread.Goals as goal

pub returns-in_err-length : goal.returns-in_err-length
unfolding reread
returns-in_err-length c =
    let p = err_from_is_err_and c.from_residual.result c.from_residual.ensures.1 in
    let b = ap (λ (w : Written). (same_records c.args.records.now w.0, w.1)) c.in_err-length.ensures.answer in
    rw (p.1, p.2) b

pub slice_bounds-read-end : goal.slice_bounds-read-end
slice_bounds-read-end c =
    let l : c.in_ok-length.length ≤ length c.write.new.buffer = room_of c.args.records.now c.in_ok-length.length c.args.buffer.now c.write.new.buffer (sym c.in_ok-length.ensures.answer) in
    search rules

pub returns-in_err-list : goal.returns-in_err-list
returns-in_err-list c =
    let f = c.in_ok-length.ensures in
    absurd (never_refused c.args.records.now c.in_ok-length.length c.args.buffer.now c.write.new.buffer f.range (sym f.answer) (read_refusal c.in_err-list.field-0.0) c.in_err-list.ensures)

pub returns : goal.returns
returns c =
    let f = c.in_ok-length.ensures in
    reread_is c.args.records.now c.in_ok-length.length c.args.buffer.now c.write.new.buffer f.range (sym f.answer) (items c.in_ok-list.list) c.in_ok-list.ensures
