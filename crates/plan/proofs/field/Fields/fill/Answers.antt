use Rattle.std.proofs.Common.{length, arith}
use Rattle.std.proofs.lemmas.Result.{err_from_is_err_and}
use Rattle.plan.specs.Refusal.{cause_number}
use Rattle.plan.proofs.Fillings.{filling_none, filling_more, filling_stop, filling_all}
use Rattle.plan.proofs.field.Fields.fill.Goals as goal

pub loop-place-init : goal.loop-place-init
loop-place-init g c = λ reader reads. filling_none reader (length c.args.places.now) c.args.self.now.rest.now c.args.places.now

pub loop-place-preserved : goal.loop-place-preserved
loop-place-preserved g c = λ reader reads.
    let l = c.loop-place in
    filling_more reader (length c.args.places.now) c.args.self.now.rest.now l.place-index l.place-items l.self.rest.now (l.invariant reader reads) c.in_ok-place.field-0 c.read.new.arg2.rest.now (omega arith) (omega arith) (reads _ _ _ c.in_ok-place.ensures)

pub returns-in_err-place : goal.returns-in_err-place
returns-in_err-place g c = λ reader reads.
    let l = c.loop-place in
    let p = err_from_is_err_and c.from_residual.result c.from_residual.ensures.1 in
    let s = filling_stop reader (length c.args.places.now) c.args.self.now.rest.now l.place-index l.place-items l.self.rest.now (l.invariant reader reads) (cause_number c.in_err-place.field-0.0) (omega arith) (reads _ _ _ c.in_err-place.ensures) in
    rw (p.1, p.2) s

pub returns : goal.returns
returns g c = λ reader reads.
    let l = c.loop-place in
    filling_all reader (length c.args.places.now) c.args.self.now.rest.now l.place-index l.place-items l.self.rest.now (l.invariant reader reads) (omega arith) (omega arith)
