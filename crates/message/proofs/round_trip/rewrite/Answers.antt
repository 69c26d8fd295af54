use Rattle.std.proofs.Common.{ℕ, List, Result, ap, ◌∙◌, rules}
use Rattle.std.proofs.ByRecursion.{All-from_get_or}
use Rattle.std.proofs.lemmas.Result.{err_from_is_err_and}
use Rattle.bag.specs.Bytes.{Bytes}
use Rattle.message.specs.Listed.{items}
use Rattle.message.specs.Refusal.{Told}
use Rattle.message.specs.Writing.{Written, filled, written}
use Rattle.message.specs.RoundTrip.{by_writer, unless_refused, rewritten}
use Rattle.message.proofs.Trips.{rewritten_is}
use Rattle.message.proofs.round_trip.rewrite.Goals as goal

-- what is told of what the writer did
abbrev told : Written → Result ℕ Told × List ℕ
told w = (by_writer w.0, w.1)

pub returns-in_err-list : goal.returns-in_err-list
unfolding rewritten
returns-in_err-list c =
    let p = err_from_is_err_and c.from_residual.result c.from_residual.ensures.1 in
    let b = ap (λ o. unless_refused o (filled c.args.message.now c.args.buffer.now) c.args.buffer.now) c.in_err-list.ensures in
    rw (p.1, p.2) b

pub returns-in_err-length : goal.returns-in_err-length
returns-in_err-length c =
    let p = err_from_is_err_and c.from_residual-in_err-length.result c.from_residual-in_err-length.ensures.1 in
    let m = c.args.message.now in
    let b = c.args.buffer.now in
    let rs = items c.in_ok-list.list in
    let h : Bytes m = All-from_get_or _ m 0 (λ i l. search rules) in
    let r = c.records.ensures.answer in
    rw (p.1, p.2) (ap told (c.in_err-length.ensures.answer ∙ ap (λ l. written l b) r) ∙ rewritten_is m b rs h c.in_ok-list.ensures)

pub returns : goal.returns
returns c =
    let m = c.args.message.now in
    let b = c.args.buffer.now in
    let rs = items c.in_ok-list.list in
    let h : Bytes m = All-from_get_or _ m 0 (λ i l. search rules) in
    let r = c.records.ensures.answer in
    ap told (c.in_ok-length.ensures.answer ∙ ap (λ l. written l b) r) ∙ rewritten_is m b rs h c.in_ok-list.ensures
