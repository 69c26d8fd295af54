use Rattle.std.proofs.Common.{ap, ◌∙◌, add-one}
use Rattle.std.specs.List.{slice_get}
use Rattle.table.specs.Tables.{items}
use Rattle.table.proofs.Searched.{found, missing}
use Rattle.table.proofs.After.{after_none, after_some}
use Rattle.table.proofs.table.Table.after.Goals as goal

pub returns-in-Ok : goal.returns-in-Ok
returns-in-Ok g c =
    let t = c.args.self.now in
    let k = c.args.key.now in
    let place = c.in-Ok.place in
    let order = g.E.Entry.order in
    record { answer = c.get.ensures.answer ∙ ap (slice_get (items t)) (add-one place) ∙ after_some order k g.met.E.Entry.lawful (items t) place t.ascending (found order k (items t) place c.in-Ok.ensures.answer) }

pub returns-in-Err : goal.returns-in-Err
returns-in-Err g c =
    let t = c.args.self.now in
    let k = c.args.key.now in
    let order = g.E.Entry.order in
    let m = missing order k (items t) c.in-Err.place c.in-Err.ensures.answer in
    record { answer = c.get-in-Err.ensures.answer ∙ ap (slice_get (items t)) m.count ∙ after_none order k g.met.E.Entry.lawful (items t) t.ascending m.place }
