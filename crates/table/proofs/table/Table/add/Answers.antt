use Rattle.table.specs.Tables.{items, capacity}
use Rattle.table.proofs.Kept.{add_replaces, sound_with, accepts_present}
use Rattle.table.proofs.SoundTables.{sound_table}
use Rattle.std.proofs.Common.{set}
use Rattle.table.proofs.table.Table.add.Goals as goal

pub invariant_of-self : goal.invariant_of-self
invariant_of-self g c =
    let t = c.args.self.now in
    let law = g.met.E.Entry.lawful in
    let blank = g.E.Entry.blank in
    let e = c.args.entry in
    let i = c.in-Ok.place in
    let s = sound_with law blank t.run.now t.len (sound_table t) e (set t.run.now i e) t.len (add_replaces law blank t.run.now t.len (sound_table t) e i c.in-Ok.ensures.answer) in
    record { within = s.within; ascending = s.ascending; blanks = s.whole }

pub returns-in-Ok-clause-answer : goal.returns-in-Ok-clause-answer
returns-in-Ok-clause-answer g c =
    let t = c.args.self.now in
    accepts_present g.met.E.Entry.lawful (capacity t) c.args.entry (items t) t.ascending c.in-Ok.place c.in-Ok.ensures.answer

pub returns-in-Ok-clause-after : goal.returns-in-Ok-clause-after
returns-in-Ok-clause-after g c =
    let t = c.args.self.now in
    (add_replaces g.met.E.Entry.lawful g.E.Entry.blank t.run.now t.len (sound_table t) c.args.entry c.in-Ok.place c.in-Ok.ensures.answer).entries
