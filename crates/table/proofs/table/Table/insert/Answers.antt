use Rattle.std.proofs.Common.{◌+◌, ◌∙◌, sym, arith}
use Rattle.std.proofs.lemmas.List.{length-take-le}
use Rattle.table.specs.Tables.{items, capacity}
use Rattle.table.proofs.Kept.{add_inserts, sound_with, goes_in, accepts_room, refuses_full}
use Rattle.table.proofs.SoundTables.{sound_table}
use Rattle.table.proofs.table.Table.insert.Goals as goal

pub insert_at-requires : goal.insert_at-requires
insert_at-requires g c =
    let t = c.args.self.now in
    let l = length-take-le t.len t.run.now t.within in
    let fits = goes_in g.met.E.Entry.lawful (capacity t) c.args.entry (items t) t.ascending c.args.place c.requires in
    let within = t.within in
    let room = c.if-len-self.false in
    (omega arith, omega arith)

pub returns-then-len-self-clause-answer : goal.returns-then-len-self-clause-answer
returns-then-len-self-clause-answer g c =
    let t = c.args.self.now in
    refuses_full g.met.E.Entry.lawful (capacity t) c.args.entry (items t) t.ascending c.args.place t.len c.requires (sym (length-take-le t.len t.run.now t.within)) c.if-len-self.true

pub invariant_of-self : goal.invariant_of-self
invariant_of-self g c =
    let t = c.args.self.now in
    let law = g.met.E.Entry.lawful in
    let blank = g.E.Entry.blank in
    let e = c.args.entry in
    let after = c.insert_at.new.run in
    let s = sound_with law blank t.run.now t.len (sound_table t) e after (t.len + 1) (add_inserts law blank t.run.now t.len (sound_table t) e c.args.place after c.requires c.if-len-self.false c.insert_at.ensures) in
    record { within = s.within; ascending = s.ascending; blanks = s.whole }

pub returns-clause-answer : goal.returns-clause-answer
returns-clause-answer g c =
    let t = c.args.self.now in
    accepts_room g.met.E.Entry.lawful (capacity t) c.args.entry (items t) t.ascending c.args.place c.requires (λ h. c.if-len-self.false (sym (length-take-le t.len t.run.now t.within) ∙ h))

pub returns-clause-after : goal.returns-clause-after
returns-clause-after g c =
    let t = c.args.self.now in
    (add_inserts g.met.E.Entry.lawful g.E.Entry.blank t.run.now t.len (sound_table t) c.args.entry c.args.place c.insert_at.new.run c.requires c.if-len-self.false c.insert_at.ensures).entries
