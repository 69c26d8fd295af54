use Rattle.std.proofs.Common.{◌-◌}
use Rattle.table.proofs.Kept.{remove_closes, remove_leaves, sound_without}
use Rattle.table.proofs.SoundTables.{sound_table}
use Rattle.table.proofs.table.Table.remove.Goals as goal

pub invariant_of-self : goal.invariant_of-self
invariant_of-self g c =
    let t = c.args.self.now in
    let law = g.met.E.Entry.lawful in
    let blank = g.E.Entry.blank in
    let k = c.args.key.now in
    let after = c.remove_at.new.run in
    let s = sound_without law blank t.run.now t.len (sound_table t) k after (t.len - 1) (remove_closes law blank t.run.now t.len (sound_table t) k c.in-Ok.place after c.in-Ok.ensures.answer c.remove_at.ensures) in
    record { within = s.within; ascending = s.ascending; blanks = s.whole }

pub returns-in-Ok-clause-after : goal.returns-in-Ok-clause-after
returns-in-Ok-clause-after g c =
    let t = c.args.self.now in
    (remove_closes g.met.E.Entry.lawful g.E.Entry.blank t.run.now t.len (sound_table t) c.args.key.now c.in-Ok.place c.remove_at.new.run c.in-Ok.ensures.answer c.remove_at.ensures).entries

pub returns-in_default-clause-after : goal.returns-in_default-clause-after
returns-in_default-clause-after g c =
    let t = c.args.self.now in
    (remove_leaves g.met.E.Entry.lawful g.E.Entry.blank t.run.now t.len (sound_table t) c.args.key.now c.in_default.field-0 c.in_default.ensures.answer).entries
