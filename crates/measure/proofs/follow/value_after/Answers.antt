use Rattle.std.proofs.Common.{sym, ◌∙◌, ap₂}
use Rattle.measure.specs.Follow.{lines_of}
use Rattle.measure.proofs.FollowLaws.{value_follows}
use Rattle.measure.proofs.follow.value_after.Goals as goal

pub returns-clause-follows : goal.returns-clause-follows
returns-clause-follows g c before after m e =
    c.plus.ensures ∙ ap₂ g.M.Measure.model.group.plus e c.value_over.ensures
    ∙ sym (value_follows g.M.Measure.model g.met.M.Measure.lawful c.args.column before (lines_of c.args.changes.now) after m)

pub returns-clause-law : goal.returns-clause-law
returns-clause-law g c = value_follows g.M.Measure.model g.met.M.Measure.lawful c.args.column
