use Rattle.std.proofs.Common.{◌≤◌, ◌∙◌}
use Rattle.delta_groups.proofs.GroupRows.{below_is}
use Rattle.delta_groups.proofs.group.below.Goals as goal

pub returns : goal.returns
returns c = λ (h : c.args.width ≤ 8). c.followed_by.ensures ∙ below_is c.args.width c.args.group.now c.told-group h
