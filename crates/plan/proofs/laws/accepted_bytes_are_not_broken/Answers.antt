use Rattle.plan.proofs.Breaks.{never_both}
use Rattle.plan.proofs.laws.accepted_bytes_are_not_broken.Goals as goal

pub returns : goal.returns
returns c = never_both
