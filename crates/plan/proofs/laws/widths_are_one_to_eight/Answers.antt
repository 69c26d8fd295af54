use Rattle.plan.proofs.Growth.{widths_one_to_eight}
use Rattle.plan.proofs.laws.widths_are_one_to_eight.Goals as goal

pub returns : goal.returns
returns c = widths_one_to_eight
