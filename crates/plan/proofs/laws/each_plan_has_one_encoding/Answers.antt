use Rattle.plan.proofs.Wholes.{one_encoding}
use Rattle.plan.proofs.laws.each_plan_has_one_encoding.Goals as goal

pub returns : goal.returns
returns c = one_encoding
