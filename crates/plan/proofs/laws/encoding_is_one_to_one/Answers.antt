use Rattle.plan.proofs.Wholes.{one_to_one}
use Rattle.plan.proofs.laws.encoding_is_one_to_one.Goals as goal

pub returns : goal.returns
returns c = one_to_one
