use Rattle.plan.proofs.Wholes.{encodings_are_accepted}
use Rattle.plan.proofs.laws.encodings_are_accepted.Goals as goal

pub returns : goal.returns
returns c = encodings_are_accepted
