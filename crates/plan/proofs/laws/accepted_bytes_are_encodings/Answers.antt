use Rattle.plan.proofs.Wholes.{accepted_are_encodings}
use Rattle.plan.proofs.laws.accepted_bytes_are_encodings.Goals as goal

pub returns : goal.returns
returns c = accepted_are_encodings
