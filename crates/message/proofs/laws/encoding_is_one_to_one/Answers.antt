use Rattle.message.proofs.Trips.{one_to_one}
use Rattle.message.proofs.laws.encoding_is_one_to_one.Goals as goal

pub returns : goal.returns
returns c = one_to_one
