use Rattle.message.proofs.Trips.{read_then_written}
use Rattle.message.proofs.laws.read_then_written_is_the_same.Goals as goal

pub returns : goal.returns
returns c = read_then_written
