use Rattle.message.proofs.Trips.{written_then_read}
use Rattle.message.proofs.laws.written_then_read_is_the_same.Goals as goal

pub returns : goal.returns
returns c = written_then_read
