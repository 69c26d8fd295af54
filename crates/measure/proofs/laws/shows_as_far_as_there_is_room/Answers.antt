use Rattle.measure.specs.SideBySideLaws.{columns_as_far}
use Rattle.measure.proofs.laws.shows_as_far_as_there_is_room.Goals as goal

pub returns : goal.returns
returns g c = columns_as_far g.A.Measure.model g.B.Measure.model g.met.A.Measure.lawful g.met.B.Measure.lawful
