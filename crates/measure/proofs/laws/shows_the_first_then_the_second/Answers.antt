use Rattle.measure.specs.SideBySideLaws.{columns_are}
use Rattle.measure.proofs.laws.shows_the_first_then_the_second.Goals as goal

pub returns : goal.returns
returns g c = columns_are g.A.Measure.model g.B.Measure.model g.met.A.Measure.lawful g.met.B.Measure.lawful
