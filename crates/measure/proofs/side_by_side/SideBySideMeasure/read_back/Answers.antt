use Rattle.measure.specs.SideBySideLaws.{read_both}
use Rattle.measure.proofs.side_by_side.SideBySideMeasure.read_back.Goals as goal

pub returns : goal.returns
returns g c = simp (c.read_back.ensures, c.read_back-2.ensures, c.columns_from-rest.ensures, c.column_count.ensures.answer) (read_both g.A.Measure.model g.B.Measure.model c.args.columns.now g.met.A.Measure.lawful.at_most_eight c.told-columns)
