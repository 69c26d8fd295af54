use Rattle.std.proofs.Common.{sym, ◌∙◌}
use Rattle.measure.specs.SideBySideLaws.{shown_both}
use Rattle.measure.proofs.side_by_side.SideBySideMeasure.show.Goals as goal

pub returns : goal.returns
returns g c =
    simp (c.followed_by.ensures, c.column_count.ensures.answer)
    (shown_both g.A.Measure.model g.B.Measure.model c.args.value c.in_ok-first.first c.in_ok-second.second
    (sym c.show.ensures ∙ c.in_ok-first.was) (sym c.show-2.ensures ∙ c.in_ok-second.was))
