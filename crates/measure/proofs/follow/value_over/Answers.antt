use Rattle.std.proofs.Common.{reverse, ap, ◌∙◌, rules}
use Rattle.std.specs.List.{fold}
use Rattle.std.proofs.lemmas.Iterator.Consumers.{fold_from_yields_List}
use Rattle.std.proofs.lemmas.Iterator.Adapters.{YieldsList-from_rev_slice}
use Rattle.measure.proofs.FollowLaws.{with_line, value_from_the_end}
use Rattle.measure.proofs.follow.value_over.Goals as goal

pub returns : goal.returns
returns g c =
    let lines = c.args.lines.now in
    let add = with_line g.M.Measure.model c.args.column in
    fold_from_yields_List _ add c.zero.result c.fold.result c.fold.ensures.ran (YieldsList-from_rev_slice lines cc) (λ a x b q k. search rules)
    ∙ ap (λ value. fold add value (reverse lines)) c.zero.ensures
    ∙ value_from_the_end g.M.Measure.model c.args.column lines
