use Rattle.std.proofs.Common.{◌<◌, [], length, ap, ◌∙◌, arith}
use Rattle.std.specs.Option.{unwrap_or}
use Rattle.std.proofs.lemmas.Option.{slice_get-get_or}
use Rattle.plan.specs.Plans.{nodes_of, widths_of}
use Rattle.plan.proofs.Growth.{widths_length}
use Rattle.posting.proofs.node.side_of.Goals as goal

pub returns-clause-width : goal.returns-clause-width
returns-clause-width c = λ (h : c.args.node < length (nodes_of c.args.plan.now)).
    let l = widths_length c.args.plan.now.shown [] (nodes_of c.args.plan.now) in
    let at = slice_get-get_or (widths_of c.args.plan.now) c.args.node 0 (omega (arith, l, h)) in
    c.unwrap_or.ensures ∙ ap (λ o. unwrap_or o 0) (c.width.ensures.answer ∙ at)
