use Rattle.std.proofs.Common.{ap, ◌∙◌, subst, arith}
use Rattle.bag.specs.declared.lines.ChangeLine.{ChangeLine}
use Rattle.bag.specs.Columns.{listed}
use Rattle.bag.specs.Operators.{column_worth}
use Rattle.delta.proofs.Zeros.{no_line, line_at}
use Rattle.delta_groups.specs.Groups.{ValuesOf}
use Rattle.delta_groups.proofs.ReadLines.{no_change, lines_whole}
use Rattle.delta_groups.proofs.Worths.{values_more}
use Rattle.delta_groups.proofs.values.add_worths.Goals as goal

pub loop-line-preserved : goal.loop-line-preserved
loop-line-preserved g c k d xs of n fits none =
    let M = g.M.Measure.model in
    let is = c.args.grouping.now.columns.now in
    let j = c.args.grouping.now.measured in
    let i = c.loop-line.line-index in
    let at = line_at c.args.below.now k d i no_change of.are c.loop-line-test.true in
    let kept = c.loop-line.auto.values in
    values_more M g.met.M.Measure.lawful j is d xs i no_line c.loop-line.values c.add_worth.new.values c.image-group.result c.line_worth-worth.result at.0
    (c.image-group.ensures ∙ ap (λ (x : ChangeLine). listed is x.row) at.1)
    (c.line_worth-worth.ensures ∙ ap (λ (x : ChangeLine). column_worth M j x.row x.change) at.1)
    (c.loop-line.invariant k d xs of n fits none) (c.add_worth.ensures.after xs n (omega arith))

pub returns-clause-after : goal.returns-clause-after
returns-clause-after g c k d xs of n fits none =
    subst (λ x. ValuesOf g.M.Measure.model c.args.grouping.now.measured c.args.grouping.now.columns.now x xs c.loop-line.values)
    (lines_whole c.args.below.now k d of.are c.loop-line.line-index c.loop-line-test.false) (c.loop-line.invariant k d xs of n fits none)
