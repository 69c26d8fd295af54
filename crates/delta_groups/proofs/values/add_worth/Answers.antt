use Rattle.std.proofs.Common.{sym, ap, ◌∙◌}
use Rattle.bag.specs.Order.{change_line_order}
use Rattle.table.specs.Entries.{place_of}
use Rattle.table.specs.Tables.{items}
use Rattle.delta_groups.proofs.Worths.{worth_put, worth_none}
use Rattle.delta_groups.proofs.values.add_worth.Goals as goal

pub returns-then-place-values-clause-after : goal.returns-then-place-values-clause-after
returns-then-place-values-clause-after g c xs n fits i e z h =
    worth_put c.args.table.now xs n c.args.group.now g.M.Measure.model.group c.args.values.now c.in-Some.place c.index-values-place.result c.args.worth c.plus.result
    (sym c.in-Some.is ∙ c.find.ensures.answer ∙ ap (λ k. place_of change_line_order k (items c.args.table.now)) c.net_line.ensures) fits c.index-values-place.is c.plus.ensures i e z h

pub returns-in_default-clause-after : goal.returns-in_default-clause-after
returns-in_default-clause-after g c xs n fits i e z h =
    worth_none c.args.table.now xs n c.args.group.now g.M.Measure.model.group c.args.values.now c.args.worth
    (sym c.in_default.is ∙ c.find.ensures.answer ∙ ap (λ k. place_of change_line_order k (items c.args.table.now)) c.net_line.ensures) i e z h
