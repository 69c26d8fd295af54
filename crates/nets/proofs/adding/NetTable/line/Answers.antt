use Rattle.std.proofs.Common.{sym, ◌∙◌}
use Rattle.bag.specs.Order.{change_line_order}
use Rattle.table.specs.Tables.{items}
use Rattle.table.proofs.Lookups.{place_holds, no_place}
use Rattle.nets.proofs.adding.NetTable.line.Goals as goal

pub returns-in_err-place : goal.returns-in_err-place
returns-in_err-place c = c.from_residual.ensures ∙ sym (no_place change_line_order c.args.key.now (items c.args.self.now.table.now) (sym c.in_err-place.ensures.answer))

pub returns : goal.returns
returns c = c.get.ensures.answer ∙ place_holds change_line_order c.args.key.now (items c.args.self.now.table.now) c.in_ok-place.place (sym c.in_ok-place.ensures.answer)
