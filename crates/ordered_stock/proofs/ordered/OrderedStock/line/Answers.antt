use Rattle.std.proofs.Common.{◌≡◌, Some, None, sym, ap, ◌∙◌}
use Rattle.bag.specs.Order.{stock_line_order}
use Rattle.table.specs.Entries.{place_of}
use Rattle.table.specs.Tables.{items}
use Rattle.table.proofs.Lookups.{place_holds, no_place}
use Rattle.ordered_stock.proofs.Asked.{key}
use Rattle.ordered_stock.proofs.ordered.OrderedStock.line.Goals as goal

pub returns-in_err-place : goal.returns-in_err-place
returns-in_err-place c =
    let xs = items c.args.self.now.table in
    let k = key c.args.shelf c.args.row.now in
    let none : None ≡ place_of stock_line_order k xs = c.in_err-place.ensures.answer ∙ ap (λ e. place_of stock_line_order e xs) c.key.ensures in
    c.from_residual.ensures ∙ sym (no_place stock_line_order k xs (sym none))

pub returns : goal.returns
returns c =
    let xs = items c.args.self.now.table in
    let k = key c.args.shelf c.args.row.now in
    let i = c.in_ok-place.place in
    let there : Some i ≡ place_of stock_line_order k xs = c.in_ok-place.ensures.answer ∙ ap (λ e. place_of stock_line_order e xs) c.key.ensures in
    c.get.ensures.answer ∙ place_holds stock_line_order k xs i (sym there)
