use Rattle.std.proofs.Common.{◌≡◌, Some, None, ◌∙◌, ap}
use Rattle.bag.specs.Order.{stock_line_order}
use Rattle.table.specs.Entries.{first_after}
use Rattle.table.specs.Tables.{items}
use Rattle.ordered_stock.proofs.SoundOrdered.{sound_of}
use Rattle.ordered_stock.proofs.Asked.{key, next_past, next_none, next_other, next_some}
use Rattle.ordered_stock.proofs.ordered.OrderedStockStock.next.Goals as goal

pub returns-then-shelf-gt-LAST_SHELF : goal.returns-then-shelf-gt-LAST_SHELF
returns-then-shelf-gt-LAST_SHELF c = record { answer = next_past c.args.self.now.table c.args.shelf c.args.row.now c.if-shelf-gt-LAST_SHELF.true }

pub returns-in_err-line : goal.returns-in_err-line
returns-in_err-line c =
    let a = c.args.self.now in
    let none : None ≡ first_after stock_line_order (key c.args.shelf c.args.row.now) (items a.table) =
    c.in_err-line.ensures.answer ∙ ap (λ e. first_after stock_line_order e (items a.table)) c.key.ensures in
    record { answer = c.from_residual.ensures ∙ next_none a.table c.args.shelf c.args.row.now (sound_of a) c.if-shelf-gt-LAST_SHELF.false none }

pub returns-then-line-shelf : goal.returns-then-line-shelf
returns-then-line-shelf c =
    let a = c.args.self.now in
    let l = c.in_ok-line.line in
    let there : Some l ≡ first_after stock_line_order (key c.args.shelf c.args.row.now) (items a.table) =
    c.in_ok-line.ensures.answer ∙ ap (λ e. first_after stock_line_order e (items a.table)) c.key.ensures in
    record { answer = next_other a.table c.args.shelf c.args.row.now (sound_of a) c.if-shelf-gt-LAST_SHELF.false l there c.if-line-shelf.true }

pub returns : goal.returns
returns c =
    let a = c.args.self.now in
    let l = c.in_ok-line.line in
    let there : Some l ≡ first_after stock_line_order (key c.args.shelf c.args.row.now) (items a.table) =
    c.in_ok-line.ensures.answer ∙ ap (λ e. first_after stock_line_order e (items a.table)) c.key.ensures in
    record { answer = next_some a.table c.args.shelf c.args.row.now (sound_of a) c.if-shelf-gt-LAST_SHELF.false l there c.if-line-shelf.false }
