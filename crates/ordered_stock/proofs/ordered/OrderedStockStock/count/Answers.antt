use Rattle.std.proofs.Common.{◌≡◌, sym, ap, ◌∙◌, refl, rules}
use Rattle.ordered_stock.proofs.OnShelf.{found_count}
use Rattle.ordered_stock.proofs.SoundOrdered.{copies_found}
use Rattle.ordered_stock.proofs.Asked.{key, copies_past}
use Rattle.ordered_stock.proofs.ordered.OrderedStockStock.count.Goals as goal

pub returns-then-shelf-gt-LAST_SHELF : goal.returns-then-shelf-gt-LAST_SHELF
returns-then-shelf-gt-LAST_SHELF c = record { answer = copies_past c.args.self.now.table c.args.shelf c.args.row.now c.if-shelf-gt-LAST_SHELF.true }

pub returns : goal.returns
returns c =
    let s = c.args.self.now in
    let found : c.map_or.result ≡ found_count c.line.result = search rules in
    record {
      answer = found ∙ ap found_count c.line.ensures ∙ sym (copies_found s.table s.lines c.args.shelf c.args.row.now c.if-shelf-gt-LAST_SHELF.false (key c.args.shelf c.args.row.now) refl refl);
    }
