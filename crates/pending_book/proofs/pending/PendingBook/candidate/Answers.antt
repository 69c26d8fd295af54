use Rattle.std.proofs.Common.{sym, ap, ◌∙◌, subst}
use Rattle.bag.specs.Bag.{count, next}
use Rattle.bag.proofs.NextRow.{next_is_after}
use Rattle.stock.specs.Holding.{shelf_of}
use Rattle.pending_lines.specs.PendingLines.{count_at}
use Rattle.pending_book.specs.PendingNext.{earlier_of, IsCandidate}
use Rattle.pending_book.proofs.PendingWalk.{after_is_next, is_earlier}
use Rattle.pending_book.proofs.pending.PendingBook.candidate.Goals as goal

pub returns : goal.returns
returns g c =
    let stock = g.S.Stock in
    let b = c.args.self.now in
    let s = c.args.shelf in
    let r = c.args.row.now in
    let xs = shelf_of (stock.meaning b.below) s in
    let bag = ((stock.lawful b.below).bags s).0 in
    let y = c.next_row-pending.result in
    let is = c.earlier.ensures ∙ ap (λ a. earlier_of a y) c.next-below.ensures.answer in
    record {
      answer = λ low. subst (IsCandidate (λ q. count xs q) (λ q. count_at b.pending s q) r) (sym is)
          (is_earlier (λ q. count xs q) (λ q. count_at b.pending s q) r (next xs r) y (after_is_next xs r (next xs r) (next_is_after xs r bag)) c.next_row-pending.ensures.answer);
    }
