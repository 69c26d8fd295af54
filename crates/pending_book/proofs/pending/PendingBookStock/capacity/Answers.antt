use Rattle.std.proofs.Common.{sym, ◌∙◌}
use Rattle.pending_lines.specs.PendingLines.{held}
use Rattle.pending_book.proofs.PendingSum.{capacity_sum}
use Rattle.pending_book.proofs.pending.PendingBookStock.capacity.Goals as goal

pub returns : goal.returns
returns g c =
    let b = c.args.self.now in
    record { answer = c.capacity.ensures.answer ∙ sym (capacity_sum (g.S.Stock.meaning b.below) (held b.pending)) }
