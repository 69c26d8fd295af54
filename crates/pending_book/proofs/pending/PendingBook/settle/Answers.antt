use Rattle.std.proofs.Common.{◌≡◌, ◌≤◌, sym, ap, ◌∙◌, subst}
use Rattle.std.specs.List.{AllByRecursion}
use Rattle.bag.specs.declared.lines.ChangeLine.{ChangeLine}
use Rattle.stock.specs.Holding.{LawfulHolding, lines_of}
use Rattle.settling.specs.Leading.{Leads}
use Rattle.pending_lines.specs.PendingLines.{held}
use Rattle.pending_book.specs.Sums.{sum_of}
use Rattle.pending_book.specs.PendingBook.{meaning_of}
use Rattle.pending_book.proofs.PendingSum.{leads_to_sum}
use Rattle.pending_book.proofs.pending.PendingBook.settle.Goals as goal

arrived : (g : _) (c : goal.After-new-self g) → g.S.Stock.meaning c.settle.new.stock ≡ meaning_of c.args.self.now
arrived g c =
    let b = c.args.self.now in
    let h = g.S.Stock.meaning b.below in
    let ps = held b.pending in
    c.settle.ensures.after (sum_of h ps)
    (subst (λ ls. Leads h ls (sum_of h ps)) (sym c.entries.ensures.answer) (leads_to_sum h ps (g.S.Stock.lawful b.below) b.lawful b.pending.in_order b.shelves))

pub invariant_of-self : goal.invariant_of-self
unfolding sum_of
invariant_of-self g c =
    let b = c.args.self.now in
    let h = g.S.Stock.meaning c.settle.new.stock in
    let empty = c.new-self.ensures.empty in
    let same : sum_of h (held c.new-self.result) ≡ meaning_of b = ap (sum_of h) empty ∙ arrived g c in
    record {
      shelves = subst (AllByRecursion (λ (l : ChangeLine). l.node ≤ 15)) (sym empty) tt;
      lawful = subst LawfulHolding (sym same) b.lawful;
      counted = b.counted ∙ ap lines_of (sym same);
    }

pub returns-clause-after : goal.returns-clause-after
returns-clause-after g c = record { below = arrived g c.before; empty = c.new-self.ensures.empty }
