use Rattle.std.proofs.Common.{◌≡◌, sym, ap, ◌∙◌, subst, ◌≤◌}
use Rattle.std.specs.List.{AllByRecursion}
use Rattle.bag.specs.declared.lines.ChangeLine.{ChangeLine}
use Rattle.stock.specs.Holding.{LawfulHolding, lines_of}
use Rattle.pending_lines.specs.PendingLines.{held}
use Rattle.pending_book.specs.Sums.{sum_of}
use Rattle.pending_book.proofs.pending.PendingBook.new.Goals as goal

pub invariant_of-result : goal.invariant_of-result
unfolding sum_of
invariant_of-result g c =
    let h = g.S.Stock.meaning c.args.stock in
    let empty = c.new.ensures.empty in
    let same : sum_of h (held c.new.result) ≡ h = ap (sum_of h) empty in
    record {
      shelves = subst (AllByRecursion (λ (l : ChangeLine). l.node ≤ 15)) (sym empty) tt;
      lawful = subst LawfulHolding (sym same) (g.S.Stock.lawful c.args.stock);
      counted = c.lines-lines.ensures.answer ∙ ap lines_of (sym same);
    }

pub returns-clause-same : goal.returns-clause-same
unfolding sum_of
returns-clause-same g c = ap (sum_of (g.S.Stock.meaning c.args.stock)) c.new.ensures.empty
