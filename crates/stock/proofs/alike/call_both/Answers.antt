use Rattle.std.proofs.Common.{Decides, ◌≡◌, sym, subst}
use Rattle.stock.proofs.SameLines.{lines_decide, next_decides}
use Rattle.stock.proofs.alike.call_both.Goals as goal

pub returns-in-Next-clause-answer : goal.returns-in-Next-clause-answer
returns-in-Next-clause-answer g c =
    let a = c.next.result in
    let b = c.next-in-Next.result in
    next_decides (g.S.Stock.meaning c.args.a.now) (g.T.Stock.meaning c.args.b.now) c.args.call.now c.in-Next.shelf c.in-Next.row a b c.eq.result
    c.in-Next.is c.next.ensures.answer c.next-in-Next.ensures.answer (subst (λ r. Decides r (a ≡ b)) (sym c.eq.ensures) (lines_decide a b))
