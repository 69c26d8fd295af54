use Rattle.std.proofs.Common.{◌≡◌, ◌≤◌, [], pos, ◌+ℤ◌, nat_abs, sym, ap, ◌∙◌, subst, arith}
use Rattle.std.proofs.lemmas.List.{get_or_past}
use Rattle.std.proofs.lemmas.Int.{ints}
use Rattle.bag.specs.Bag.{Lines, count}
use Rattle.stock.specs.Holding.{shelf_of}
use Rattle.settling.proofs.ByPlace.{count_none}
use Rattle.pending_lines.specs.ChangeLists.{IsCount}
use Rattle.pending_lines.specs.PendingLines.{held, count_at}
use Rattle.pending_book.specs.PendingBook.{meaning_of}
use Rattle.pending_book.proofs.PendingSum.{copies_sum, sum_is_count}
use Rattle.pending_book.proofs.pending.PendingBook.sum_at.Goals as goal

pub returns-then-shelf-gt-LAST_SHELF : goal.returns-then-shelf-gt-LAST_SHELF
returns-then-shelf-gt-LAST_SHELF g c =
    let b = c.args.self.now in
    let six = b.lawful.sixteen in
    let past : shelf_of (meaning_of b) c.args.shelf ≡ [] = get_or_past (meaning_of b).shelves c.args.shelf [] (omega (arith, six)) in
    sym (ap nat_abs (ap (λ (xs : Lines). count xs c.args.row.now) past ∙ count_none c.args.row.now))

pub returns : goal.returns
returns g c =
    let b = c.args.self.now in
    let s = c.args.shelf in
    let r = c.args.row.now in
    let h = g.S.Stock.meaning b.below in
    let n = c.count-below.ensures.answer in
    let low : s ≤ 15 = omega arith in
    let e = copies_sum h (held b.pending) (g.S.Stock.lawful b.below) b.lawful s low r in
    let f = sum_is_count h (held b.pending) (g.S.Stock.lawful b.below) b.lawful s low r in
    let v = c.added_to.ensures.answer (subst (λ m. IsCount (pos m +ℤ count_at b.pending s r)) (sym n) f) in
    omega (arith, ints, n, e, v)
