use Rattle.std.proofs.Common.{◌≡◌, true, not, ◌||◌, sym, ap, ◌∙◌, subst}
use Rattle.bag.specs.Bag.{is_zero}
use Rattle.stock.specs.Refusal.{told}
use Rattle.settling.specs.Keys.{key, changes}
use Rattle.settling.proofs.ByPlace.{count_none}
use Rattle.pending_lines.specs.ChangeLists.{has_place}
use Rattle.pending_book.specs.Sums.{gain_of}
use Rattle.pending_book.proofs.BelowAfter.{kept_below}
use Rattle.stock_tests.proofs.below.book_of_one.Goals as goal

pub returns : goal.returns
returns g c =
    let b = c.new-book.result in
    let s = c.args.shelf in
    let r = c.args.row.now in
    let place = subst (λ qs. has_place (changes qs) (key s r) ≡ true) (sym c.new-book.ensures.none) (ap (λ z. not (is_zero z) || true) (count_none (key s r))) in
    kept_below g.S.Stock b (gain_of s r c.args.n) c.put.new.self (told c.put.result) c.put.ensures.below place ∙ c.new-book.ensures.below
