use Rattle.std.proofs.Common.{◌≡◌, ℕ, Bool, true, false, not, ◌||◌, sym, refl, ap, ◌∙◌, subst, arith}
use Rattle.bag.specs.Bag.{is_zero}
use Rattle.settling.specs.Keys.{key_of, changes}
use Rattle.settling.proofs.ByPlace.{count_none}
use Rattle.pending_lines.specs.ChangeLists.{has_place}
use Rattle.pending_lines.specs.PendingLines.{changes_of}
use Rattle.pending_book.specs.Sums.{sum_of}
use Rattle.pending_book.proofs.BelowAfter.{unless_both}
use Rattle.pending_book.proofs.pending.PendingBook.make_place.Goals as goal

unless : (b : Bool) → false ≡ not b → b ≡ true
unless true h = refl
unless false h = let z : ◌≡◌ {A = ℕ} 0 1 = cc in absurd (omega arith)

lacking : (b : Bool) → true ≡ not b → b ≡ false
lacking true h = let z : ◌≡◌ {A = ℕ} 0 1 = cc in absurd (omega arith)
lacking false h = refl

pub returns-then-lacks_place-clause-after : goal.returns-then-lacks_place-clause-after
unfolding sum_of
returns-then-lacks_place-clause-after g c =
    let b = c.args.self.now in
    let d = c.settle.new.self in
    let k = key_of c.args.line.now in
    let done = c.settle.ensures.after in
    record {
      same = ap (sum_of (g.S.Stock.meaning d.below)) done.empty ∙ done.below;
      place = subst (λ qs. has_place (changes qs) k ≡ true) (sym done.empty) (ap (λ z. not (is_zero z) || true) (count_none k));
      kept = λ h. absurd (unless_both (has_place (changes_of b.pending) k) h (lacking (has_place (changes_of b.pending) k) c.if-lacks_place.ensures.answer));
      settled = λ h. done;
    }

pub returns-else-lacks_place-clause-after : goal.returns-else-lacks_place-clause-after
returns-else-lacks_place-clause-after g c =
    let b = c.args.self.now in
    let k = key_of c.args.line.now in
    let place = unless (has_place (changes_of b.pending) k) c.if-lacks_place.ensures.answer in
    record { same = refl; place = place; kept = λ h. refl; settled = λ h. absurd (unless_both (has_place (changes_of b.pending) k) place h) }
