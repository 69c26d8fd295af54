-- What becomes of the stock below a book and of its pending lines, call by call. Assumes nothing.
--     first_line          a change noted where nothing is pending is the only one
--     unless_both         a test is not both
--     netted_from         a change added to the pending lines of the same book
--     kept_below          where the line has a place the stock below stays, however the call is answered
use Rattle.std.proofs.Common.{◌≡◌, ℕ, Bool, true, false, [], ◌∷◌, Ok, Err, Result, refl, ap, ◌∙◌, arith}
use Rattle.bag.specs.Bag.{is_zero, add_copies}
use Rattle.bag.specs.Refusal.{Refusal}
use Rattle.bag.proofs.Numbers.{zero_is}
use Rattle.stock.specs.declared.stock.Stock.{Ghosts}
use Rattle.bag.specs.declared.lines.ChangeLine.{ChangeLine}
use Rattle.settling.specs.Keys.{key_of, keyed}
use Rattle.pending_lines.specs.ChangeLists.{with_change, has_place}
use Rattle.pending_lines.specs.PendingLines.{changes_of}
use Rattle.pending_book.specs.declared.pending.PendingBook.{PendingBook}
use Rattle.pending_book.specs.PendingBook.{Netted, BelowAfter}

pub first_line : (p : ChangeLine) → is_zero p.change ≡ false → with_change p [] ≡ keyed p ∷ []
unfolding add_copies
first_line p some = rw some

pub unless_both : (b : Bool) → b ≡ true → b ≡ false → ⊥
unless_both b t f = let z : ◌≡◌ {A = ℕ} 0 1 = cc in omega arith

module _ {S : Type 0} (g : Ghosts S) (b : PendingBook S g) (p : ChangeLine) where
  pub netted_from : (d : PendingBook S g) {c : PendingBook S g} → d ≡ b → c.below ≡ d.below → changes_of c.pending ≡ with_change p (changes_of d.pending) → Netted b p c
  netted_from d same below pending =
      record { below = below ∙ ap (λ (x : PendingBook S g). x.below) same; pending = pending ∙ ap (λ (x : PendingBook S g). with_change p (changes_of x.pending)) same }

  pub kept_below : (c : PendingBook S g) (a : Result (Unit {0}) Refusal) → BelowAfter b a p c → has_place (changes_of b.pending) (key_of p) ≡ true → c.below ≡ b.below
  kept_below c (Err e) left place = ap (λ (x : PendingBook S g). x.below) (left.refused e refl)
  kept_below c (Ok u) left place = by (is_zero p.change) refl
    where
      by : (i : Bool) → is_zero p.change ≡ i → c.below ≡ b.below
      by true z = ap (λ (x : PendingBook S g). x.below) (left.idle (zero_is p.change z))
      by false z = (left.netted refl z place).below
