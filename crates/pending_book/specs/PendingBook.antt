-- What a pending book means, and what becomes of the stock below and of the pending lines. Assumes nothing.
--     meaning_of b             what the book b means: the stock below with the pending changes added
--     Netted b p c             c has the stock below as b has it, and the line p netted into the pending lines; a line netted to 0 is gone
--     SettledFirst b p c       the stock below c means all that b means, and p alone is pending
--     BelowAfter b answer p c      what becomes of the stock below and of the pending lines where a call that changes the line p
--                              is answered so: `refused` and `idle` calls leave the book whole as it was, `netted` if the line has a
--                              place among 64, else `settled`
-- and of how a book works:
--     Settled b c              the stock below c alone means what b does, and nothing is pending
--     Placed b p c             c means what b does, and has a place for the line p; it is b itself where that has one, else settled
--     Noted b p c              c means what b does with the change of p, which was netted in, or settled first
use Rattle.std.specs.Prelude.{◌≡◌, true, false, [], ◌∷◌, pos, Ok, Err, Result}
use Rattle.bag.specs.declared.lines.ChangeLine.{ChangeLine}
use Rattle.bag.specs.Bag.{is_zero}
use Rattle.bag.specs.Refusal.{Refusal}
use Rattle.stock.specs.declared.stock.Stock.{Ghosts}
use Rattle.stock.specs.Holding.{Holding}
use Rattle.settling.specs.Keys.{key_of, keyed}
use Rattle.pending_lines.specs.ChangeLists.{with_change, has_place}
use Rattle.pending_lines.specs.PendingLines.{held, changes_of}
use Rattle.pending_book.specs.Sums.{sum_of, with_change_of}
use Rattle.pending_book.specs.declared.pending.PendingBook.{PendingBook}

abbrev pub meaning_of : {S : Type 0} {g : Ghosts S} → PendingBook S g → Holding
meaning_of {S} {g} b = sum_of (g.meaning b.below) (held b.pending)

pub record Netted {S : Type 0} {g : Ghosts S} (b : PendingBook S g) (p : ChangeLine) (c : PendingBook S g) : Type 0 where
  pub below : c.below ≡ b.below
  pub pending : changes_of c.pending ≡ with_change p (changes_of b.pending)

pub record SettledFirst {S : Type 0} {g : Ghosts S} (b : PendingBook S g) (p : ChangeLine) (c : PendingBook S g) : Type 0 where
  pub below : g.meaning c.below ≡ meaning_of b
  pub pending : changes_of c.pending ≡ keyed p ∷ []

pub record BelowAfter {S : Type 0} {g : Ghosts S} (b : PendingBook S g) (answer : Result (Unit {0}) Refusal) (p : ChangeLine) (c : PendingBook S g) : Type 0 where
  pub refused : (e : Refusal) → answer ≡ Err e → c ≡ b
  pub idle : p.change ≡ pos 0 → c ≡ b
  pub netted : answer ≡ Ok tt → is_zero p.change ≡ false → has_place (changes_of b.pending) (key_of p) ≡ true → Netted b p c
  pub settled : answer ≡ Ok tt → is_zero p.change ≡ false → has_place (changes_of b.pending) (key_of p) ≡ false → SettledFirst b p c

pub record Settled {S : Type 0} {g : Ghosts S} (b c : PendingBook S g) : Type 0 where
  pub below : g.meaning c.below ≡ meaning_of b
  pub empty : held c.pending ≡ []

pub record Placed {S : Type 0} {g : Ghosts S} (b : PendingBook S g) (p : ChangeLine) (c : PendingBook S g) : Type 0 where
  pub same : meaning_of c ≡ meaning_of b
  pub place : has_place (changes_of c.pending) (key_of p) ≡ true
  pub kept : has_place (changes_of b.pending) (key_of p) ≡ true → c ≡ b
  pub settled : has_place (changes_of b.pending) (key_of p) ≡ false → Settled b c

pub record Noted {S : Type 0} {g : Ghosts S} (b : PendingBook S g) (p : ChangeLine) (c : PendingBook S g) : Type 0 where
  pub after : meaning_of c ≡ with_change_of (meaning_of b) p
  pub netted : has_place (changes_of b.pending) (key_of p) ≡ true → Netted b p c
  pub settled : has_place (changes_of b.pending) (key_of p) ≡ false → SettledFirst b p c
