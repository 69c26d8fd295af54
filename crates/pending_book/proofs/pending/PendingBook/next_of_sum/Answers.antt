use Rattle.std.proofs.Common.{◌≡◌, ℕ, zero, suc, ◌<◌, ◌≤◌, false, [], ℤ, pos, ◌+ℤ◌, Some, Option, sym, refl, ap, ◌∙◌, arith}
use Rattle.std.proofs.lemmas.List.{get_or_past, length-map, length-take}
use Rattle.std.specs.Option.{option_map}
use Rattle.bag.specs.Order.{Row}
use Rattle.bag.specs.Bag.{Lines, is_zero, count, next}
use Rattle.stock.specs.declared.stock.Stock.{Ghosts}
use Rattle.stock.specs.Holding.{shelf_of, copies, row_and_count}
use Rattle.settling.specs.Keys.{key, keyed}
use Rattle.settling.proofs.KeyOrder.{key_same}
use Rattle.settling.proofs.HoldingCounts.{copies_are}
use Rattle.pending_lines.specs.PendingLines.{held, changes_of, count_at}
use Rattle.pending_book.specs.declared.pending.PendingBook.{PendingBook}
use Rattle.pending_book.specs.PendingBook.{meaning_of}
use Rattle.pending_book.proofs.PendingSum.{count_sum}
use Rattle.pending_book.proofs.PendingWalk.{walk_end, walk_found, walk_on, rows_after_short, walk_shorter, cancelled}
use Rattle.pending_book.proofs.pending.PendingBook.next_of_sum.Goals as goal

some-count : (z : ℤ) (n : ℕ) → pos n ≡ z → 0 < n → is_zero z ≡ false
some-count z zero e l = absurd (let y : ⊥ = omega arith in y)
some-count z (suc n) e l = ap is_zero (sym e)

-- what a count of the sum is
module _ {S : Type 0} (g : Ghosts S) (b : PendingBook S g) (s : ℕ) (low : s ≤ 15) where
  abbrev below : Row → ℤ
  below q = count (shelf_of (g.meaning b.below) s) q

  abbrev change : Row → ℤ
  change q = count_at b.pending s q

  sums : (q : Row) → count (shelf_of (meaning_of b) s) q ≡ below q +ℤ change q
  sums q = let six = (g.lawful b.below).sixteen in count_sum (g.meaning b.below) (held b.pending) s q (omega (arith, six))

pub returns-then-shelf-gt-LAST_SHELF : goal.returns-then-shelf-gt-LAST_SHELF
unfolding next
returns-then-shelf-gt-LAST_SHELF g c =
    let b = c.args.self.now in
    let six = b.lawful.sixteen in
    let past : shelf_of (meaning_of b) c.args.shelf ≡ [] = get_or_past (meaning_of b).shelves c.args.shelf [] (omega (arith, six)) in
    record { answer = sym (ap (λ (xs : Lines). option_map row_and_count (next xs c.args.row.now)) past) }

pub loop-turn-init : goal.loop-turn-init
loop-turn-init g c =
    let b = c.args.self.now in
    let few = b.pending.few in
    let long = length-map (held b.pending) keyed in
    let front = length-take b.pending.len b.pending.lines in
    let start = rows_after_short (changes_of b.pending) (key c.args.shelf c.args.row.now) in
    (refl {a = next (shelf_of (meaning_of b) c.args.shelf) c.args.row.now}, omega (arith, few, long, front, start))

pub returns-then-n-gt0 : goal.returns-then-n-gt0
returns-then-n-gt0 g c =
    let stock = g.S.Stock in
    let b = c.args.self.now in
    let s = c.args.shelf in
    let low : s ≤ 15 = omega arith in
    let xs = shelf_of (meaning_of b) s in
    let p = c.in_ok-found.found in
    let n = c.sum_at-n.ensures in
    let are = copies_are (meaning_of b) b.lawful s p in
    let some = some-count (count xs p) c.sum_at-n.result (ap pos n ∙ are) c.if-n-gt0.true in
    let found = c.loop-turn.invariant.0 ∙ walk_found xs (b.lawful.bags s).0 (below stock b s low) (change stock b s low) (sums stock b s low) c.loop-turn.at p (c.in_ok-found.ensures.answer low) some in
    let pair : ℕ → Option (Row × ℕ) = λ m. Some (p, m) in
    record { answer = ap pair n ∙ sym (ap (option_map row_and_count) found) }

pub loop-turn-preserved : goal.loop-turn-preserved
loop-turn-preserved g c =
    let stock = g.S.Stock in
    let b = c.args.self.now in
    let s = c.args.shelf in
    let low : s ≤ 15 = omega arith in
    let xs = shelf_of (meaning_of b) s in
    let f = below stock b s low in
    let k = change stock b s low in
    let sum = sums stock b s low in
    let at = c.loop-turn.at in
    let p = c.in_ok-found.found in
    let h = c.in_ok-found.ensures.answer low in
    let n = c.sum_at-n.ensures in
    let left = c.if-n-gt0.false in
    let are = copies_are (meaning_of b) b.lawful s p in
    let none : count xs p ≡ pos 0 = sym are ∙ ap pos (let m : copies (meaning_of b) s p ≡ 0 = omega (arith, n, left) in m) in
    let before = c.loop-turn.invariant.1 in
    let shorter = walk_shorter (changes_of b.pending) (key s at) (key s p) b.pending.in_order (key_same s at p ∙ h.0) (cancelled xs (b.lawful.bags s).0 f k sum at p h none) in
    (c.loop-turn.invariant.0 ∙ walk_on xs (b.lawful.bags s).0 f k sum at p h none, omega (arith, before, shorter))

pub returns-in_err-found : goal.returns-in_err-found
returns-in_err-found g c =
    let stock = g.S.Stock in
    let b = c.args.self.now in
    let s = c.args.shelf in
    let low : s ≤ 15 = omega arith in
    let xs = shelf_of (meaning_of b) s in
    let h = c.in_err-found.ensures.answer low in
    record { answer = c.from_residual.ensures ∙ sym (ap (option_map row_and_count) (c.loop-turn.invariant.0 ∙ walk_end xs (b.lawful.bags s).0 (below stock b s low) (change stock b s low) (sums stock b s low) c.loop-turn.at h)) }

pub returns : goal.returns
returns g c =
    let out = c.loop-turn-test.false in
    let few = c.loop-turn.invariant.1 in
    record { answer = absurd (let z : ⊥ = omega (arith, few, out) in z) }
