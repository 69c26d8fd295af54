use Rattle.std.proofs.Common.{◌≡◌, ◌+◌, ◌<◌, ◌≤◌, false, ℤ, pos, Result, sym, ap, ◌∙◌, subst, arith, rules}
use Rattle.bag.specs.declared.lines.ChangeLine.{ChangeLine}
use Rattle.bag.specs.Refusal.{Refusal, left_by}
use Rattle.stock.specs.Holding.{lines_of, with_copies, lacks_room}
use Rattle.settling.proofs.Moving.{accepted_put}
use Rattle.pending_lines.specs.PendingLines.{held}
use Rattle.pending_book.specs.Sums.{with_change_of, gain_of, Accepts}
use Rattle.pending_book.specs.PendingBook.{meaning_of}
use Rattle.pending_book.proofs.PendingSum.{capacity_sum}
use Rattle.pending_book.proofs.PendingCalls.{put_ok, full_answer, room_present, room_free, room_none, room_lacking, no_copies, lines_more, lines_kept, accepts_gain, gain_number}
use Rattle.pending_book.proofs.pending.PendingBook.put.Goals as goal
use Rattle.pending_book.proofs.pending.PendingBook.put.Goals.{then-old-eq0+else-lines-capacity, else-old-eq0}

pub returns-then-n-eq0-clause-after : goal.returns-then-n-eq0-clause-after
returns-then-n-eq0-clause-after g c =
    let b = c.args.self.now in
    let M = meaning_of b in
    let s = c.args.shelf in
    let r = c.args.row.now in
    let n = c.args.n in
    let is = c.sum_at-old.ensures in
    let none : n ≡ 0 = omega arith in
    sym (accepted_put M s r n (omega arith) (omega (arith, is)) (room_none M s r n none) ∙ ap (λ m. with_copies M s r (pos m)) none ∙ no_copies M s r b.lawful)

-- a line too many is refused
pub returns-then-lines-capacity-clause-answer : goal.returns-then-lines-capacity-clause-answer
returns-then-lines-capacity-clause-answer g c =
    let b = c.args.self.now in
    let M = meaning_of b in
    let s = c.args.shelf in
    let r = c.args.row.now in
    let n = c.args.n in
    let is = c.sum_at-old.ensures in
    let room = b.lawful.room in
    let counted = b.counted in
    let cap = c.capacity-capacity.ensures.answer ∙ sym (capacity_sum (g.S.Stock.meaning b.below) (held b.pending)) in
    let lacking = room_lacking M s r n (omega arith) (omega (arith, is)) (omega (arith, room, counted, cap)) in
    full_answer M s r n c.capacity-capacity.result (omega arith) (omega (arith, is)) lacking cap

pub returns-then-lines-capacity-clause-after : goal.returns-then-lines-capacity-clause-after
returns-then-lines-capacity-clause-after g c = ap (λ (a : Result (Unit {0}) Refusal). left_by a (meaning_of c.args.self.now) (with_copies (meaning_of c.args.self.now) c.args.shelf c.args.row.now (pos c.args.n))) (returns-then-lines-capacity-clause-answer g c)

-- what is noted
line : (g : _) (c : goal.After-note-arg-2-1 g) → c.change_line.result ≡ gain_of c.args.shelf c.args.row.now c.args.n
line g c = c.change_line.ensures ∙ ap (λ (z : ℤ). record { node = c.args.shelf; row = c.args.row.now; change = z }) (gain_number c.args.n (omega arith))

-- how many lines the sum then has
grown : (g : _) (c : goal.After-note-arg-2-1 g) → c.if-old-eq0.lines ≡ lines_of (with_copies (meaning_of c.args.self.now) c.args.shelf c.args.row.now (pos c.args.n))
grown g c =
    let b = c.args.self.now in
    let M = meaning_of b in
    let s = c.args.shelf in
    let r = c.args.row.now in
    let n = c.args.n in
    let is = c.sum_at-old.ensures in
    let counted = b.counted in
    elim c.if-old-eq0.branch [
      | then-old-eq0+else-lines-capacity w ↦ let more = lines_more M s r n b.lawful (omega arith) (omega arith) (let e = w.if-old-eq0.true in omega (arith, is, e)) in let e = w.lines-is in omega (arith, more, e, counted)
      | else-old-eq0 w ↦ let kept = lines_kept M s r n b.lawful (omega arith) (omega arith) (let e = w.if-old-eq0.false in omega (arith, is, e)) in let e = w.lines-is in omega (arith, kept, e, counted)
    ]

-- there is room for them
roomy : (g : _) (c : goal.After-note-arg-2-1 g) → c.if-old-eq0.lines ≤ (meaning_of c.args.self.now).capacity
roomy g c =
    let b = c.args.self.now in
    let cap = capacity_sum (g.S.Stock.meaning b.below) (held b.pending) in
    let counted = b.counted in
    let room = b.lawful.room in
    elim c.if-old-eq0.branch [
      | then-old-eq0+else-lines-capacity w ↦ let a = w.capacity-capacity.ensures.answer in let e = w.lines-is in let f = w.if-lines-capacity.false in omega (arith, a, e, f, cap)
      | else-old-eq0 w ↦ let e = w.lines-is in omega (arith, e, counted, room)
    ]

lacks : (g : _) (c : goal.After-note-arg-2-1 g) → lacks_room (meaning_of c.args.self.now) c.args.shelf c.args.row.now c.args.n ≡ false
lacks g c =
    let b = c.args.self.now in
    let M = meaning_of b in
    let is = c.sum_at-old.ensures in
    let cap = capacity_sum (g.S.Stock.meaning b.below) (held b.pending) in
    let counted = b.counted in
    elim c.if-old-eq0.branch [
      | then-old-eq0+else-lines-capacity w ↦ room_free M c.args.shelf c.args.row.now c.args.n (let a = w.capacity-capacity.ensures.answer in let f = w.if-lines-capacity.false in omega (arith, a, f, cap, counted))
      | else-old-eq0 w ↦ room_present M c.args.shelf c.args.row.now c.args.n (let e = w.if-old-eq0.false in omega (arith, is, e))
    ]

pub note-requires-clause-accepted : goal.note-requires-clause-accepted
note-requires-clause-accepted g c =
    let b = c.args.self.now in
    let M = meaning_of b in
    let is = c.sum_at-old.ensures in
    let fits : c.sum_at-old.result + c.args.n < 65536 = search rules in
    let more = grown g c in
    let room = roomy g c in
    subst (Accepts M) (sym (line g c)) (accepts_gain M c.args.shelf c.args.row.now c.args.n b.lawful (omega arith) (omega arith) c.read_columns.ensures (omega (arith, is, fits)) (omega (arith, more, room)))

pub note-requires-clause-counted : goal.note-requires-clause-counted
note-requires-clause-counted g c = grown g c ∙ ap (λ (p : ChangeLine). lines_of (with_change_of (meaning_of c.args.self.now) p)) (sym (line g c))

pub returns-clause-answer : goal.returns-clause-answer
returns-clause-answer g c =
    let is = c.sum_at-old.ensures in
    let fits : c.sum_at-old.result + c.args.n < 65536 = search rules in
    sym (put_ok (meaning_of c.args.self.now) c.args.shelf c.args.row.now c.args.n (omega arith) (omega (arith, is, fits)) (lacks g c.before))

pub returns-clause-after : goal.returns-clause-after
returns-clause-after g c =
    let M = meaning_of c.args.self.now in
    let is = c.sum_at-old.ensures in
    let fits : c.sum_at-old.result + c.args.n < 65536 = search rules in
    c.note.ensures.after.after ∙ ap (with_change_of M) (line g c.before) ∙ sym (accepted_put M c.args.shelf c.args.row.now c.args.n (omega arith) (omega (arith, is, fits)) (lacks g c.before))
