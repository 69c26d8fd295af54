use Rattle.std.proofs.Common.{◌≡◌, ◌-◌, ◌≤◌, ℤ, pos, neg_ℤ, sym, ap, ◌∙◌, subst, arith, rules}
use Rattle.bag.specs.declared.lines.ChangeLine.{ChangeLine}
use Rattle.stock.specs.Holding.{lines_of, with_copies}
use Rattle.settling.proofs.Moving.{accepted_take}
use Rattle.pending_book.specs.Sums.{with_change_of, loss_of, Accepts}
use Rattle.pending_book.specs.PendingBook.{meaning_of}
use Rattle.pending_book.proofs.PendingCalls.{no_copies, lines_left, lines_less, accepts_loss, loss_number}
use Rattle.pending_book.proofs.pending.PendingBook.take.Goals as goal
use Rattle.pending_book.proofs.pending.PendingBook.take.Goals.{then-left-eq0, else-left-eq0}

pub returns-then-n-eq0-clause-after : goal.returns-then-n-eq0-clause-after
returns-then-n-eq0-clause-after g c =
    let b = c.args.self.now in
    let M = meaning_of b in
    let s = c.args.shelf in
    let r = c.args.row.now in
    let n = c.args.n in
    let is = c.sum_at.ensures in
    let none : n ≡ 0 = omega arith in
    sym (accepted_take M s r n (omega arith) (omega (arith, is, none)) ∙ ap (λ m. with_copies M s r (neg_ℤ (pos m))) none ∙ no_copies M s r b.lawful)

pub overflow_sub-lines : goal.overflow_sub-lines
overflow_sub-lines g c =
    let b = c.args.self.now in
    let is = c.sum_at.ensures in
    let enough : c.args.n ≤ c.sum_at.result = search rules in
    let rest : c.in_ok-left.left ≡ c.sum_at.result - c.args.n = search rules in
    let none = c.if-left-eq0.true in
    let counted = b.counted in
    let less = lines_less (meaning_of b) c.args.shelf c.args.row.now c.args.n b.lawful (omega arith) (omega arith) (omega (arith, is, enough, rest, none)) in
    omega (arith, less, counted)

-- what is noted
line : (g : _) (c : goal.After-note-arg-2-1 g) → c.change_line.result ≡ loss_of c.args.shelf c.args.row.now c.args.n
line g c = c.change_line.ensures ∙ ap (λ (z : ℤ). record { node = c.args.shelf; row = c.args.row.now; change = z }) (loss_number c.args.n (omega arith))

-- how many lines the sum then has
left : (g : _) (c : goal.After-note-arg-2-1 g) → c.if-left-eq0.lines ≡ lines_of (with_copies (meaning_of c.args.self.now) c.args.shelf c.args.row.now (neg_ℤ (pos c.args.n)))
left g c =
    let b = c.args.self.now in
    let M = meaning_of b in
    let s = c.args.shelf in
    let r = c.args.row.now in
    let n = c.args.n in
    let is = c.sum_at.ensures in
    let enough : n ≤ c.sum_at.result = search rules in
    let rest : c.in_ok-left.left ≡ c.sum_at.result - n = search rules in
    let counted = b.counted in
    elim c.if-left-eq0.branch [
      | then-left-eq0 w ↦ let less = lines_less M s r n b.lawful (omega arith) (omega arith) (let e = w.if-left-eq0.true in omega (arith, is, enough, rest, e)) in let e = w.lines-is in omega (arith, less, e, counted)
      | else-left-eq0 w ↦ let kept = lines_left M s r n b.lawful (omega arith) (omega arith) (let e = w.if-left-eq0.false in omega (arith, is, rest, e)) in let e = w.lines-is in omega (arith, kept, e, counted)
    ]

-- they are no more than before
fewer : (g : _) (c : goal.After-note-arg-2-1 g) → c.if-left-eq0.lines ≤ c.args.self.now.lines
fewer g c = elim c.if-left-eq0.branch [ then-left-eq0 w ↦ let e = w.lines-is in omega (arith, e) | else-left-eq0 w ↦ let e = w.lines-is in omega (arith, e) ]

pub note-requires-clause-accepted : goal.note-requires-clause-accepted
note-requires-clause-accepted g c =
    let b = c.args.self.now in
    let M = meaning_of b in
    let is = c.sum_at.ensures in
    let enough : c.args.n ≤ c.sum_at.result = search rules in
    let counted = b.counted in
    let room = b.lawful.room in
    let less = left g c in
    let most = fewer g c in
    subst (Accepts M) (sym (line g c)) (accepts_loss M c.args.shelf c.args.row.now c.args.n b.lawful (omega arith) (omega arith) c.read_columns.ensures (omega (arith, is, enough)) (omega (arith, less, most, counted, room)))

pub note-requires-clause-counted : goal.note-requires-clause-counted
note-requires-clause-counted g c = left g c ∙ ap (λ (p : ChangeLine). lines_of (with_change_of (meaning_of c.args.self.now) p)) (sym (line g c))
