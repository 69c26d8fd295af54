use Rattle.std.proofs.Common.{◌≡◌, true, false, not, List, [], ◌∷◌, ◌++◌, ◌+ℤ◌, sym, ap, ◌∙◌, subst, arith, w32}
use Rattle.std.proofs.lemmas.Int.{ints, to_z-of_z}
use Rattle.bag.specs.declared.lines.ChangeLine.{ChangeLine}
use Rattle.bag.specs.Bag.{Lines, is_zero, count}
use Rattle.stock.specs.Holding.{shelf_of}
use Rattle.sheet.specs.Sheets.{change_line, OnPage}
use Rattle.delta.specs.NodeChange.{within_count}
use Rattle.delta.specs.Writing.{Written}
use Rattle.delta.proofs.Counts.{not_zero_is}
use Rattle.delta.proofs.Steps.{answer_none, answer_one, written_more, row_too_many}
use Rattle.delta.proofs.writer.ChangeWriter.append.Goals as goal

pub returns-then-change-eq0-clause-answer : goal.returns-then-change-eq0-clause-answer
returns-then-change-eq0-clause-answer g c = let v = c.args.self.now in
    answer_none (shelf_of (g.S.Stock.meaning v.stock.now) v.node) c.args.row.now c.args.change (omega (arith, ints, c.if-change-eq0.true))

pub returns-then-over-clause-answer : goal.returns-then-over-clause-answer
returns-then-over-clause-answer g c =
    let v = c.args.self.now in
    let old = shelf_of (g.S.Stock.meaning v.stock.now) v.node in
    let r = c.args.row.now in
    let n = c.args.change in
    let some : is_zero n ≡ false = not_zero_is n (λ z. c.if-change-eq0.false (omega (arith, ints, z))) in
    answer_one old r n true some (ap (λ z. not (within_count (count old r +ℤ z))) (sym (to_z-of_z w32 n c.ranges.change)) ∙ sym c.is_over-over.ensures ∙ c.if-over.true)

pub returns-then-over-clause-after : goal.returns-then-over-clause-after
returns-then-over-clause-after g c = λ (d : Lines) (was : Written g.S.Stock.meaning c.args.self.now d).
    let some : is_zero c.args.change ≡ false = not_zero_is c.args.change (λ z. c.if-change-eq0.false (omega (arith, ints, z))) in
    row_too_many g.S.Stock.meaning c.args.self.now c.args.self.now d c.args.row.now c.args.change some was
    (ap (λ z. not (within_count (count (shelf_of (g.S.Stock.meaning c.args.self.now.stock.now) c.args.self.now.node) c.args.row.now +ℤ z))) (sym (to_z-of_z w32 c.args.change c.ranges.change)) ∙ sym c.is_over-over.ensures ∙ c.if-over.true)

pub returns-clause-answer : goal.returns-clause-answer
returns-clause-answer g c =
    let v = c.args.self.now in
    let old = shelf_of (g.S.Stock.meaning v.stock.now) v.node in
    let r = c.args.row.now in
    let n = c.args.change in
    let some : is_zero n ≡ false = not_zero_is n (λ z. c.if-change-eq0.false (omega (arith, ints, z))) in
    answer_one old r n false some (ap (λ z. not (within_count (count old r +ℤ z))) (sym (to_z-of_z w32 n c.ranges.change)) ∙ sym c.is_over-over.ensures ∙ c.if-over.false)

pub returns-clause-after : goal.returns-clause-after
returns-clause-after g c = λ (d : Lines) (was : Written g.S.Stock.meaning c.args.self.now d).
    let v = c.args.self.now in
    let w = c.put.new.self in
    let r = c.args.row.now in
    let whole = to_z-of_z w32 c.args.change c.ranges.change in
    let some : is_zero c.args.change ≡ false = not_zero_is c.args.change (λ z. c.if-change-eq0.false (omega (arith, ints, z))) in
    let line : (es : List ChangeLine) → OnPage v.page.now v.lines es → OnPage w.page.now w.lines (es ++ (change_line v.node (r, c.args.change) ∷ [])) =
    λ es o. subst (λ z. OnPage w.page.now w.lines (es ++ (change_line v.node (r, z) ∷ []))) whole (c.put.ensures.after es o) in
    written_more g.S.Stock.meaning v w d r c.args.change c.put.ensures.same some was line
    (ap (λ z. not (within_count (count (shelf_of (g.S.Stock.meaning v.stock.now) v.node) r +ℤ z))) (sym whole) ∙ sym c.is_over-over.ensures ∙ c.if-over.false)
