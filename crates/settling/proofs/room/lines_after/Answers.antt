use Rattle.std.proofs.Common.{◌≡◌, ◌≤◌, length, get_or, ℤ, pos, ◌+ℤ◌, refl, ap, ◌∙◌, arith}
use Rattle.std.proofs.lemmas.List.{take_all}
use Rattle.bag.specs.declared.lines.ChangeLine.{ChangeLine}
use Rattle.bag.specs.Bag.{is_zero, count}
use Rattle.bag.specs.Propagation.{one_if, appearing, vanishing}
use Rattle.stock.specs.Holding.{Holding, shelf_of}
use Rattle.settling.specs.Keys.{changes}
use Rattle.settling.specs.Leading.{LeadsInCounts}
use Rattle.settling.proofs.HoldingCounts.{copies_are}
use Rattle.settling.proofs.ByPlace.{no_line}
use Rattle.settling.proofs.LinesAfter.{all_lines, lines_lead, one_if_bit, one_if_none, one_if_most, appearing_more, vanishing_more}
use Rattle.settling.proofs.room.lines_after.Goals as goal

pub loop-line-init : goal.loop-line-init
unfolding appearing vanishing
loop-line-init g c = (omega arith, omega arith, refl, refl)

pub loop-line-preserved : goal.loop-line-preserved
loop-line-preserved g c =
    let stock = g.S.Stock in
    let s = c.args.stock.now in
    let h = stock.meaning s in
    let lines = c.args.lines.now in
    let i = c.loop-line.line-index in
    let p : ChangeLine = get_or lines i no_line in
    let inv = c.loop-line.invariant in
    let n = c.count-old.result in
    let is : pos n ≡ count (shelf_of h p.node) p.row = ap pos c.count-old.ensures.answer ∙ copies_are h (stock.lawful s) p.node p.row in
    let b = c.vanishes.result in
    let appeared = one_if_none n in
    let appeared-most = one_if_most (is_zero (pos n)) in
    let vanished = one_if_bit b in
    let vanished-most = one_if_most b in
    let m = inv.0 in
    let v = inv.1 in (
      omega (arith, appeared, appeared-most, m),
      omega (arith, vanished, vanished-most, v),
      (let x = inv.2 in
          let y = appearing_more h lines i no_line c.loop-line-test.true in
          let z : one_if (is_zero (pos n)) ≡ one_if (is_zero (count (shelf_of h p.node) p.row)) = ap (λ (w : ℤ). one_if (is_zero w)) is in
          omega (arith, appeared, x, y, z)),
      (let x = inv.3 in
          let y = vanishing_more h lines i no_line c.loop-line-test.true in
          let z : one_if b ≡ one_if (is_zero (count (shelf_of h p.node) p.row +ℤ p.change)) = ap one_if c.vanishes.ensures ∙ ap (λ (w : ℤ). one_if (is_zero (w +ℤ p.change))) is in
          omega (arith, vanished, x, y, z)),
    )

pub returns : goal.returns
returns g c =
    let stock = g.S.Stock in
    let s = c.args.stock.now in
    let h = stock.meaning s in
    let lines = c.args.lines.now in
    let inv = c.loop-line.invariant in
    record {
      answer = λ (aim : Holding) (few : length lines ≤ 8192) (leads : LeadsInCounts h lines aim).
          let law = stock.lawful s in
          let all = take_all c.loop-line.line-index lines (omega arith) in
          let appear : c.loop-line.appear ≡ appearing (all_lines h) (changes lines) = inv.2 ∙ ap (λ ls. appearing (all_lines h) (changes ls)) all in
          let vanish : c.loop-line.vanish ≡ vanishing (all_lines h) (changes lines) = inv.3 ∙ ap (λ ls. vanishing (all_lines h) (changes ls)) all in
          let whole = lines_lead h aim lines law leads in
          let used = c.lines-used.ensures.answer in
          let room = law.room in
          let small = law.small in
          let most = inv.0 in
          omega (arith, appear, vanish, whole, used, room, small, most, few);
    }
