use Rattle.std.proofs.Common.{refl, ◌∙◌, subst, arith}
use Rattle.std.proofs.lemmas.List.{take_all}
use Rattle.settling.specs.Steps.{Takeable, Moved, loss, losses}
use Rattle.settling.proofs.ByPlace.{no_line}
use Rattle.settling.proofs.Moving.{moved_none, moved_more}
use Rattle.settling.proofs.NextLine.{takes_next}
use Rattle.settling.proofs.settling.take_all.Goals as goal

pub loop-line-init : goal.loop-line-init
loop-line-init g c = (refl, λ t. moved_none (g.S.Stock.meaning c.args.stock.now))

pub loop-line-preserved : goal.loop-line-preserved
loop-line-preserved g c =
    let stock = g.S.Stock in
    let s = c.args.stock.now in
    let now = c.loop-line.stock in
    let lines = c.args.lines.now in
    let i = c.loop-line.line-index in
    let l = c.loop-line-test.true in
    let inv = c.loop-line.invariant in (
      c.take_line.ensures.memory ∙ inv.0,
      λ (t : Takeable (stock.meaning s) lines).
          moved_more loss (stock.meaning s) (stock.meaning now) (stock.meaning c.take_line.new.stock) lines i no_line l (inv.1 t)
          (c.take_line.ensures.after (takes_next (stock.meaning s) (stock.meaning now) lines i no_line t l (inv.1 t))),
    )

pub returns : goal.returns
returns g c =
    let stock = g.S.Stock in
    let s = c.args.stock.now in
    let lines = c.args.lines.now in
    let inv = c.loop-line.invariant in
    record {
      memory = inv.0;
      after = λ (t : Takeable (stock.meaning s) lines). subst (λ ls. Moved (stock.meaning s) (stock.meaning c.loop-line.stock) (losses ls)) (take_all c.loop-line.line-index lines (omega arith)) (inv.1 t);
    }
