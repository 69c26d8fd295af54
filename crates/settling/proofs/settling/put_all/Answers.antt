use Rattle.std.proofs.Common.{refl, ◌∙◌, subst, arith}
use Rattle.std.proofs.lemmas.List.{take_all}
use Rattle.stock.specs.Holding.{Holding}
use Rattle.settling.specs.Steps.{Puttable, Moved, gain, gains}
use Rattle.settling.proofs.ByPlace.{no_line}
use Rattle.settling.proofs.Moving.{moved_none, moved_more}
use Rattle.settling.proofs.NextLine.{puts_next}
use Rattle.settling.proofs.settling.put_all.Goals as goal

pub loop-line-init : goal.loop-line-init
loop-line-init g c = (refl, λ aim t. moved_none (g.S.Stock.meaning c.args.stock.now))

pub loop-line-preserved : goal.loop-line-preserved
loop-line-preserved g c =
    let stock = g.S.Stock in
    let s = c.args.stock.now in
    let now = c.loop-line.stock in
    let lines = c.args.lines.now in
    let i = c.loop-line.line-index in
    let l = c.loop-line-test.true in
    let inv = c.loop-line.invariant in (
      c.put_line.ensures.memory ∙ inv.0,
      λ (aim : Holding) (t : Puttable (stock.meaning s) lines aim).
          moved_more gain (stock.meaning s) (stock.meaning now) (stock.meaning c.put_line.new.stock) lines i no_line l (inv.1 aim t)
          (c.put_line.ensures.after (puts_next (stock.meaning s) (stock.meaning now) lines i no_line aim t l (inv.1 aim t) (stock.lawful now))),
    )

pub returns : goal.returns
returns g c =
    let stock = g.S.Stock in
    let s = c.args.stock.now in
    let lines = c.args.lines.now in
    let inv = c.loop-line.invariant in
    record {
      memory = inv.0;
      after = λ (aim : Holding) (t : Puttable (stock.meaning s) lines aim). subst (λ ls. Moved (stock.meaning s) (stock.meaning c.loop-line.stock) (gains ls)) (take_all c.loop-line.line-index lines (omega arith)) (inv.1 aim t);
    }
