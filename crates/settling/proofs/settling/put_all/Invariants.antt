use Rattle.std.proofs.Common.{◌≡◌, take}
use Rattle.stock.specs.Holding.{Holding}
use Rattle.settling.specs.Steps.{Puttable, Moved, gains}
use Rattle.settling.proofs.settling.put_all.Given as goal

-- what the lines before the next put is put
abbrev pub invariant-loop-line : goal.invariant-loop-line
invariant-loop-line g l =
    let stock = g.S.Stock in
    (stock.memory l.stock ≡ stock.memory l.initial.stock)
    × ((aim : Holding) → Puttable (stock.meaning l.initial.stock) l.lines aim → Moved (stock.meaning l.initial.stock) (stock.meaning l.stock) (gains (take l.line-index l.lines)))
