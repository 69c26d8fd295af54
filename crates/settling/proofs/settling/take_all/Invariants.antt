use Rattle.std.proofs.Common.{◌≡◌, take}
use Rattle.settling.specs.Steps.{Takeable, Moved, losses}
use Rattle.settling.proofs.settling.take_all.Given as goal

-- what the lines before the next take is taken
abbrev pub invariant-loop-line : goal.invariant-loop-line
invariant-loop-line g l =
    let stock = g.S.Stock in
    (stock.memory l.stock ≡ stock.memory l.initial.stock)
    × (Takeable (stock.meaning l.initial.stock) l.lines → Moved (stock.meaning l.initial.stock) (stock.meaning l.stock) (losses (take l.line-index l.lines)))
