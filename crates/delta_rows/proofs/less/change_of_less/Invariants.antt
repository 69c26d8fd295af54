use Rattle.stock.specs.Holding.{shelf_of}
use Rattle.delta_rows.specs.Merges.{turns}
use Rattle.delta_rows.specs.Less.{less_at}
use Rattle.delta_rows.proofs.Merged.{Fitting}
use Rattle.delta_rows.proofs.Merging.{Merging}
use Rattle.delta_rows.proofs.less.change_of_less.Given as goal

-- the turns that the merge gave are done
abbrev pub invariant-loop-turn : goal.invariant-loop-turn
invariant-loop-turn g l =
    let h = g.S.Stock.meaning l.initial.writer.stock.now in
    let a = shelf_of h l.left.node in
    let b = shelf_of h l.right.node in
    (goal.iterator-loop-turn g).can_next l.turn-iterator × (goal.iterator-loop-turn g).is_finite l.turn-iterator
    × Merging g.S.Stock.meaning (less_at a b) (Fitting a b) l.initial.writer (turns l.left.lines.now l.right.lines.now) l.writer l.yielded l.turn-iterator
