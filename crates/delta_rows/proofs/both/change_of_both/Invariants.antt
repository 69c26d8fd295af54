use Rattle.bag.specs.Bag.{Lines}
use Rattle.delta_rows.specs.Merges.{turns}
use Rattle.delta_rows.proofs.Merged.{Fitting}
use Rattle.delta_rows.proofs.Merging.{Merging}
use Rattle.delta_rows.proofs.Sums.{sum_at}
use Rattle.delta_rows.proofs.both.change_of_both.Given as goal

-- the turns that the merge gave are done
abbrev pub invariant-loop-turn : goal.invariant-loop-turn
invariant-loop-turn g l =
    (goal.iterator-loop-turn g).can_next l.turn-iterator × (goal.iterator-loop-turn g).is_finite l.turn-iterator
    × ((a b : Lines) → Merging g.S.Stock.meaning sum_at (Fitting a b) l.initial.writer (turns l.left l.right) l.writer l.yielded l.turn-iterator)
