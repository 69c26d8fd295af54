use Rattle.std.proofs.Common.{◌≡◌, drop}
use Rattle.stock.specs.Calls.{after_calls}
use Rattle.stock.proofs.Plays.{Compared}
use Rattle.stock.proofs.alike.play_alike.Given as goal

-- the calls from `call-index` on are still to be made
abbrev pub invariant-loop-call : goal.invariant-loop-call
invariant-loop-call g l =
    (after_calls (g.S.Stock.meaning l.a) (drop l.call-index l.calls) ≡ after_calls (g.S.Stock.meaning l.initial.a) l.calls)
    × (after_calls (g.T.Stock.meaning l.b) (drop l.call-index l.calls) ≡ after_calls (g.T.Stock.meaning l.initial.b) l.calls)
    × Compared (g.S.Stock.meaning l.initial.a) (g.T.Stock.meaning l.initial.b) l.calls (g.S.Stock.meaning l.a) (g.T.Stock.meaning l.b) (drop l.call-index l.calls) l.alike
