use Rattle.std.proofs.Common.{◌≡◌, ℕ, List, [], length, drop}
use Rattle.bag.specs.Bag.{Lines}
use Rattle.plan.specs.Afresh.{board, afresh}
use Rattle.plan.specs.Plans.{nodes_of, widths_of}
use Rattle.sheet.specs.Sheets.{flattened, OnSheet}
use Rattle.posting.specs.Working.{judged, judged_from, Ready}
use Rattle.posting.specs.Changes.{Reached}
use Rattle.posting.proofs.node.Posting.fill.Given as goal

-- the nodes before `node` are worked out, and what is left decides the judgement of all
abbrev pub invariant-loop-node : goal.invariant-loop-node
invariant-loop-node g l =
    let M = g.M.Measure.model in
    let p = l.self.plan.now in
    let h = g.S.Stock.meaning l.self.stock.now in
    let xs = nodes_of p in
    let room = length l.initial.sheet in
    (length l.sheet ≡ room)
    × ((ms : List Lines) (net net' : ℕ → Lines) → p.shown ≡ M.shows → Ready M xs (widths_of p) h (board ms) net net' → l.self.nets.now ≡ flattened 0 ms → OnSheet room l.initial.sheet 0 [] →
    Reached (widths_of p) h (afresh M xs net') l.node room l.sheet l.used
    × (judged_from M h.shelves (afresh M xs net') room l.node l.used (drop l.node xs) ≡ judged M h.shelves (afresh M xs net') room xs))
