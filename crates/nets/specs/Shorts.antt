-- Whether the nets of a message take more copies of a row than a base has. Assumes nothing.
--     goes_short old d       some row of the net d leaves fewer than 0 copies in the bag `old`
--     short_from h k ds      the lowest node with such a row, where ds are the nets of the nodes from k on
--     short_at h m           the lowest base of which the records m take too much, if there is one
--     ShortOf h m k          some row of node k comes to fewer than 0 copies: its old count and the copies put less the copies taken
--     Enough h m k           no row of node k does
--     ShortInCounts h m o    o is the lowest node that comes short, or none where no node does
use Rattle.std.specs.Prelude.{ℕ, suc, ◌<◌, ◌≤◌, Bool, cond, not, List, [], ◌∷◌, pos, ◌+ℤ◌, ◌≤ℤ◌, ◌<ℤ◌, Some, None, Option, int_le}
use Rattle.bag.specs.Order.{Row}
use Rattle.bag.specs.Bag.{Lines, count, every_line}
use Rattle.message.specs.declared.record.Record.{Record}
use Rattle.stock.specs.Holding.{Holding, shelf_of}
use Rattle.nets.specs.Nets.{net_of, nets_by_node}

abbrev pub goes_short : Lines → Lines → Bool
goes_short old d = not (every_line (λ q n. int_le (pos 0) (count old q +ℤ n)) d)

unfoldable pub short_from : Holding → ℕ → List Lines → Option ℕ
short_from h k [] = None
short_from h k (d ∷ ds) = cond (goes_short (shelf_of h k) d) (Some k) (short_from h (suc k) ds)

abbrev pub short_at : Holding → List Record → Option ℕ
short_at h m = short_from h 0 (nets_by_node m)

abbrev pub ShortOf : Holding → List Record → ℕ → Type 0
ShortOf h m k = (q : Row) × ((count (shelf_of h k) q +ℤ count (net_of k m) q) <ℤ pos 0)

abbrev pub Enough : Holding → List Record → ℕ → Type 0
Enough h m k = (q : Row) → pos 0 ≤ℤ (count (shelf_of h k) q +ℤ count (net_of k m) q)

abbrev pub ShortInCounts : Holding → List Record → Option ℕ → Type 0
ShortInCounts h m (Some k) = (k ≤ 15) × ShortOf h m k × ((j : ℕ) → j < k → Enough h m j)
ShortInCounts h m None = (k : ℕ) → k ≤ 15 → Enough h m k
