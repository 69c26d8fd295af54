-- A plan worked out afresh, from node 0 upwards: the bag of each node, its board. Assumes nothing.
--
--   is_base        the node is a base
--   board          the bag of a lower node
--   pairs_of       the first n pairs of columns, as numbers
--   board_of       the bag of a node, from its own net and the lower boards; ws are the widths of the lower nodes
--   afresh_from    the boards of further nodes behind boards bs of the widths ws
--   afresh         the boards of all nodes; net gives each base the copies put less the copies taken
use Rattle.std.specs.Prelude.{ℕ, Bool, true, false, List, [], ◌∷◌, ◌++◌, map, length, take, slice_index, slice_index_or}
use Rattle.bag.specs.Bag.{Lines}
use Rattle.bag.specs.Measure.{Measure}
use Rattle.bag.specs.Operators.{keep, pick, pair, both, monus, total}
use Rattle.plan.specs.declared.node.ColumnPair.{ColumnPair}
use Rattle.plan.specs.declared.node.Node.{Node}
use Rattle.plan.specs.declared.node.Node.TheVariants.{Base, Keep, Pick, Pair, Both, Less, Total}
use Rattle.plan.specs.Lawful.{width}

abbrev pub is_base : Node → Bool
is_base (Base w) = true
is_base (Keep c a relation operand) = false
is_base (Pick c columns) = false
is_base (Pair l r pairs) = false
is_base (Both l r) = false
is_base (Less l r) = false
is_base (Total c j columns) = false

abbrev pub board : List Lines → ℕ → Lines
board bs i = slice_index_or bs i []

abbrev pub pairs_of : ℕ → List ColumnPair → List (ℕ × ℕ)
pairs_of n pairs = map (λ (p : ColumnPair). (p.left, p.right)) (take n pairs)

module _ {V : Type 0} (M : Measure V) where
  unfoldable pub board_of : List ℕ → Lines → List Lines → Node → Lines
  board_of ws net bs (Base w) = net
  board_of ws net bs (Keep c a relation operand) = keep a relation operand (board bs c)
  board_of ws net bs (Pick c columns) = pick (take columns.count columns.places) (board bs c)
  board_of ws net bs (Pair l r pairs) = pair (slice_index ws l) (pairs_of pairs.count pairs.places) (board bs l) (board bs r)
  board_of ws net bs (Both l r) = both (board bs l) (board bs r)
  board_of ws net bs (Less l r) = monus (board bs l) (board bs r)
  board_of ws net bs (Total c j columns) = total M j (take columns.count columns.places) (board bs c)

  unfoldable pub afresh_from : (ℕ → Lines) → List ℕ → List Lines → List Node → List Lines
  afresh_from net ws bs [] = bs
  afresh_from net ws bs (x ∷ xs) =
      afresh_from net (ws ++ width M.shows ws x ∷ []) (bs ++ board_of ws (net (length bs)) bs x ∷ []) xs

  unfoldable pub afresh : List Node → (ℕ → Lines) → List Lines
  afresh xs net = afresh_from net [] [] xs
