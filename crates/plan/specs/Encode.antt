-- The bytes of a plan's nodes.
--
--   relation_number   0 <, 1 ≤, 2 =, 3 ≠, 4 ≥, 5 >
--   operand_bytes     kind 0 and a number, or kind 1 and a column
--   encode            a node's bytes: its operator, then its fields
--   encode_all        the bytes of all nodes, one behind the other
use Rattle.std.specs.Prelude.{ℕ, List, [], ◌∷◌, take}
use Rattle.std.specs.List.{flat_map}
use Rattle.bag.specs.Bytes.{in_four}
use Rattle.bag.specs.declared.condition.Operand.{Operand}
use Rattle.bag.specs.declared.condition.Operand.TheVariants.{Constant, Column}
use Rattle.bag.specs.declared.condition.Relation.{Relation}
use Rattle.bag.specs.declared.condition.Relation.TheVariants as relations
use Rattle.plan.specs.declared.node.ColumnPair.{ColumnPair}
use Rattle.plan.specs.declared.node.Node.{Node}
use Rattle.plan.specs.declared.node.Node.TheVariants.{Base, Keep, Pick, Pair, Both, Less, Total}

abbrev pub relation_number : Relation → ℕ
relation_number relations.Less = 0
relation_number relations.LessOrEqual = 1
relation_number relations.Equal = 2
relation_number relations.NotEqual = 3
relation_number relations.GreaterOrEqual = 4
relation_number relations.Greater = 5

abbrev pub operand_bytes : Operand → List ℕ
operand_bytes (Constant v) = 0 ∷ in_four v
operand_bytes (Column b) = 1 ∷ b ∷ []

abbrev pub pair_bytes : ColumnPair → List ℕ
pair_bytes p = p.left ∷ p.right ∷ []

abbrev pub encode : Node → List ℕ
encode (Base w) = 0 ∷ w ∷ []
encode (Keep c a relation operand) = 1 ∷ c ∷ a ∷ relation_number relation ∷ operand_bytes operand
encode (Pick c columns) = 2 ∷ c ∷ columns.count ∷ take columns.count columns.places
encode (Pair l r pairs) = 3 ∷ l ∷ r ∷ pairs.count ∷ flat_map pair_bytes (take pairs.count pairs.places)
encode (Both l r) = 4 ∷ l ∷ r ∷ []
encode (Less l r) = 5 ∷ l ∷ r ∷ []
encode (Total c j columns) = 6 ∷ c ∷ j ∷ columns.count ∷ take columns.count columns.places

abbrev pub encode_all : List Node → List ℕ
encode_all xs = flat_map encode xs
