-- Which nodes make a plan: lower nodes, columns and widths.
--
--   width          how wide a node's rows are; ws are the widths of the lower nodes, k columns are shown by the measure
--   every          a test holds of each element
--   list_fits      a list of `size` places: the first n pass a test, the others are blank
--   columns_fit    eight places, the first n columns of rows w wide, the others 0
--   pairs_fit      four places, the first n pairs of a column of left rows and a column of right rows, the others 0
--   operand_fits   a number, or a column of rows w wide
--   fits           a node names lower nodes, its columns lie below their widths, its own width is at most 8
--   widths         the widths of nodes that follow nodes of the widths ws
--   lawful         each node of a list fits over those before it
--   OneToEight     what a width is in a lawful plan (WidthsOneToEight, a law)
--   InRange        a constant is a signed number of 32 bits: what the type Node holds
--   LawfulPlan     1 to 16 nodes that are lawful, under a measure that shows k columns
use Rattle.std.specs.Prelude.{◌≡◌, ℕ, ◌+◌, ◌≤◌, Bool, true, ◌&&◌, ltb, List, [], ◌∷◌, ◌++◌, length, take, drop, FitsSigned, ◌==◌, nat_eq, nat_le, nat_lt, slice_index}
use Rattle.std.specs.Int.{w32}
use Rattle.std.specs.List.{AllByRecursion}
use Rattle.bag.specs.declared.condition.Operand.{Operand}
use Rattle.bag.specs.declared.condition.Operand.TheVariants.{Constant, Column}
use Rattle.plan.specs.declared.node.ColumnPair.{ColumnPair}
use Rattle.plan.specs.declared.node.Node.{Node}
use Rattle.plan.specs.declared.node.Node.TheVariants.{Base, Keep, Pick, Pair, Both, Less, Total}

abbrev pub width : ℕ → List ℕ → Node → ℕ
width k ws (Base w) = w
width k ws (Keep c a relation operand) = slice_index ws c
width k ws (Pick c columns) = columns.count
width k ws (Pair l r pairs) = slice_index ws l + slice_index ws r
width k ws (Both l r) = slice_index ws l
width k ws (Less l r) = slice_index ws l
width k ws (Total c j columns) = columns.count + 1 + k

unfoldable pub every : {X : Type 0} → (X → Bool) → List X → Bool
every test [] = true
every test (x ∷ xs) = test x && every test xs

abbrev pub list_fits : {X : Type 0} → ℕ → (X → Bool) → (X → Bool) → ℕ → List X → Bool
list_fits size test blank n xs = length xs == size && (every test (take n xs) && every blank (drop n xs))

abbrev pub columns_fit : ℕ → ℕ → List ℕ → Bool
columns_fit n w columns = list_fits 8 (λ c. ltb c w) (λ c. nat_eq c 0) n columns

abbrev pub pair_fits : ℕ → ℕ → ColumnPair → Bool
pair_fits wl wr p = nat_lt p.left wl && nat_lt p.right wr

abbrev pub pair_blank : ColumnPair → Bool
pair_blank p = p.left == 0 && p.right == 0

abbrev pub pairs_fit : ℕ → ℕ → ℕ → List ColumnPair → Bool
pairs_fit n wl wr pairs = list_fits 4 (pair_fits wl wr) pair_blank n pairs

abbrev pub operand_fits : ℕ → Operand → Bool
operand_fits w (Constant v) = true
operand_fits w (Column b) = nat_lt b w

abbrev pub fits : ℕ → List ℕ → Node → Bool
fits k ws (Base w) = nat_le 1 w && nat_le w 8
fits k ws (Keep c a relation operand) =
    nat_lt c (length ws) && (nat_lt a (slice_index ws c) && operand_fits (slice_index ws c) operand)
fits k ws (Pick c columns) = nat_lt c (length ws) && ((nat_le 1 columns.count && nat_le columns.count 8) && columns_fit columns.count (slice_index ws c) columns.places)
fits k ws (Pair l r pairs) =
    nat_lt l (length ws) && (nat_lt r (length ws) && (nat_le pairs.count 4 && (pairs_fit pairs.count (slice_index ws l) (slice_index ws r) pairs.places && nat_le (slice_index ws l + slice_index ws r) 8)))
fits k ws (Both l r) = nat_lt l (length ws) && (nat_lt r (length ws) && slice_index ws l == slice_index ws r)
fits k ws (Less l r) = nat_lt l (length ws) && (nat_lt r (length ws) && slice_index ws l == slice_index ws r)
fits k ws (Total c j columns) =
    nat_lt c (length ws) && (nat_lt j (slice_index ws c) && (nat_le columns.count 7 && (columns_fit columns.count (slice_index ws c) columns.places && nat_le (columns.count + 1 + k) 8)))

unfoldable pub widths : ℕ → List ℕ → List Node → List ℕ
widths k ws [] = ws
widths k ws (x ∷ xs) = widths k (ws ++ width k ws x ∷ []) xs

unfoldable pub lawful : ℕ → List ℕ → List Node → Bool
lawful k ws [] = true
lawful k ws (x ∷ xs) = fits k ws x && lawful k (ws ++ width k ws x ∷ []) xs

pub record OneToEight (w : ℕ) : Type 0 where
  pub some : 1 ≤ w
  pub narrow : w ≤ 8

abbrev pub operand_in_range : Operand → Type 0
operand_in_range (Constant v) = FitsSigned w32 v
operand_in_range (Column b) = Unit {0}

abbrev pub InRange : Node → Type 0
InRange (Base w) = Unit {0}
InRange (Keep c a relation operand) = operand_in_range operand
InRange (Pick c columns) = Unit {0}
InRange (Pair l r pairs) = Unit {0}
InRange (Both l r) = Unit {0}
InRange (Less l r) = Unit {0}
InRange (Total c j columns) = Unit {0}

pub record LawfulPlan (k : ℕ) (xs : List Node) : Type 0 where
  pub some : 1 ≤ length xs
  pub few : length xs ≤ 16
  pub fit : lawful k [] xs ≡ true
  pub range : AllByRecursion InRange xs
