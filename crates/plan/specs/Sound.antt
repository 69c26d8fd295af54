-- What the users of a plan may count on at its node i; ws are the widths of all its nodes, k columns are shown by the measure.
--
--   ColumnsBelow    the first n columns of a list lie below a width
--   OperandBelow    an operand that is a column lies below a width
--   BaseSound, KeepSound, PickSound, PairSound, SidesSound, TotalSound         the facts of one operator
--   Sound           the facts of a node
--   KeepHanded, PickHanded, PairHanded, SidesHanded, TotalHanded        more facts of one operator
--   Handed          what more is handed to the users with a node: `wide` of the nodes that it names: their rows are 1 to 8 wide;
--                   `places` of its list: how many there are, of which the first n count; of a base, its own width is 1 to 8
use Rattle.std.specs.Prelude.{◌≡◌, ℕ, ◌+◌, ◌<◌, ◌≤◌, List, length, slice_index, slice_index_or}
use Rattle.bag.specs.declared.condition.Operand.{Operand}
use Rattle.bag.specs.declared.condition.Operand.TheVariants.{Constant, Column}
use Rattle.plan.specs.declared.node.ColumnPair.{ColumnPair}
use Rattle.plan.specs.declared.node.Node.{Node}
use Rattle.plan.specs.declared.node.Node.TheVariants.{Base, Keep, Pick, Pair, Both, Less, Total}
use Rattle.plan.specs.Lawful.{OneToEight}
use Rattle.plan.specs.Fields.{no_pair}

abbrev pub ColumnsBelow : ℕ → List ℕ → ℕ → Type 0
ColumnsBelow n columns w = (j : ℕ) → j < n → slice_index columns j < w

abbrev pub OperandBelow : Operand → ℕ → Type 0
OperandBelow (Constant v) w = Unit {0}
OperandBelow (Column b) w = b < w

pub record BaseSound (w : ℕ) : Type 0 where
  pub some : 1 ≤ w
  pub narrow : w ≤ 8

pub record KeepSound (ws : List ℕ) (i c a : ℕ) (operand : Operand) : Type 0 where
  pub lower : c < i
  pub column : a < slice_index ws c
  pub other : OperandBelow operand (slice_index ws c)

pub record PickSound (ws : List ℕ) (i c n : ℕ) (columns : List ℕ) : Type 0 where
  pub lower : c < i
  pub some : 1 ≤ n
  pub few : n ≤ 8
  pub below : ColumnsBelow n columns (slice_index ws c)

pub record PairSound (ws : List ℕ) (i l r n : ℕ) (pairs : List ColumnPair) : Type 0 where
  pub left : l < i
  pub right : r < i
  pub few : n ≤ 4
  pub left_below : (j : ℕ) → j < n → (slice_index_or pairs j no_pair).left < slice_index ws l
  pub right_below : (j : ℕ) → j < n → (slice_index_or pairs j no_pair).right < slice_index ws r
  pub narrow : slice_index_or ws l 0 + slice_index ws r ≤ 8

pub record SidesSound (ws : List ℕ) (i l r : ℕ) : Type 0 where
  pub left : l < i
  pub right : r < i
  pub equal : slice_index_or ws l 0 ≡ slice_index ws r

pub record TotalSound (k : ℕ) (ws : List ℕ) (i c j n : ℕ) (columns : List ℕ) : Type 0 where
  pub lower : c < i
  pub column : j < slice_index ws c
  pub few : n ≤ 7
  pub below : ColumnsBelow n columns (slice_index ws c)
  pub narrow : n + 1 + k ≤ 8

abbrev pub Sound : ℕ → List ℕ → ℕ → Node → Type 0
Sound k ws i (Base w) = BaseSound w
Sound k ws i (Keep c a relation operand) = KeepSound ws i c a operand
Sound k ws i (Pick c columns) = PickSound ws i c columns.count columns.places
Sound k ws i (Pair l r pairs) = PairSound ws i l r pairs.count pairs.places
Sound k ws i (Both l r) = SidesSound ws i l r
Sound k ws i (Less l r) = SidesSound ws i l r
Sound k ws i (Total c j columns) = TotalSound k ws i c j columns.count columns.places

pub record KeepHanded (ws : List ℕ) (c : ℕ) : Type 0 where
  pub wide : OneToEight (slice_index ws c)

pub record PickHanded (ws : List ℕ) (c : ℕ) (columns : List ℕ) : Type 0 where
  pub wide : OneToEight (slice_index ws c)
  pub places : length columns ≡ 8

pub record PairHanded (ws : List ℕ) (l r : ℕ) (pairs : List ColumnPair) : Type 0 where
  pub left_wide : OneToEight (slice_index ws l)
  pub right_wide : OneToEight (slice_index ws r)
  pub places : length pairs ≡ 4

pub record SidesHanded (ws : List ℕ) (l r : ℕ) : Type 0 where
  pub left_wide : OneToEight (slice_index ws l)
  pub right_wide : OneToEight (slice_index ws r)

pub record TotalHanded (ws : List ℕ) (c : ℕ) (columns : List ℕ) : Type 0 where
  pub wide : OneToEight (slice_index ws c)
  pub places : length columns ≡ 8

abbrev pub Handed : ℕ → List ℕ → ℕ → Node → Type 0
Handed k ws i (Base w) = OneToEight w
Handed k ws i (Keep c a relation operand) = KeepHanded ws c
Handed k ws i (Pick c columns) = PickHanded ws c columns.places
Handed k ws i (Pair l r pairs) = PairHanded ws l r pairs.places
Handed k ws i (Both l r) = SidesHanded ws l r
Handed k ws i (Less l r) = SidesHanded ws l r
Handed k ws i (Total c j columns) = TotalHanded ws c columns.places
