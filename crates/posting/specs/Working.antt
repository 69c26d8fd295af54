-- What working out the nodes of a posting answers and leaves, told by the boards before and the boards worked out afresh. Assumes nothing.
--     groups_fit M x bs              every group of the node x over the boards bs fits; only a total has groups
--     judged M old new room xs       node by node from 0 upwards: Over if a new count is above 65,535, Wide if a group does not fit, Paper
--                                    if the lines up to this node outnumber the room; else how many lines there are
--     judged_from .. k used xs       the same from node k on, where `used` lines are those of the nodes before
--     OfBase w net move net'         the net of a base before a posting and after it, and the change that leads there
--     Ready M xs ws h moves net net' what a posting starts from: the stock has the boards of the nodes xs over the nets `net`, every
--                                    group of them fits, and `moves` leads from the nets `net` to `net'`
--     Worked M xs h net' room sheet r      the answer, and the sheet that has the differences of all boards where nothing was refused
use Rattle.std.specs.Prelude.{◌≡◌, ℕ, suc, ◌+◌, ◌<◌, Bool, true, cond, List, [], ◌∷◌, length, take, Ok, Err, Result, nat_le, slice_index, slice_index_or}
use Rattle.bag.specs.declared.lines.ChangeLine.{ChangeLine}
use Rattle.bag.specs.Bag.{Lines, EachRow, difference}
use Rattle.bag.specs.Changes.{Changes}
use Rattle.bag.specs.Measure.{Measure}
use Rattle.bag.specs.Operators.{all_groups_fit}
use Rattle.stock.specs.Holding.{Holding, shelf_of}
use Rattle.plan.specs.declared.node.Node.{Node}
use Rattle.plan.specs.declared.node.Node.TheVariants.{Base, Keep, Pick, Pair, Both, Less, Total}
use Rattle.plan.specs.Afresh.{is_base, board, afresh}
use Rattle.sheet.specs.Sheets.{flattened, OnSheet}
use Rattle.settling.specs.Boards.{differences}
use Rattle.delta.specs.NodeChange.{counts_fit, LawfulRow}
use Rattle.posting.specs.declared.fault.WorkFault.{WorkFault}
use Rattle.posting.specs.declared.fault.WorkFault.TheVariants.{Over, Wide, Paper}

pub record OfBase (w : ℕ) (net move net' : Lines) : Type 0 where
  pub changes : Changes net move net'
  pub old_rows : EachRow (LawfulRow w) net
  pub new_rows : EachRow (LawfulRow w) net'

module _ {V : Type 0} (M : Measure V) where
  abbrev pub groups_fit : Node → List Lines → Bool
  groups_fit (Base w) bs = true
  groups_fit (Keep c a relation operand) bs = true
  groups_fit (Pick c columns) bs = true
  groups_fit (Pair l r pairs) bs = true
  groups_fit (Both l r) bs = true
  groups_fit (Less l r) bs = true
  groups_fit (Total c j columns) bs = all_groups_fit M j (take columns.count columns.places) (board bs c)

  unfoldable pub judged_from : List Lines → List Lines → ℕ → ℕ → ℕ → List Node → Result ℕ WorkFault
  judged_from old new room k used [] = Ok used
  judged_from old new room k used (x ∷ xs) =
      cond (counts_fit (board new k))
      (cond (groups_fit x new)
      (cond (nat_le (used + length (difference (board old k) (board new k))) room)
      (judged_from old new room (suc k) (used + length (difference (board old k) (board new k))) xs)
      (Err (Paper k)))
      (Err (Wide k)))
      (Err (Over k))

  abbrev pub judged : List Lines → List Lines → ℕ → List Node → Result ℕ WorkFault
  judged old new room xs = judged_from old new room 0 0 xs

  pub record Ready (xs : List Node) (ws : List ℕ) (h : Holding) (moves net net' : ℕ → Lines) : Type 0 where
    pub boards : (k : ℕ) → k < length xs → shelf_of h k ≡ board (afresh M xs net) k
    pub fit : (k : ℕ) (d : Node) → k < length xs → groups_fit (slice_index_or xs k d) (afresh M xs net) ≡ true
    pub bases : (k : ℕ) (d : Node) → k < length xs → is_base (slice_index_or xs k d) ≡ true → OfBase (slice_index ws k) (net k) (moves k) (net' k)

  pub record Worked (xs : List Node) (h : Holding) (net' : ℕ → Lines) (room : ℕ) (sheet : List ChangeLine) (r : Result ℕ WorkFault) : Type 0 where
    pub answer : r ≡ judged h.shelves (afresh M xs net') room xs
    pub on_sheet : (n : ℕ) → r ≡ Ok n → OnSheet room sheet n (flattened 0 (differences h.shelves (afresh M xs net')))
