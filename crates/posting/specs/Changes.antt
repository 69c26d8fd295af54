-- The changes of the nodes of a plan, and how far working them out has come. Assumes nothing.
--     changes_to h news k      the changes of the nodes below k, from the bags of h to the bags news
--     LowerNodes ws h news k   all that is known of the nodes below k
--     OnlyChanges h news k room sheet used      the changes of the nodes below k stand on the sheet, which has room for all of them
--     Reached ws h news k room sheet used      the changes of the nodes below k stand on the sheet, and all that is owed of those nodes is known
--     page_answer, PageStep    the same of a page of the node's own
--     step_answer M old new room used k x      what is answered where the node k, which is x, is worked out: Over, then Wide, then Paper if its lines
--                              find no room behind the used ones, else how many lines there are then
--     Step M ws h news room used k x sheet r   the answer r, and the sheet where nothing is refused
use Rattle.std.specs.Prelude.{◌≡◌, ℕ, ◌+◌, ◌<◌, ◌≤◌, cond, List, length, take, Some, Ok, Err, Result, nat_le, slice_index}
use Rattle.bag.specs.declared.lines.ChangeLine.{ChangeLine}
use Rattle.bag.specs.Bag.{Lines, difference}
use Rattle.bag.specs.Measure.{Measure}
use Rattle.stock.specs.Holding.{Holding, shelf_of}
use Rattle.plan.specs.declared.node.Node.{Node}
use Rattle.plan.specs.Afresh.{board}
use Rattle.sheet.specs.Sheets.{of_node, flattened, OnSheet, OnPage}
use Rattle.settling.specs.Boards.{differences}
use Rattle.delta.specs.NodeChange.{counts_fit, LowerNode}
use Rattle.posting.specs.Working.{groups_fit}
use Rattle.posting.specs.declared.fault.WorkFault.{WorkFault}
use Rattle.posting.specs.declared.fault.WorkFault.TheVariants.{Over, Wide, Paper}

abbrev pub changes_to : Holding → List Lines → ℕ → List Lines
changes_to h news k = take k (differences h.shelves news)

abbrev pub LowerNodes : List ℕ → Holding → List Lines → ℕ → Type 0
LowerNodes ws h news k = (i : ℕ) → i < k → LowerNode (slice_index ws i) (shelf_of h i) (board (changes_to h news k) i) (board news i)

pub record OnlyChanges (h : Holding) (news : List Lines) (k room : ℕ) (sheet : List ChangeLine) (used : ℕ) : Type 0 where
  pub on_sheet : OnSheet room sheet used (flattened 0 (changes_to h news k))
  pub room_enough : length (flattened 0 (changes_to h news k)) ≤ room

pub record Reached (ws : List ℕ) (h : Holding) (news : List Lines) (k room : ℕ) (sheet : List ChangeLine) (used : ℕ) : Type 0 where
  pub lower : LowerNodes ws h news k
  pub lines : OnlyChanges h news k room sheet used

module _ {V : Type 0} (M : Measure V) where
  -- the same on a page of its own
  abbrev pub page_answer : List Lines → List Lines → ℕ → ℕ → Node → Result ℕ WorkFault
  page_answer old new places k x =
      cond (counts_fit (board new k))
      (cond (groups_fit M x new)
      (cond (nat_le (length (difference (board old k) (board new k))) places) (Ok (length (difference (board old k) (board new k)))) (Err (Paper k)))
      (Err (Wide k)))
      (Err (Over k))

  pub record PageStep (h : Holding) (news : List Lines) (k : ℕ) (x : Node) (page : List ChangeLine) (r : Result ℕ WorkFault) : Type 0 where
    pub answer : r ≡ page_answer h.shelves news (length page) k x
    pub lines : (n : ℕ) → r ≡ Ok n → OnPage page (Some n) (of_node k (difference (shelf_of h k) (board news k)))

  abbrev pub step_answer : List Lines → List Lines → ℕ → ℕ → ℕ → Node → Result ℕ WorkFault
  step_answer old new room used k x =
      cond (counts_fit (board new k))
      (cond (groups_fit M x new)
      (cond (nat_le (used + length (difference (board old k) (board new k))) room)
      (Ok (used + length (difference (board old k) (board new k))))
      (Err (Paper k)))
      (Err (Wide k)))
      (Err (Over k))

  pub record Step (h : Holding) (news : List Lines) (room used k : ℕ) (x : Node) (sheet : List ChangeLine) (r : Result ℕ WorkFault) : Type 0 where
    pub answer : r ≡ step_answer h.shelves news room used k x
    pub lines : (n : ℕ) → r ≡ Ok n → OnlyChanges h news (k + 1) room sheet n
