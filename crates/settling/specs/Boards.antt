-- What a sheet of changes and new boards have to do with each other. Assumes nothing.
--     differences olds news        the change of each node, as long as it has an old and a new bag
--     replaced h news              h with the new bags on the first shelves; the shelves behind them stay as they were
--     NewBoards news               at most sixteen bags that shelves can hold
--     SheetLeadsToNewBoards        the lines of the differences lead from the old bags to the new
use Rattle.std.specs.Prelude.{ℕ, ◌≤◌, List, [], ◌∷◌, ◌++◌, length, drop, pos, ◌≤ℤ◌, slice_index_or}
use Rattle.std.specs.List.{AllByRecursion}
use Rattle.bag.specs.Order.{Row}
use Rattle.bag.specs.Columns.{IsRow}
use Rattle.bag.specs.Bag.{Lines, count, difference, IsBag, EachRow}
use Rattle.stock.specs.Holding.{Holding, lines_of, LawfulHolding}
use Rattle.sheet.specs.Sheets.{flattened}
use Rattle.settling.specs.Leading.{LeadsInCounts, Leads}

unfoldable pub differences : List Lines → List Lines → List Lines
differences [] news = []
differences (old ∷ olds) [] = []
differences (old ∷ olds) (new ∷ news) = difference old new ∷ differences olds news

abbrev pub replaced : Holding → List Lines → Holding
replaced h news = record { capacity = h.capacity; shelves = news ++ drop (length news) h.shelves }

pub record NewBoards (news : List Lines) : Type 0 where
  pub few : length news ≤ 16
  pub bags : AllByRecursion IsBag news
  pub rows : AllByRecursion (EachRow IsRow) news
  pub counts : (k : ℕ) (q : Row) → count (slice_index_or news k []) q ≤ℤ pos 65535

-- if there is room for the new bags, a stock can hold them, and settling the lines leads there
pub record SheetLeadsToNewBoards : Type 0 where
  pub in_counts : (h : Holding) (news : List Lines) → LawfulHolding h → NewBoards news →
      LeadsInCounts h (flattened 0 (differences h.shelves news)) (replaced h news)
  pub with_room : (h : Holding) (news : List Lines) → LawfulHolding h → NewBoards news → lines_of (replaced h news) ≤ h.capacity →
      Leads h (flattened 0 (differences h.shelves news)) (replaced h news)
