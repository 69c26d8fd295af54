-- What the lines of a table mean as a stock: the lines sorted onto sixteen shelves. Assumes nothing.
--     on_shelf s ls             the bag of the lines that stand on shelf s
--     shelves_from s n ls       the bags of the n shelves from s on
--     shelves_of ls             the bags of the sixteen shelves
--     lines_of_bag s bag        a bag as lines on shelf s, in order
--     laid_out s bags           the bags of the shelves from s on as lines, one shelf behind the other
--     held_in table             what the table means; its capacity is the run's length, at most 4,096
--     run_of places h           what stands in a run of so many places, told by the meaning alone: the bags laid out in order, and blanks
--     SoundOn table             the lines are lawful, there are no more than the capacity, and the run is as told by the meaning
use Rattle.std.specs.Prelude.{◌≡◌, ℕ, zero, suc, ◌-◌, min, cond, List, [], ◌∷◌, ◌++◌, replicate, pos, ◌==◌, unsigned_abs}
use Rattle.std.specs.List.{AllByRecursion}
use Rattle.bag.specs.declared.lines.StockLine.{StockLine}
use Rattle.bag.specs.Lines.{blank_stock_line}
use Rattle.bag.specs.Bag.{Line, Lines}
use Rattle.table.specs.LineTables.{StockTable}
use Rattle.table.specs.Tables.{items, capacity}
use Rattle.stock.specs.Holding.{Holding, LawfulHolding, LawfulLine, lines_of}

abbrev pub as_line : StockLine → Line
as_line l = (l.row, pos l.count)

unfoldable pub on_shelf : ℕ → List StockLine → Lines
on_shelf s [] = []
on_shelf s (l ∷ ls) = cond (l.shelf == s) (as_line l ∷ on_shelf s ls) (on_shelf s ls)

unfoldable pub shelves_from : ℕ → ℕ → List StockLine → List Lines
shelves_from s zero ls = []
shelves_from s (suc n) ls = on_shelf s ls ∷ shelves_from (suc s) n ls

abbrev pub shelves_of : List StockLine → List Lines
shelves_of ls = shelves_from 0 16 ls

unfoldable pub lines_of_bag : ℕ → Lines → List StockLine
lines_of_bag s [] = []
lines_of_bag s (e ∷ xs) = record { shelf = s; row = e.0; count = unsigned_abs e.1 } ∷ lines_of_bag s xs

unfoldable pub laid_out : ℕ → List Lines → List StockLine
laid_out s [] = []
laid_out s (bag ∷ bags) = lines_of_bag s bag ++ laid_out (suc s) bags

abbrev pub held_in : StockTable → Holding
held_in table = record { capacity = min (capacity table) 4096; shelves = shelves_of (items table) }

-- what stands in the lent run, told by the meaning alone
abbrev pub run_of : ℕ → Holding → List StockLine
run_of places h = laid_out 0 h.shelves ++ replicate (places - lines_of h) blank_stock_line

pub record SoundOn (table : StockTable) : Type 0 where
  pub lines : AllByRecursion LawfulLine (items table)
  pub run : table.run.now ≡ run_of (capacity table) (held_in table)
  pub holding : LawfulHolding (held_in table)
