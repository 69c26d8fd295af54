-- When change lines lead from one holding to another; the node of a line is the shelf that it changes. Assumes nothing.
--     LeadsInCounts h lines aim      each count of aim is that of h with the change that the lines have for it
--     Leads h lines aim              the same, where aim is what a stock can hold
use Rattle.std.specs.Prelude.{◌≡◌, ℕ, ◌≤◌, List, length, ◌+ℤ◌}
use Rattle.std.specs.List.{AllByRecursion}
use Rattle.bag.specs.declared.lines.ChangeLine.{ChangeLine}
use Rattle.bag.specs.Order.{Row}
use Rattle.bag.specs.Bag.{count, Canonical, IsBag}
use Rattle.stock.specs.Holding.{Holding, shelf_of, LawfulHolding}
use Rattle.settling.specs.Keys.{changes, change_at}

-- `aim` may have more lines than there is room for
pub record LeadsInCounts (h : Holding) (lines : List ChangeLine) (aim : Holding) : Type 0 where
  -- keys strictly ascend by node and row, and no change is 0
  pub in_order : Canonical (changes lines)
  pub nodes : AllByRecursion (λ l. l.node ≤ 15) lines
  pub sixteen : length aim.shelves ≡ 16
  pub bags : (s : ℕ) → IsBag (shelf_of aim s)
  pub capacity : aim.capacity ≡ h.capacity
  pub counts : (s : ℕ) → s ≤ 15 → (q : Row) → count (shelf_of aim s) q ≡ count (shelf_of h s) q +ℤ change_at lines s q

pub record Leads (h : Holding) (lines : List ChangeLine) (aim : Holding) : Type 0 where
  pub in_counts : LeadsInCounts h lines aim
  pub lawful : LawfulHolding aim
