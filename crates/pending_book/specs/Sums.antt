-- A holding with pending changes added; the node of a line is the shelf that it changes. Assumes nothing.
--     with_change_of h p       the holding h with the change of one line
--     sum_of h ps              the holding h with the changes of the lines ps
--     gain_of, loss_of s r n   what putting and what taking n copies of the row r on shelf s changes
--     Accepts h p              the change of p leaves a lawful holding
use Rattle.std.specs.Prelude.{◌≡◌, ℕ, ◌≤◌, false, List, [], ◌∷◌, pos, ◌+ℤ◌, neg_ℤ}
use Rattle.bag.specs.declared.lines.ChangeLine.{ChangeLine}
use Rattle.bag.specs.Order.{Row}
use Rattle.bag.specs.Columns.{IsRow}
use Rattle.bag.specs.Bag.{is_zero, count}
use Rattle.stock.specs.Holding.{Holding, shelf_of, lines_of, with_copies}
use Rattle.pending_lines.specs.ChangeLists.{IsCount}

abbrev pub with_change_of : Holding → ChangeLine → Holding
with_change_of h p = with_copies h p.node p.row p.change

unfoldable pub sum_of : Holding → List ChangeLine → Holding
sum_of h [] = h
sum_of h (p ∷ ps) = with_change_of (sum_of h ps) p

abbrev pub gain_of : ℕ → Row → ℕ → ChangeLine
gain_of s r n = record { node = s; row = r; change = pos n }

abbrev pub loss_of : ℕ → Row → ℕ → ChangeLine
loss_of s r n = record { node = s; row = r; change = neg_ℤ (pos n) }

-- what a change must meet for a holding to stay lawful
pub record Accepts (h : Holding) (p : ChangeLine) : Type 0 where
  pub some : is_zero p.change ≡ false
  pub shelf : p.node ≤ 15
  pub row : IsRow p.row
  pub counts : IsCount (count (shelf_of h p.node) p.row +ℤ p.change)
  pub room : lines_of (with_change_of h p) ≤ h.capacity
