-- What every table's invariant says of it. Assumes nothing.
--     sound_table t            a table is sound
--     holds_table t xs         where its entries are xs, the whole run is xs with blanks behind
--     sound_stock, sound_change, holds_stock, holds_change      the same of the two kinds of line
use Rattle.std.proofs.Common.{◌≡◌, List, subst}
use Rattle.bag.specs.Order.{stock_line_order, change_line_order}
use Rattle.bag.specs.Lines.{blank_stock_line, blank_change_line}
use Rattle.bag.specs.declared.lines.StockLine.{StockLine}
use Rattle.bag.specs.declared.lines.ChangeLine.{ChangeLine}
use Rattle.table.specs.declared.entry.Entry.{Ghosts}
use Rattle.table.specs.declared.table.Table.{Table}
use Rattle.table.specs.LineTables.{StockTable, ChangeTable}
use Rattle.table.specs.Tables.{items, Holds, Sound}
use Rattle.table.proofs.Kept.{holds_from_sound}

module _ {E : Type 0} {g : Ghosts E} (t : Table E g) where
  pub sound_table : Sound g.order g.blank t
  sound_table = record { within = t.within; ascending = t.ascending; whole = t.blanks }

  pub holds_table : (xs : List E) → items t ≡ xs → Holds g.blank t xs
  holds_table xs are = subst (Holds g.blank t) are (holds_from_sound g.blank g.order t.run.now t.len sound_table)

pub sound_stock : (t : StockTable) → Sound stock_line_order blank_stock_line t
sound_stock t = sound_table t

pub sound_change : (t : ChangeTable) → Sound change_line_order blank_change_line t
sound_change t = sound_table t

pub holds_stock : (t : StockTable) (xs : List StockLine) → items t ≡ xs → Holds blank_stock_line t xs
holds_stock t = holds_table t

pub holds_change : (t : ChangeTable) (xs : List ChangeLine) → items t ≡ xs → Holds blank_change_line t xs
holds_change t = holds_table t
