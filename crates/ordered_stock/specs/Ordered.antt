-- What an ordered stock means, and what every ordered stock keeps. Assumes nothing.
--     held stock                what the stock means: what its table holds
--     SoundOrdered stock        the table is sound, its lines are lawful, there are no more than the capacity, and the whole run is the
--                               sixteen bags laid out in order with blanks behind
--     lent_run stock            the name of the run that the stock was lent
use Rattle.std.specs.Prelude.{◌≡◌, ℕ}
use Rattle.std.specs.List.{AllByRecursion}
use Rattle.bag.specs.Lines.{blank_stock_line}
use Rattle.bag.specs.Order.{stock_line_order}
use Rattle.table.specs.Tables.{items, capacity, Sound}
use Rattle.stock.specs.Holding.{Holding, LawfulHolding, LawfulLine}
use Rattle.ordered_stock.specs.OnTable.{held_in, run_of}
use Rattle.ordered_stock.specs.declared.ordered.OrderedStock.{OrderedStock}

abbrev pub held : OrderedStock → Holding
held stock = held_in stock.table

pub record SoundOrdered (stock : OrderedStock) : Type 0 where
  pub table : Sound stock_line_order blank_stock_line stock.table
  pub lines : AllByRecursion LawfulLine (items stock.table)
  pub run : stock.table.run.now ≡ run_of (capacity stock.table) (held stock)
  pub holding : LawfulHolding (held stock)

abbrev pub lent_run : OrderedStock → ℕ
lent_run stock = stock.table.run.ghost_name
