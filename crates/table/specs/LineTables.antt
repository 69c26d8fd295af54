-- Tables of the two kinds of line. Assumes nothing.
--     StockTable       lines of a store, by shelf and row
--     ChangeTable      lines of a sheet, by node and row
use Rattle.bag.specs.declared.lines.StockLine.{StockLine}
use Rattle.bag.specs.declared.lines.ChangeLine.{ChangeLine}
use Rattle.table.specs.contracts.lines.StockLineEntry.TheImpl.{ghosts as stock_entry}
use Rattle.table.specs.contracts.lines.ChangeLineEntry.TheImpl.{ghosts as change_entry}
use Rattle.table.specs.declared.table.Table.{Table}

abbrev pub StockTable : Type 0
StockTable = Table StockLine stock_entry

abbrev pub ChangeTable : Type 0
ChangeTable = Table ChangeLine change_entry
