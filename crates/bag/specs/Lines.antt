-- What places hold that no line uses: all numbers are 0. Assumes nothing.
--     blank_stock_line, blank_change_line      the blank of each kind of line
use Rattle.std.specs.Prelude.{replicate, pos}
use Rattle.bag.specs.declared.lines.StockLine.{StockLine}
use Rattle.bag.specs.declared.lines.ChangeLine.{ChangeLine}

abbrev pub blank_stock_line : StockLine
blank_stock_line = record { shelf = 0; row = replicate 8 (pos 0); count = 0 }

abbrev pub blank_change_line : ChangeLine
blank_change_line = record { node = 0; row = replicate 8 (pos 0); change = pos 0 }
