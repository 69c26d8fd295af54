use Rattle.std.proofs.Common.{◌≡◌, ℕ, false, List, ◌++◌, take}
use Rattle.bag.specs.declared.lines.ChangeLine.{ChangeLine}
use Rattle.bag.specs.Bag.{Lines}
use Rattle.stock.specs.Holding.{shelf_of}
use Rattle.sheet.specs.Sheets.{of_node, OnPage}
use Rattle.delta.specs.NodeChange.{over_at}
use Rattle.delta.specs.Writing.{SameTask, Written, without_zeros}
use Rattle.delta.proofs.writer.ChangeWriter.append_all.Given as goal

-- the lines before the place of `line` are written, and none of them has too many copies
abbrev pub invariant-loop-line : goal.invariant-loop-line
invariant-loop-line g l =
    SameTask l.initial.self l.self
    × ((c : ℕ) (d xs : Lines) → l.lines ≡ of_node c xs → Written g.S.Stock.meaning l.initial.self d → Written g.S.Stock.meaning l.self (d ++ without_zeros (take l.line-index xs)))
    × ((es : List ChangeLine) (c : ℕ) (xs : Lines) → l.lines ≡ of_node c xs → OnPage l.initial.self.page.now l.initial.self.lines es
    → OnPage l.self.page.now l.self.lines (es ++ of_node l.initial.self.node (without_zeros (take l.line-index xs))))
    × ((c : ℕ) (xs : Lines) → l.lines ≡ of_node c xs → over_at (shelf_of (g.S.Stock.meaning l.initial.self.stock.now) l.initial.self.node) (without_zeros (take l.line-index xs)) ≡ false)
