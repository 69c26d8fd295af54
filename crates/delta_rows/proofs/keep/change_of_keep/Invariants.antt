use Rattle.std.proofs.Common.{◌≡◌, ℕ, [], take}
use Rattle.bag.specs.Bag.{Lines, Canonical}
use Rattle.sheet.specs.Sheets.{of_node}
use Rattle.delta.specs.Writing.{SameTask, Written}
use Rattle.delta_rows.specs.Keep.{kept_by}
use Rattle.delta_rows.proofs.keep.change_of_keep.Given as goal

-- the lines before the place of `line` are done
abbrev pub invariant-loop-line : goal.invariant-loop-line
invariant-loop-line g l =
    SameTask l.initial.writer l.writer
    × ((k : ℕ) (d : Lines) → l.below ≡ of_node k d → Canonical d → Written g.S.Stock.meaning l.initial.writer [] → Written g.S.Stock.meaning l.writer (kept_by l.condition (take l.line-index d)))
