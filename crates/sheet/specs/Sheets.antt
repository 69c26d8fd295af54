-- What a lent sheet holds while it is filled: lines as far as there is room, and blank lines behind them. Assumes nothing.
--     change_line k e          the line of node k for a row with a signed number of copies
--     of_node k d              the change d of node k, as lines
--     flattened k ds           the changes of the nodes from k on, one behind the other
--     laid len room es         the first lines of es, as many as there is room for, on a sheet of len lines, and blank lines behind
--     tally room es            how many lines there are, or one more than there is room for
--     OnSheet room sheet used es      the lines es stand on the sheet as far as there is room, and `used` is their tally
--     lines_told places es     how many lines es are, or none if they are more than the places of a page
--     OnPage page lines es     the lines es stand on the page as far as it has places, and `lines` is what is told of them
--     RunOf es from to c d     in es, the places from `from` up to `to` have the change d of node c
use Rattle.std.specs.Prelude.{◌≡◌, ℕ, suc, ◌-◌, ◌≤◌, min, cond, List, [], ◌∷◌, ◌++◌, map, length, take, drop, replicate, Some, None, Option, nat_le}
use Rattle.bag.specs.declared.lines.ChangeLine.{ChangeLine}
use Rattle.bag.specs.Bag.{Line, Lines}
use Rattle.bag.specs.Lines.{blank_change_line}

abbrev pub change_line : ℕ → Line → ChangeLine
change_line k e = record { node = k; row = e.0; change = e.1 }

abbrev pub of_node : ℕ → Lines → List ChangeLine
of_node k d = map (change_line k) d

unfoldable pub flattened : ℕ → List Lines → List ChangeLine
flattened k [] = []
flattened k (d ∷ ds) = of_node k d ++ flattened (suc k) ds

unfoldable pub laid : ℕ → ℕ → List ChangeLine → List ChangeLine
laid len room es = take room es ++ replicate (len - min room (length es)) blank_change_line

-- a full sheet ends no walk, so the number of lines goes one past the room and stops there
abbrev pub tally : ℕ → List ChangeLine → ℕ
tally room es = min (length es) (suc room)

pub record OnSheet (room : ℕ) (sheet : List ChangeLine) (used : ℕ) (es : List ChangeLine) : Type 0 where
  pub within : room ≤ length sheet
  -- no sheet uses more lines than that
  pub small : room ≤ 8192
  pub many : used ≡ tally room es
  pub are : sheet ≡ laid (length sheet) room es

abbrev pub lines_told : ℕ → List ChangeLine → Option ℕ
lines_told places es = cond (nat_le (length es) places) (Some (length es)) None

-- a page is the part of a sheet that is left for the lines of one node
pub record OnPage (page : List ChangeLine) (lines : Option ℕ) (es : List ChangeLine) : Type 0 where
  pub are : page ≡ laid (length page) (length page) es
  pub told : lines ≡ lines_told (length page) es

pub record RunOf (es : List ChangeLine) (from to c : ℕ) (d : Lines) : Type 0 where
  pub ascends : from ≤ to
  pub inside : to ≤ length es
  pub holds : take (to - from) (drop from es) ≡ of_node c d
