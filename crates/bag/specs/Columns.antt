-- Columns of rows: reading some, and making a row of some. Assumes nothing.
--     column_of r i         column i of the row r
--     operand_of o r        the number that an operand gives at the row r
--     columns_at is r       the listed columns of r
--     padded zs             the row of these columns, with 0 in those behind, eight in all
--     listed is r           the row of the listed columns of r
--     followed w a b        the row of the first w columns of a and then the columns of b
--     agree ps a b          each paired column of a equals its partner of b
--     OfWidth w r           r has eight columns, and those from w on hold 0
--     IsRow r               r has eight columns, each a signed 32-bit number: what the type Row holds
use Rattle.std.specs.Prelude.{◌≡◌, ℕ, ◌≤◌, Bool, true, ◌&&◌, List, [], ◌∷◌, ◌++◌, length, take, replicate, ℤ, pos, FitsSigned, slice_index_or}
use Rattle.std.specs.Int.{w32}
use Rattle.std.specs.List.{AllByRecursion}
use Rattle.bag.specs.declared.condition.Operand.{Operand}
use Rattle.bag.specs.declared.condition.Operand.TheVariants.{Constant, Column}
use Rattle.bag.specs.Order.{Row}
use Rattle.bag.specs.Condition.{same_number}

abbrev pub column_of : Row → ℕ → ℤ
column_of r i = slice_index_or r i (pos 0)

abbrev pub operand_of : Operand → Row → ℤ
operand_of (Constant z) r = z
operand_of (Column b) r = column_of r b

unfoldable pub columns_at : List ℕ → Row → List ℤ
columns_at [] r = []
columns_at (i ∷ is) r = column_of r i ∷ columns_at is r

abbrev pub padded : List ℤ → Row
padded zs = take 8 (zs ++ replicate 8 (pos 0))

abbrev pub listed : List ℕ → Row → Row
listed is r = padded (columns_at is r)

abbrev pub followed : ℕ → Row → Row → Row
followed w a b = padded (take w a ++ b)

unfoldable pub agree : List (ℕ × ℕ) → Row → Row → Bool
agree [] a b = true
agree (p ∷ ps) a b = same_number (column_of a p.0) (column_of b p.1) && agree ps a b

abbrev pub IsRow : Row → Type 0
IsRow r = (length r ≡ 8) × AllByRecursion (FitsSigned w32) r

abbrev pub OfWidth : ℕ → Row → Type 0
OfWidth w r = (length r ≡ 8) × ((i : ℕ) → w ≤ i → column_of r i ≡ pos 0)
