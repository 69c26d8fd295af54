-- Which records a message can hold.
--
--   lawful           no column is the smallest number, the count is at least 1, the node at most 15
--   first_unlawful   the index of the first record that is not lawful
--   InRange          eight columns, each a signed number of 32 bits, and a count of 16 bits: what the type Record holds
use Rattle.std.specs.Prelude.{◌≡◌, ℕ, suc, ◌<◌, Bool, true, cond, not, ◌&&◌, List, [], ◌∷◌, length, ℤ, pos, negsuc, Some, None, Option, FitsSigned, ◌==◌, nat_le}
use Rattle.std.specs.Option.{option_map}
use Rattle.std.specs.List.{AllByRecursion}
use Rattle.message.specs.declared.record.Record.{Record}
use Rattle.std.specs.Int.{w32}

abbrev pub column_lawful : ℤ → Bool
column_lawful (pos n) = true
column_lawful (negsuc n) = not (n == 2147483647)

abbrev pub columns_lawful : List ℤ → Bool
columns_lawful [] = true
columns_lawful (v ∷ row) = column_lawful v && columns_lawful row

abbrev pub lawful : Record → Bool
lawful r = columns_lawful r.row && (nat_le 1 r.count && nat_le r.node 15)

abbrev pub first_unlawful : List Record → Option ℕ
first_unlawful [] = None
first_unlawful (r ∷ rs) = cond (lawful r) (option_map suc (first_unlawful rs)) (Some 0)

pub record InRange (r : Record) : Type 0 where
  pub eight : length r.row ≡ 8
  pub columns : AllByRecursion (FitsSigned w32) r.row
  pub count : r.count < 65536
