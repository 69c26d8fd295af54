-- A record as programs print it.
--
--   way           `take` or `put`
--   column_text   a blank and the column
--   record_text   `node`, the node, the way, the count, `of` and the columns
use Rattle.std.specs.Prelude.{ℕ, Bool, true, false, List, ◌++◌, ℤ, codes, decimal}
use Rattle.std.specs.Fmt.{signed_decimal}
use Rattle.std.specs.List.{flat_map}
use Rattle.message.specs.declared.record.Record.{Record}

abbrev pub way : Bool → List ℕ
way true = codes "take"
way false = codes "put"

abbrev pub column_text : ℤ → List ℕ
column_text v = codes " " ++ signed_decimal v

abbrev pub record_text : Record → List ℕ
record_text r =
    codes "node " ++ (decimal r.node ++ (codes " " ++ (way r.take ++ (codes " " ++ (decimal r.count ++ (codes " of" ++ flat_map column_text r.row))))))
