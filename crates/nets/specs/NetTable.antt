-- What a table of nets means while the records of a message are added up: signed changes by node and row, as one canonical list.
-- A key is the node followed by the row. It is itself a row of nine columns, and the order of rows is then the order by node and row.
-- Assumes nothing.
--     changes t            the changes of a table's lines, by their keys
--     Addable t r          the table has a place left, and the record's row comes to a net that a line can hold
--     Added s r t          t is s with a record added to the net of its node and row, and has at most one line more
use Rattle.std.specs.Prelude.{◌≡◌, suc, ◌<◌, ◌≤◌, map, length, ◌+ℤ◌, FitsSigned}
use Rattle.std.specs.Int.{w32}
use Rattle.bag.specs.Bag.{Line, Lines, count, add_copies}
use Rattle.table.specs.LineTables.{ChangeTable}
use Rattle.table.specs.Tables.{items, capacity}
use Rattle.message.specs.declared.record.Record.{Record}
use Rattle.settling.specs.Keys.{key, keyed}
use Rattle.nets.specs.Nets.{signed_copies}

abbrev pub keyed_movement : Record → Line
keyed_movement r = (key r.node r.row, signed_copies r)

abbrev pub changes : ChangeTable → Lines
changes t = map keyed (items t)

pub record Addable (t : ChangeTable) (r : Record) : Type 0 where
  pub room : length (items t) < capacity t
  pub fits : FitsSigned w32 (signed_copies r +ℤ count (changes t) (key r.node r.row))

pub record Added (s : ChangeTable) (r : Record) (t : ChangeTable) : Type 0 where
  pub after : changes t ≡ add_copies (key r.node r.row) (signed_copies r) (changes s)
  pub longer : length (items t) ≤ suc (length (items s))
