-- The records that a list of records holds.
--
--   items     its records, in order
--   listed    an answer with the list's records in the place of the list
use Rattle.std.specs.Prelude.{List, Ok, Err, Result}
use Rattle.message.specs.declared.record.Record.{Record}
use Rattle.message.specs.declared.record_list.RecordList.{RecordList}

abbrev pub items : RecordList → List Record
items l = l.records.items

abbrev pub listed : {E : Type 0} → Result RecordList E → Result (List Record) E
listed (Ok l) = Ok (items l)
listed (Err e) = Err e
