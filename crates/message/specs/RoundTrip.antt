-- A message read and written again, and records written and read again.
--
--   rewritten    the reader's refusal; or the writer's Paper for a buffer shorter than the message; or the message's length and its own bytes
--   reread       the writer's refusal; or the same records
use Rattle.std.specs.Prelude.{ℕ, List, Ok, Err, Result}
use Rattle.bag.specs.Refusal.{Refusal}
use Rattle.message.specs.declared.record.Record.{Record}
use Rattle.message.specs.Refusal.{Told, of_reading, of_writing}
use Rattle.message.specs.Reading.{reading, records_of}
use Rattle.message.specs.Writing.{Written, filled, written}

abbrev pub by_writer : {X : Type 0} → Result X Refusal → Result X Told
by_writer (Ok x) = Ok x
by_writer (Err e) = Err (of_writing e)

abbrev pub unless_refused : Result (List Record) Refusal → Written → List ℕ → Result ℕ Told × List ℕ
unless_refused (Err e) w buffer = (Err (of_reading e), buffer)
unless_refused (Ok rs) w buffer = (by_writer w.0, w.1)

unfoldable pub rewritten : List ℕ → List ℕ → Result ℕ Told × List ℕ
rewritten message buffer = unless_refused (records_of (reading message)) (filled message buffer) buffer

abbrev pub same_records : List Record → Result ℕ Refusal → Result (List Record) Told
same_records rs (Err e) = Err (of_writing e)
same_records rs (Ok n) = Ok rs

unfoldable pub reread : List Record → List ℕ → Result (List Record) Told × List ℕ
reread rs buffer = (same_records rs (written rs buffer).0, (written rs buffer).1)
