-- The laws of reading and writing, over whole messages.
--
--   ReadThenWritten      a message that is read without a refusal, written again, gives its bytes
--   WrittenThenRead      lawful records, at most 1,024, are written where there is room, and read again give themselves and then none
--   OneToOne             two such lists of records with equal bytes are equal
--   CursorReads          the steps of a cursor answer the records in order, then none or the refusal, again and again
--   CursorStands         after i steps the cursor stands behind the bytes of the records that these answered, and a refusal's place is there
use Rattle.std.specs.Prelude.{◌≡◌, ℕ, ◌≤◌, List, ◌++◌, length, drop, None, Ok, Err}
use Rattle.std.specs.List.{slice_get, AllByRecursion}
use Rattle.bag.specs.Refusal.{Refusal}
use Rattle.message.specs.declared.record.Record.{Record}
use Rattle.message.specs.Limits.{max_records}
use Rattle.bag.specs.Bytes.{Bytes}
use Rattle.message.specs.Lawful.{first_unlawful, InRange}
use Rattle.message.specs.Encode.{encode_all}
use Rattle.message.specs.Reading.{reading, records_of, answer_at, first_records, step, stand}
use Rattle.message.specs.Writing.{written}

abbrev pub ReadThenWritten : Type 0
ReadThenWritten =
    (bytes : List ℕ) (rs : List Record) (buffer : List ℕ) → Bytes bytes → records_of (reading bytes) ≡ Ok rs → length bytes ≤ length buffer →
    written rs buffer ≡ (Ok (length bytes), bytes ++ drop (length bytes) buffer)

-- records that a message can hold
pub record Holdable (rs : List Record) : Type 0 where
  pub range : AllByRecursion InRange rs
  pub law : first_unlawful rs ≡ None
  pub few : length rs ≤ max_records

pub record ComesBack (rs : List Record) (buffer : List ℕ) : Type 0 where
  pub accepted : written rs buffer ≡ (Ok (length (encode_all rs)), encode_all rs ++ drop (length (encode_all rs)) buffer)
  pub whole : records_of (reading (encode_all rs)) ≡ Ok rs
  -- the i-th step answers the i-th record, and none past the last
  pub steps : (i : ℕ) → (step (encode_all rs) (stand (encode_all rs) i).0 (stand (encode_all rs) i).1).0 ≡ Ok (slice_get rs i)

abbrev pub WrittenThenRead : Type 0
WrittenThenRead = (rs : List Record) (buffer : List ℕ) → Holdable rs → length (encode_all rs) ≤ length buffer → ComesBack rs buffer

abbrev pub OneToOne : Type 0
OneToOne = (rs ss : List Record) → Holdable rs → Holdable ss → encode_all rs ≡ encode_all ss → rs ≡ ss

abbrev pub CursorReads : Type 0
CursorReads =
    (bytes : List ℕ) (i : ℕ) → (step bytes (stand bytes i).0 (stand bytes i).1).0 ≡ answer_at (reading bytes) i

pub record StandsBehind (bytes : List ℕ) (i : ℕ) : Type 0 where
  pub behind_records : (stand bytes i).0 ≡ length (encode_all (first_records (reading bytes) i))
  pub at_refusal : (e : Refusal) → answer_at (reading bytes) i ≡ Err e → e.place ≡ (stand bytes i).0

abbrev pub CursorStands : Type 0
CursorStands = (bytes : List ℕ) → Bytes bytes → (i : ℕ) → StandsBehind bytes i
