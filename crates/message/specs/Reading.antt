-- A message read record by record, and what its cursor answers.
--
--   Reading        a message as its reader meets it: each record with its first byte, then the end or a refusal
--   reading        the reading of a message's bytes, of which a 1,025th record is refused
--   records_of     the records of a reading that comes to its end, or the refusal that it comes to
--   first_records  the records that the first i steps answer
--   answer_at      the answer of the cursor's i-th step, counted from 0
--   step           one step of the cursor: its answer, the next record's first byte and how many records were read
--   stand          where the cursor stands after i steps
use Rattle.std.specs.Prelude.{ℕ, zero, suc, ◌+◌, ◌-◌, cond, List, [], ◌∷◌, length, drop, Some, None, Ok, Err, Option, Result, nat_le}
use Rattle.message.specs.declared.record.Record.{Record}
use Rattle.bag.specs.Refusal.{Refusal}
use Rattle.message.specs.declared.fault.ReadFault.TheVariants.{Long}
use Rattle.message.specs.Limits.{max_records}
use Rattle.message.specs.Refusal.{read_refusal}
use Rattle.message.specs.Decode.{decode}

pub data Reading : Type 0 where
  ends : Reading
  refused : Refusal → Reading
  item : ℕ → Record → Reading → Reading

abbrev pub proceed : ℕ → Result (Record × List ℕ) Refusal → (List ℕ → Reading) → Reading
proceed at (Ok got) rest = item at got.0 (rest got.1)
proceed at (Err e) rest = refused e

-- n more records may come, and the next begins at the byte `at`
unfoldable pub reading_from : ℕ → ℕ → List ℕ → Reading
reading_from n at [] = ends
reading_from zero at (b ∷ bytes) = refused (read_refusal (Long at))
reading_from (suc n) at (b ∷ bytes) =
    proceed at (decode at (b ∷ bytes)) (λ rest. reading_from n (at + (length (b ∷ bytes) - length rest)) rest)

abbrev pub reading : List ℕ → Reading
reading bytes = reading_from max_records 0 bytes

abbrev pub behind : Record → Result (List Record) Refusal → Result (List Record) Refusal
behind r (Ok rs) = Ok (r ∷ rs)
behind r (Err e) = Err e

unfoldable pub records_of : Reading → Result (List Record) Refusal
records_of ends = Ok []
records_of (refused e) = Err e
records_of (item at r rest) = behind r (records_of rest)

unfoldable pub first_records : Reading → ℕ → List Record
first_records ends i = []
first_records (refused e) i = []
first_records (item at r rest) zero = []
first_records (item at r rest) (suc i) = r ∷ first_records rest i

unfoldable pub answer_at : Reading → ℕ → Result (Option Record) Refusal
answer_at ends i = Ok None
answer_at (refused e) i = Err e
answer_at (item at r rest) zero = Ok (Some r)
answer_at (item at r rest) (suc i) = answer_at rest i

abbrev pub Step : Type 0
Step = Result (Option Record) Refusal × ℕ × ℕ

abbrev pub moved : List ℕ → ℕ → ℕ → Result (Record × List ℕ) Refusal → Step
moved bytes at seen (Ok got) = (Ok (Some got.0), length bytes - length got.1, seen + 1)
moved bytes at seen (Err e) = (Err e, at, seen)

abbrev pub step : List ℕ → ℕ → ℕ → Step
step bytes at seen =
    cond (nat_le (length bytes) at) (Ok None, at, seen) (cond (nat_le max_records seen) (Err (read_refusal (Long at)), at, seen) (moved bytes at seen (decode at (drop at bytes))))

unfoldable pub stand : List ℕ → ℕ → ℕ × ℕ
stand bytes zero = (0, 0)
stand bytes (suc i) = ((step bytes (stand bytes i).0 (stand bytes i).1).1, (step bytes (stand bytes i).0 (stand bytes i).1).2)
