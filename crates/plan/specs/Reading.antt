-- What is read from the fields that are left.
--
--   Reads       what is read is answered, and the bytes behind it are left; or the cause is answered why nothing is read
--   EachReads   so does every call, each at the fields that are left then
--   Fills       so does a filling of places, each in turn
use Rattle.std.specs.Prelude.{◌≡◌, ℕ, List, length, Ok, Err, Result}
use Rattle.std.specs.Borrow.{MutBor}
use Rattle.plan.specs.declared.fault.Cause.{Cause}
use Rattle.plan.specs.declared.field.Fields.{Fields}
use Rattle.plan.specs.Fields.{Read, items}
use Rattle.plan.specs.Refusal.{cause_number}

abbrev pub Reads : {X : Type 0} → Read X → Result X Cause → List ℕ → Type 0
Reads read (Ok x) left = read ≡ Ok (x, left)
Reads read (Err cause) left = read ≡ Err (cause_number cause)

abbrev pub EachReads : {X : Type 0} → (List ℕ → Read X) → (MutBor Fields → Result X Cause → MutBor Fields → Type 0) → Type 0
EachReads {X} reader call = (x : MutBor Fields) (r : Result X Cause) (y : MutBor Fields) → call x r y → Reads (reader x.now.rest.now) r y.now.rest.now

abbrev pub Fills : {X : Type 0} → (List ℕ → Read X) → List X → List ℕ → Result Unit Cause → List X → List ℕ → Type 0
Fills reader old bytes (Ok _) new left = items reader (length old) bytes ≡ Ok (new, left)
Fills reader old bytes (Err cause) new left = items reader (length old) bytes ≡ Err (cause_number cause)
