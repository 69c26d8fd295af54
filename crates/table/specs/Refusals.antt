-- The refusal of a table, by the number and the place that a caller is told. Assumes nothing.
--     full_at n          number 9: a run of n places has none left
--     refusal_of f       what `Full` tells
--     refusal_in r       the refusal that a call answered, if it was one
use Rattle.std.specs.Prelude.{ℕ, Some, None, Ok, Err, Option, Result}
use Rattle.bag.specs.Refusal.{Refusal, refusal}
use Rattle.table.specs.declared.full.Full.{Full}

abbrev pub full_at : ℕ → Refusal
full_at n = refusal 9 n

abbrev pub refusal_of : Full → Refusal
refusal_of f = full_at f.places

abbrev pub refusal_in : {A : Type 0} → Result A Full → Option Refusal
refusal_in (Ok a) = None
refusal_in (Err f) = Some (refusal_of f)
