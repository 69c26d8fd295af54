-- The layer, the number and the place of every refusal of gathering.
--
--   Told             a refusal with its layer: the message's, or the yard's own
--   refusal_in       its number and place
--   table_refusal    Table 4 at the first byte of the record that is refused
--   gather_refusal   the reader's refusals whole, of the message's layer; Table of the yard's
--   gather_told      the answer of a call with its fault as layer, number and place
--   fault_in         the refusal that was told, if it was one
use Rattle.std.specs.Prelude.{ℕ, Some, None, Ok, Err, Option, Result}
use Rattle.bag.specs.Refusal.{Refusal, refusal}
use Rattle.message.specs.Refusal.{read_refusal}
use Rattle.nets.specs.declared.fault.GatherFault.{GatherFault}
use Rattle.nets.specs.declared.fault.GatherFault.TheVariants.{Message, Table}

pub data Told : Type 0 where
  of_message : Refusal → Told
  of_yard : Refusal → Told

abbrev pub refusal_in : Told → Refusal
refusal_in (of_message e) = e
refusal_in (of_yard e) = e

abbrev pub table_refusal : ℕ → Told
table_refusal at = of_yard (refusal 4 at)

abbrev pub gather_refusal : GatherFault → Told
gather_refusal (Message fault) = of_message (read_refusal fault)
gather_refusal (Table place) = table_refusal place

abbrev pub gather_told : {X : Type 0} → Result X GatherFault → Result X Told
gather_told (Ok x) = Ok x
gather_told (Err fault) = Err (gather_refusal fault)

abbrev pub fault_in : {X : Type 0} → Result X Told → Option Told
fault_in (Ok x) = None
fault_in (Err e) = Some e
