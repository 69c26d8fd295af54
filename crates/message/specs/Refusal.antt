-- The number and the place of every refusal of the reader and of the writer. This is the only place that gives them numbers.
--
--   read_refusal    Torn 1, Map 2, Long 3, each at the first byte of the record that is refused
--   read_text       what is printed of a reader's fault: `refused`, its number, `at` and its place
--   write_refusal   Long 3 at 1,024; Map 2 at the index of the first unlawful record; Paper 8 at 0
--   read_told       a reader's answer with its fault as number and place
--   write_told      a writer's answer, likewise
--   Told            a refusal where both take part: whose it is, and its number and place
--   rewrite_told    the answer of a call that reads and writes
use Rattle.std.specs.Prelude.{ℕ, List, ◌++◌, Ok, Err, Result, codes, decimal}
use Rattle.bag.specs.Refusal.{Refusal, refusal}
use Rattle.message.specs.Limits.{max_records}
use Rattle.message.specs.declared.fault.ReadFault.{ReadFault}
use Rattle.message.specs.declared.fault.ReadFault.TheVariants as reads
use Rattle.message.specs.declared.fault.WriteFault.{WriteFault}
use Rattle.message.specs.declared.fault.WriteFault.TheVariants as writes
use Rattle.message.specs.declared.fault.RewriteFault.{RewriteFault}
use Rattle.message.specs.declared.fault.RewriteFault.TheVariants as rewrites

abbrev pub read_refusal : ReadFault → Refusal
read_refusal (reads.Torn at) = refusal 1 at
read_refusal (reads.Map at) = refusal 2 at
read_refusal (reads.Long at) = refusal 3 at

abbrev pub read_text : ReadFault → List ℕ
read_text f =
    codes "refused " ++ (decimal (read_refusal f).number ++ (codes " at " ++ decimal (read_refusal f).place))

abbrev pub write_refusal : WriteFault → Refusal
write_refusal writes.Long = refusal 3 max_records
write_refusal (writes.Map index) = refusal 2 index
write_refusal writes.Paper = refusal 8 0

-- a place in a message and an index of a record are numbers alike, so whose refusal it is has to be told
pub data Told : Type 0 where
  of_reading : Refusal → Told
  of_writing : Refusal → Told

abbrev pub rewrite_refusal : RewriteFault → Told
rewrite_refusal (rewrites.Read fault) = of_reading (read_refusal fault)
rewrite_refusal (rewrites.Write fault) = of_writing (write_refusal fault)

abbrev pub read_told : {X : Type 0} → Result X ReadFault → Result X Refusal
read_told (Ok x) = Ok x
read_told (Err fault) = Err (read_refusal fault)

abbrev pub write_told : {X : Type 0} → Result X WriteFault → Result X Refusal
write_told (Ok x) = Ok x
write_told (Err fault) = Err (write_refusal fault)

abbrev pub rewrite_told : {X : Type 0} → Result X RewriteFault → Result X Told
rewrite_told (Ok x) = Ok x
rewrite_told (Err fault) = Err (rewrite_refusal fault)
