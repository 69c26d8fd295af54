-- What gathering a message leaves in a lent run of change lines.
--
--   most_lines              how many lines the nets of a message can have: as many as it can have records
--   laid_nets len m         the nets of the movements m in a run of len lines, and blank lines behind
--   lines_told nodes bytes  what gathering answers: how many lines the nets have, or the refusal
use Rattle.std.specs.Prelude.{ℕ, ◌-◌, List, ◌++◌, length, replicate, Ok, Err, Result}
use Rattle.bag.specs.declared.lines.ChangeLine.{ChangeLine}
use Rattle.bag.specs.Lines.{blank_change_line}
use Rattle.message.specs.declared.record.Record.{Record}
use Rattle.message.specs.Limits.{max_records}
use Rattle.plan.specs.declared.node.Node.{Node}
use Rattle.nets.specs.Nets.{nets_of}
use Rattle.nets.specs.GatherRefusal.{Told}
use Rattle.nets.specs.Gathered.{gathered}

abbrev pub most_lines : ℕ
most_lines = max_records

abbrev pub laid_nets : ℕ → List Record → List ChangeLine
laid_nets len m = nets_of m ++ replicate (len - length (nets_of m)) blank_change_line

abbrev pub counted_lines : Result (List Record) Told → Result ℕ Told
counted_lines (Ok m) = Ok (length (nets_of m))
counted_lines (Err e) = Err e

abbrev pub lines_told : List Node → List ℕ → Result ℕ Told
lines_told nodes bytes = counted_lines (gathered nodes bytes)
