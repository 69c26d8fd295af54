use Rattle.std.proofs.Common.{take}
use Rattle.std.specs.List.{flat_map}
use Rattle.message.specs.Buffer.{Put}
use Rattle.message.specs.Encode.{column_bytes}
use Rattle.message.proofs.put.Output.put_columns.Given as goal

abbrev pub invariant-loop-column : goal.invariant-loop-column
invariant-loop-column l =
    Put l.initial.self.buffer l.initial.self.at (flat_map column_bytes (take l.column-index l.row)) l.self.buffer l.self.at
