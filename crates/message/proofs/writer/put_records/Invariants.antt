use Rattle.std.proofs.Common.{take}
use Rattle.message.specs.Buffer.{Put}
use Rattle.message.specs.Encode.{encode_all}
use Rattle.message.proofs.writer.put_records.Given as goal

abbrev pub invariant-loop-record : goal.invariant-loop-record
invariant-loop-record l =
    Put l.initial.output.buffer l.initial.output.at (encode_all (take l.record-index l.records)) l.output.buffer l.output.at
