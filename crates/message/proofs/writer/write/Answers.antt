use Rattle.std.proofs.Common.{◌<◌, length, sym, arith}
use Rattle.message.specs.Encode.{encode_all}
use Rattle.message.proofs.Writings.{written_long, written_unlawful, written_short, written_laid}
use Rattle.message.proofs.writer.write.Goals as goal

pub returns-then-records-gt-MAX_RECORDS-clause-answer : goal.returns-then-records-gt-MAX_RECORDS-clause-answer
returns-then-records-gt-MAX_RECORDS-clause-answer c = written_long c.args.records.now c.args.buffer.now c.if-records-gt-MAX_RECORDS.true

pub returns-in-Some-clause-answer : goal.returns-in-Some-clause-answer
returns-in-Some-clause-answer c =
    written_unlawful c.args.records.now c.args.buffer.now c.in-Some.index c.if-records-gt-MAX_RECORDS.false (sym c.in-Some.ensures.is)

pub returns-then-buffer-length-clause-answer : goal.returns-then-buffer-length-clause-answer
returns-then-buffer-length-clause-answer c =
    let l : length c.args.buffer.now < length (encode_all c.args.records.now) = omega arith in
    written_short c.args.records.now c.args.buffer.now c.if-records-gt-MAX_RECORDS.false (sym c.in_default.ensures.is) l

pub returns-clause-answer : goal.returns-clause-answer
returns-clause-answer c =
    written_laid c.args.records.now c.args.buffer.now c.message_length-length.result c.put_records.new.buffer c.if-records-gt-MAX_RECORDS.false (sym c.in_default.ensures.is) c.message_length-length.ensures c.if-buffer-length.false c.put_records.ensures
