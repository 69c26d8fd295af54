use Rattle.message.proofs.Steps.{left_within}
use Rattle.message.proofs.reader.Reader.next.Goals as goal

pub overflow_sub-self : goal.overflow_sub-self
overflow_sub-self c =
    let s = c.args.self.now in
    left_within s.bytes.now s.at c.from_be_bytes.result c.in-Some.record c.in-Some.rest.now c.in-Some.ensures
