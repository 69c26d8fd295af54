use Rattle.message.proofs.Laid.{put_nothing}
use Rattle.message.proofs.put.Output.put_field.Goals as goal

pub returns-else-stands : goal.returns-else-stands
returns-else-stands c = rw c.if-stands.false (put_nothing c.args.self.now.buffer c.args.self.now.at)
