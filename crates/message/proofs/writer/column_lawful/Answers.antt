use Rattle.message.proofs.Lawfulness.{lawful_by_bits}
use Rattle.message.proofs.writer.column_lawful.Goals as goal

pub returns-clause-is : goal.returns-clause-is
returns-clause-is c = lawful_by_bits c.args.v c.ranges.v
