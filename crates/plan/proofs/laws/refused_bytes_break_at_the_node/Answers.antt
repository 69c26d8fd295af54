use Rattle.plan.proofs.Breaks.{refused_where_broken}
use Rattle.plan.proofs.laws.refused_bytes_break_at_the_node.Goals as goal

pub returns : goal.returns
returns c = refused_where_broken
