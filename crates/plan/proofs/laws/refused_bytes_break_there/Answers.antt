use Rattle.plan.proofs.Breaks.{refused_there}
use Rattle.plan.proofs.laws.refused_bytes_break_there.Goals as goal

pub returns : goal.returns
returns c = refused_there
