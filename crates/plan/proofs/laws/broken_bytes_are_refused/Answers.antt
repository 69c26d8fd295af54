use Rattle.plan.proofs.Breaks.{broken_are_refused}
use Rattle.plan.proofs.laws.broken_bytes_are_refused.Goals as goal

pub returns : goal.returns
returns c = broken_are_refused
