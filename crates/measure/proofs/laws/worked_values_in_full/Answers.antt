use Rattle.measure.proofs.WorkedInFullHold.{worked_values_in_full}
use Rattle.measure.proofs.laws.worked_values_in_full.Goals as goal

pub returns : goal.returns
returns c = worked_values_in_full
