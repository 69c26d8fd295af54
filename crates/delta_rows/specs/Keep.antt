-- What a keep makes of a bag or of a change, by its condition. Assumes nothing.
--     kept_by condition xs      the rows that the condition holds of
use Rattle.bag.specs.Bag.{Lines}
use Rattle.bag.specs.Operators.{keep}
use Rattle.delta_rows.specs.declared.condition.Condition.{Condition}

abbrev pub kept_by : Condition → Lines → Lines
kept_by condition xs = keep condition.column condition.relation condition.operand xs
