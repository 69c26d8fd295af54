use Rattle.nets.proofs.NetRows.{net_rows}
use Rattle.nets.proofs.laws.rows_of_nets.Goals as goal

pub returns : goal.returns
returns c = net_rows
