use Rattle.nets.proofs.NetFacts.{net_laws}
use Rattle.nets.proofs.laws.net_laws.Goals as goal

pub returns : goal.returns
returns c = net_laws
