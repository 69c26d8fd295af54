use Rattle.table.proofs.Lookups.{lookup_laws}
use Rattle.table.proofs.laws.lookup_laws.Goals as goal

pub returns : goal.returns
returns g c = lookup_laws g.met.E.Entry.lawful
