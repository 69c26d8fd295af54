-- The fault of a node, with the number of the node. Assumes nothing.
--     fault_at k f      what is told of node k where its new bag has the fault f
use Rattle.std.specs.Prelude.{ℕ}
use Rattle.delta.specs.declared.fault.NodeFault.{NodeFault}
use Rattle.delta.specs.declared.fault.NodeFault.TheVariants as node
use Rattle.posting.specs.declared.fault.WorkFault.{WorkFault}
use Rattle.posting.specs.declared.fault.WorkFault.TheVariants.{Over, Wide}

abbrev pub fault_at : ℕ → NodeFault → WorkFault
fault_at k node.Over = Over k
fault_at k node.Wide = Wide k
