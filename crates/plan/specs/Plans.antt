-- What a plan holds.
--
--   nodes_of    its nodes, in order
--   widths_of   the widths of their rows
--   listed      an answer with the plan's nodes in the place of the plan
use Rattle.std.specs.Prelude.{ℕ, List, [], take, Ok, Err, Result}
use Rattle.plan.specs.declared.node.Node.{Node}
use Rattle.plan.specs.declared.plan.Plan.{Plan}
use Rattle.plan.specs.Lawful.{widths}

abbrev pub nodes_of : Plan → List Node
nodes_of p = take p.len p.nodes

abbrev pub widths_of : Plan → List ℕ
widths_of p = widths p.shown [] (nodes_of p)

abbrev pub listed : {E : Type 0} → Result Plan E → Result (List Node) E
listed (Ok p) = Ok (nodes_of p)
listed (Err e) = Err e
