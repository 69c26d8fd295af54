use Rattle.plan.proofs.fault.PlanFaultDisplay.fmt.Goals as goal

pub returns-clause-writes : goal.returns-clause-writes
returns-clause-writes c d = rw (d.number-number.ensures, d.place-node.ensures) at d.write.ensures.writes
