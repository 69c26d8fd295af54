use Rattle.std.proofs.Common.{◌≤◌, length, sym, rules}
use Rattle.plan.specs.Plans.{nodes_of}
use Rattle.plan.proofs.Sounds.{nodes_long}
use Rattle.plan.proofs.plan.Plan.len.Goals as goal

pub returns : goal.returns
returns c =
    let p = c.args.self.now in
    let l : p.len ≤ length p.widths = search rules in
    record { answer = sym (nodes_long p.shown (nodes_of p) p.widths p.len l p.wide); bound = (p.some, p.few) }
