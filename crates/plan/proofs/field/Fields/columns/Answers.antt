use Rattle.std.proofs.Common.{rules, arith}
use Rattle.plan.specs.Fields.{column}
use Rattle.plan.proofs.Fillings.{filled}
use Rattle.plan.proofs.field.Fields.columns.Goals as goal

pub returns : goal.returns
returns c =
    let e = c.in_ok-fill.ensures (column c.args.width) (λ x r y p. search rules) in
    filled (column c.args.width) 8 0 c.args.n c.args.self.now.rest.now c.fill.new.places c.fill.new.self.rest.now (omega arith) c.fill.auto.places e
