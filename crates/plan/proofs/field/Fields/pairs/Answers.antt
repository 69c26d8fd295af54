use Rattle.std.proofs.Common.{rules, arith}
use Rattle.plan.specs.Fields.{column_pair, no_pair}
use Rattle.plan.proofs.Fillings.{filled}
use Rattle.plan.proofs.field.Fields.pairs.Goals as goal

pub returns : goal.returns
returns c =
    let e = c.in_ok-fill.ensures (column_pair c.args.left c.args.right) (λ x r y p. search rules) in
    filled (column_pair c.args.left c.args.right) 4 no_pair c.args.n c.args.self.now.rest.now c.fill.new.places c.fill.new.self.rest.now (omega arith) c.fill.auto.places e
