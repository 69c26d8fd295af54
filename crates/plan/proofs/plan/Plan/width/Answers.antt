use Rattle.std.proofs.Common.{◌≡◌, ◌≤◌, [], arith}
use Rattle.std.proofs.lemmas.Grind.{common_steps}
use Rattle.std.proofs.lemmas.Option.{gets}
use Rattle.std.specs.List.{slice_get}
use Rattle.plan.specs.Lawful.{OneToEight}
use Rattle.plan.specs.Plans.{nodes_of, widths_of}
use Rattle.plan.proofs.Growth.{widths_one_to_eight, widths_length}
use Rattle.plan.proofs.Sounds.{asked}
use Rattle.plan.proofs.plan.Plan.width.Goals as goal

pub returns-clause-bound : goal.returns-clause-bound
returns-clause-bound c =
    let p = c.args.self.now in
    let a : c.copied.result ≡ slice_get (widths_of p) c.args.i = grind (arith, common_steps, gets) in
    asked (λ w. w ≤ 8) (widths_of p) c.args.i 0 c.copied.result a (λ h. (widths_one_to_eight p.shown (nodes_of p) p.lawful c.args.i (omega (arith, widths_length p.shown [] (nodes_of p)))).narrow)

pub returns-clause-one_to_eight : goal.returns-clause-one_to_eight
returns-clause-one_to_eight c =
    let p = c.args.self.now in
    let a : c.copied.result ≡ slice_get (widths_of p) c.args.i = grind (arith, common_steps, gets) in
    asked OneToEight (widths_of p) c.args.i 0 c.copied.result a (λ h. widths_one_to_eight p.shown (nodes_of p) p.lawful c.args.i (omega (arith, widths_length p.shown [] (nodes_of p))))
