use Rattle.std.proofs.Common.{◌≡◌, Some, arith}
use Rattle.std.proofs.lemmas.Grind.{common_steps}
use Rattle.std.proofs.lemmas.Option.{gets}
use Rattle.std.specs.List.{slice_get}
use Rattle.plan.specs.declared.node.Node.TheVariants.{Base}
use Rattle.plan.specs.Lawful.{width, OneToEight}
use Rattle.plan.specs.Plans.{nodes_of, widths_of}
use Rattle.plan.specs.Sound.{Sound, Handed}
use Rattle.plan.proofs.Sounds.{asked, sound_at, wide_at, narrow_at, handed_at}
use Rattle.plan.proofs.plan.Plan.node.Goals as goal

pub returns-clause-sound : goal.returns-clause-sound
returns-clause-sound c =
    let p = c.args.self.now in
    let i = c.args.i in
    let a : c.copied.result ≡ slice_get (nodes_of p) i = grind (arith, common_steps, gets) in
    asked (Sound p.shown (widths_of p) i) (nodes_of p) i (Base 0) c.copied.result a (λ h. sound_at p.shown (nodes_of p) p.lawful i h (Base 0))

pub returns-clause-wide : goal.returns-clause-wide
returns-clause-wide c =
    let p = c.args.self.now in
    let i = c.args.i in
    let a : c.copied.result ≡ slice_get (nodes_of p) i = grind (arith, common_steps, gets) in
    asked (λ x. slice_get (widths_of p) i ≡ Some (width p.shown (widths_of p) x)) (nodes_of p) i (Base 0) c.copied.result a (λ h. wide_at p.shown (nodes_of p) p.lawful i h (Base 0))

pub returns-clause-bound : goal.returns-clause-bound
returns-clause-bound c =
    let p = c.args.self.now in
    let i = c.args.i in
    let a : c.copied.result ≡ slice_get (nodes_of p) i = grind (arith, common_steps, gets) in
    asked (λ x. OneToEight (width p.shown (widths_of p) x)) (nodes_of p) i (Base 0) c.copied.result a (λ h. narrow_at p.shown (nodes_of p) p.lawful i h (Base 0))

pub returns-clause-handed : goal.returns-clause-handed
returns-clause-handed c =
    let p = c.args.self.now in
    let i = c.args.i in
    let a : c.copied.result ≡ slice_get (nodes_of p) i = grind (arith, common_steps, gets) in
    asked (Handed p.shown (widths_of p) i) (nodes_of p) i (Base 0) c.copied.result a (λ h. handed_at p.shown (nodes_of p) p.lawful i h (Base 0))
