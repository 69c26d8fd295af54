use Rattle.std.proofs.Common.{◌+ℤ◌, ◌∙◌, ap₂, w32, SFits, rules}
use Rattle.std.specs.Int.{int_wrap}
use Rattle.std.proofs.lemmas.Int.{wrapping_add_is, int_wrap_fits, to_z-of_z}
use Rattle.bag.specs.Bag.{count}
use Rattle.settling.specs.Keys.{key}
use Rattle.nets.specs.Nets.{signed_copies}
use Rattle.nets.specs.NetTable.{changes}
use Rattle.nets.proofs.adding.NetTable.line_with.Goals as goal

pub returns-clause-change : goal.returns-clause-change
returns-clause-change c =
    let m = c.args.movement.now in
    let t = c.args.self.now.table.now in
    let n = signed_copies m in
    let a = c.signed_copies.result in
    let b = c.net.result in
    let f : SFits w32 a = search rules in
    let g : SFits w32 b = search rules in
    let there = count (changes t) (key m.node m.row) in
    λ (h : SFits w32 (n +ℤ there)).
    rw (to_z-of_z w32 a f) (wrapping_add_is w32 a b f g ∙ ap₂ (λ x y. int_wrap w32 (x +ℤ y)) c.signed_copies.ensures c.net.ensures ∙ int_wrap_fits w32 (n +ℤ there) h)
