use Rattle.std.proofs.Common.{◌≡◌, not, ℤ, pos, ◌+ℤ◌, ap, ◌∙◌, arith, w32, w64, SFits, to_z, of_z, rules}
use lib.Signed.{lt_z, le_z}
use Rattle.std.proofs.lemmas.Int.{ints}
use Rattle.bag.specs.Bag.{count}
use Rattle.stock.specs.Holding.{shelf_of}
use Rattle.stock.proofs.Accepted.{count_is_copies}
use Rattle.nets.proofs.short.takes_too_much.Goals as goal

below-zero : (x y : ℤ) → x ≡ y → lt_z x (pos 0) ≡ not (le_z (pos 0) y)
below-zero x y e = ap (λ v. lt_z v (pos 0)) e ∙ grind (arith, ints)

pub returns : goal.returns
returns g c =
    let s = c.args.stock.now in
    let net = c.args.net.now in
    let f : SFits w32 net.change = search rules in
    let h = g.S.Stock.meaning s in
    let there = c.count.ensures.answer in
    let are = count_is_copies h (g.S.Stock.lawful s) net.node net.row in
    let most = (g.S.Stock.lawful s).counts net.node net.row in
    below-zero (to_z w64 (of_z w64 (to_z w64 c.count.result +ℤ to_z w64 (of_z w64 (to_z w32 (of_z w32 net.change)))))) (count (shelf_of h net.node) net.row +ℤ net.change) (omega (arith, ints))
