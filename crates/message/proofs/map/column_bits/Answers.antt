use Rattle.std.proofs.Common.{◌<◌, length, get_or, pos, sym, refl, ◌∙◌, arith, w32, SFits, rules}
use Rattle.message.proofs.Maps.{bits_none}
use Rattle.message.proofs.Columns.{column_bit, column_more}
use Rattle.message.proofs.map.column_bits.Goals as goal

pub loop-k-init : goal.loop-k-init
loop-k-init c = (sym bits_none, omega arith)

pub loop-k-preserved : goal.loop-k-preserved
loop-k-preserved c =
    let row = c.args.row.now in
    let k = c.loop-k.k in
    let lt : k < length row = omega arith in
    let v = get_or row k (pos 0) in
    let f : SFits w32 v = search rules in
    column_more row k lt c.loop-k.bits c.loop-k.invariant.0 c.loop-k.invariant.1 _ c.from.result refl (c.from.ensures ∙ column_bit v f) (omega arith)
