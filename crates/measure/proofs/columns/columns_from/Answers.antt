use Rattle.std.proofs.Common.{◌≡◌, ◌++◌, ◌-◌, drop, ap, ap₂, replicate, pos, arith, ◌∙◌}
use Rattle.std.proofs.lemmas.List.{drop-replicate, take_all, length-drop}
use Rattle.measure.proofs.RowParts.{rest_then_zeros}
use Rattle.measure.proofs.columns.columns_from.Goals as goal

pub returns : goal.returns
returns c =
    let row = c.args.row.now in
    let skipped = c.min-skipped.result in
    let moved = c.copy_from_slice.ensures.after ∙ take_all (8 - skipped) (drop skipped row) (let e = c.told-row in omega (arith, length-drop skipped row)) in
    let zeros : drop (8 - skipped) (replicate 8 (pos 0)) ≡ replicate skipped (pos 0) =
    drop-replicate (8 - skipped) 8 (pos 0) ∙ ap (λ n. replicate n (pos 0)) (omega arith) in
    ap₂ ◌++◌ moved zeros ∙ rest_then_zeros c.args.start skipped row c.told-row c.min-skipped.ensures
