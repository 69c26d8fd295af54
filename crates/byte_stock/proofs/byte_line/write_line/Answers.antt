use Rattle.std.proofs.Common.{◌+◌, ◌-◌, ◌*◌, ap, sym, ◌∙◌}
use borrow.Rule.Slice.PartMut.{put_mid}
use Rattle.byte_stock.proofs.ByteLaid.{laid_by_copy}
use Rattle.byte_stock.proofs.byte_line.write_line.Goals as goal

pub returns : goal.returns
returns c =
    let at = 35 * c.args.place in
    let b = c.args.bytes.now in
    let long = c.told-line in
    ap (λ n. put_mid at ((at + n) - at) b c.copy_from_slice.new.self) (sym long) ∙ laid_by_copy b c.args.line.now c.copy_from_slice.new.self at c.copy_from_slice.ensures.after
