use Rattle.std.proofs.Common.{◌++◌, ◌-◌, take, ap, arith, ◌∙◌, sym}
use Rattle.std.proofs.lemmas.List.{take_all}
use Rattle.std.proofs.lemmas.Slice.{take-put_mid}
use Rattle.std.proofs.lemmas.Grind.{common_steps}
use Rattle.measure.proofs.RowParts.{first_then_next}
use Rattle.measure.proofs.columns.followed_by.Goals as goal

pub returns : goal.returns
returns c =
    let front = c.args.front.now in
    let kept = c.min-kept.result in
    sym (take_all 8 _ (grind (arith, common_steps))) ∙ take-put_mid kept (8 - kept) front c.copy_from_slice.new.self 8 (grind (arith, common_steps)) (omega arith)
    ∙ ap (λ xs. take kept front ++ xs) c.copy_from_slice.ensures.after
    ∙ first_then_next c.args.width kept front c.args.behind.now c.told-front c.told-behind c.min-kept.ensures
