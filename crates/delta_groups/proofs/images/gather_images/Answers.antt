use Rattle.std.proofs.Common.{get_or, take, refl, ap, ◌∙◌, subst, arith, w32, SFits, rules}
use Rattle.std.proofs.lemmas.Int.{to_z-of_z}
use Rattle.bag.specs.declared.lines.ChangeLine.{ChangeLine}
use Rattle.bag.specs.Columns.{listed}
use Rattle.bag.specs.Operators.{map_rows}
use Rattle.table.specs.Tables.{capacity}
use Rattle.delta.proofs.Zeros.{no_line, line_at}
use Rattle.delta_groups.specs.Nets.{gathered, Nets}
use Rattle.delta_groups.proofs.ReadLines.{no_change, lines_whole}
use Rattle.delta_groups.proofs.ImageSums.{images_none, images_more, image_fits, images_room}
use Rattle.delta_groups.proofs.images.gather_images.Goals as goal

pub loop-line-init : goal.loop-line-init
loop-line-init c = (record { lender = refl; long = refl }, λ k d of small room n. subst (Nets c.args.table.now) (images_none (listed c.args.columns.now)) n)

pub loop-line-preserved : goal.loop-line-preserved
loop-line-preserved c =
    let key = listed c.args.columns.now in
    let i = c.loop-line.line-index in
    let same = c.loop-line.invariant.0 in
    let next = c.gather.ensures.same in (
      record { lender = next.lender ∙ same.lender; long = next.long ∙ same.long },
      λ k d of small room n.
          let line = get_or c.args.below.now i no_change in
          let at = line_at c.args.below.now k d i no_change of.are c.loop-line-test.true in
          let fits : SFits w32 line.change = search rules in
          let change = to_z-of_z w32 line.change fits ∙ ap (λ (x : ChangeLine). x.change) at.1 in
          let row = c.image.ensures ∙ ap (λ (x : ChangeLine). key x.row) at.1 in
          subst (Nets c.gather.new.table) (images_more key d i no_line at.0 c.image.result _ row change)
          (c.gather.ensures.after (gathered (map_rows key (take i d))) (c.loop-line.invariant.1 k d of small room n)
          (images_room key d i no_line at.0 (capacity c.loop-line.table) (let e = same.long in omega arith))
          (image_fits key d i no_line at.0 c.image.result _ change small of.few)),
    )

pub returns-clause-after : goal.returns-clause-after
returns-clause-after c k d of small room n =
    subst (λ x. Nets c.loop-line.table (gathered (map_rows (listed c.args.columns.now) x))) (lines_whole c.args.below.now k d of.are c.loop-line.line-index c.loop-line-test.false)
    (c.loop-line.invariant.1 k d of small room n)
