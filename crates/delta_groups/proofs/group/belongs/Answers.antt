use Rattle.std.proofs.Common.{◌∙◌, ap, rules}
use Rattle.std.specs.Ordering.{is_eq}
use Rattle.bag.specs.Order.{row_order}
use Rattle.delta_groups.proofs.GroupRows.{front_is, belongs_is}
use Rattle.delta_groups.proofs.group.belongs.Goals as goal

pub returns : goal.returns
returns c few key =
    let width = c.args.width in
    let front = c.compare_rows.ensures ∙ ap (λ x. row_order x c.args.group.now) (c.followed_by.ensures ∙ front_is width c.args.row.now) in
    let is = ap is_eq front ∙ belongs_is width c.args.row.now c.args.group.now few c.told-row key in
    search rules
