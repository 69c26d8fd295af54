use Rattle.std.proofs.Common.{◌≡◌, false, sym, length, ◌∙◌, w32, rules}
use Rattle.std.proofs.lemmas.Int.{to_z-of_z}
use Rattle.bag.specs.Bag.{is_zero}
use Rattle.delta.proofs.Counts.{not_zero_is}
use Rattle.delta_groups.proofs.GroupRows.{row_is}
use Rattle.delta_groups.proofs.group.Grouping.row_if_there.Goals as goal

pub returns : goal.returns
returns g c =
    let some : is_zero c.args.copies ≡ false = search (rules, not_zero_is) in
    row_is g.M.Measure.model (length c.args.self.now.columns.now) c.args.group.now c.args.copies _ c.args.value c.in_ok-shown.shown c.followed_by-behind.result c.followed_by.result
    some
    (sym c.in_ok-shown.was ∙ c.show.ensures) c.followed_by-behind.ensures (to_z-of_z w32 c.args.copies c.ranges.copies) c.followed_by.ensures
