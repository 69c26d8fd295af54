use Rattle.std.proofs.Common.{◌≤◌, true, length, refl, ◌∙◌, arith}
use Rattle.std.proofs.lemmas.List.{length-take}
use Rattle.bag.specs.Columns.{listed}
use Rattle.bag.specs.Operators.{pick, map_rows}
use Rattle.bag.proofs.OperatorLaws.{pick_follows_change, operators_give_bags}
use Rattle.stock.specs.Holding.{shelf_of}
use Rattle.plan.specs.Afresh.{board}
use Rattle.table.specs.Tables.{capacity}
use Rattle.delta.proofs.Finished.{finished}
use Rattle.delta_groups.proofs.ReadLines.{as_long}
use Rattle.delta_groups.specs.Nets.{gathered}
use Rattle.delta.specs.Writing.{without_zeros}
use Rattle.delta_groups.proofs.NetTables.{nets_none}
use Rattle.delta_groups.proofs.Picked.{picked, small_change}
use Rattle.delta_groups.proofs.pick.change_of_pick.Goals as goal

pub returns-clause-changed : goal.returns-clause-changed
returns-clause-changed g c ws child ds news low at blank of wide =
    let v = c.args.writer.now in
    let h = g.S.Stock.meaning v.stock.now in
    let law = g.S.Stock.lawful v.stock.now in
    let is = c.args.columns.now in
    let d = board ds child in
    let lower = at.lower child low in
    let xs = gathered (map_rows (listed is) d) in
    let room : length d ≤ capacity c.new-table.result = omega (arith, c.new-table.ensures.long, c.min-len.ensures, wide, as_long c.args.below.now child d of.are, length-take c.min-len.result c.args.work.now) in
    let nets = c.gather_images.ensures.after child d of (small_change h law child _ d (board news child) lower) room (nets_none c.new-table.result c.new-table.ensures.empty) in
    finished g.S.Stock.meaning v c.append_all.new.self c.append_all.ensures.same law ws (pick is (shelf_of h child)) ds news at (pick is (board news child))
    (operators_give_bags.of_pick is (board news child) lower.changes.new_bag)
    (without_zeros xs) (picked (listed is) d ∙ pick_follows_change is (shelf_of h child) d (board news child) lower.changes)
    true refl c.append_all.result (c.append_all.ensures.after 0 _ xs (c.entries.ensures.answer ∙ nets.entries) blank)
