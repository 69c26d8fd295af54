use Rattle.std.proofs.Common.{◌≡◌, ◌≤◌, [], length, get_or, replicate, ap, ◌∙◌, arith, rules, of_calls}
use Rattle.std.proofs.lemmas.List.{length-take}
use Rattle.bag.specs.Columns.{listed}
use Rattle.bag.specs.Operators.{map_rows}
use Rattle.bag.specs.Propagation.{group_of}
use Rattle.stock.specs.Holding.{shelf_of}
use Rattle.table.specs.Tables.{capacity}
use Rattle.table.proofs.Filled.{filled}
use Rattle.plan.specs.Afresh.{board}
use Rattle.delta_groups.specs.Nets.{gathered}
use Rattle.delta_groups.specs.Groups.{IsGroup}
use Rattle.delta_groups.specs.Totals.{GroupsReady}
use Rattle.delta_groups.proofs.ReadLines.{as_long}
use Rattle.delta_groups.proofs.Gathered.{length_gathered}
use Rattle.delta_groups.proofs.NetTables.{nets_none}
use Rattle.delta_groups.proofs.ImageSums.{length_map_rows}
use Rattle.delta_groups.proofs.Touched.{row_at}
use Rattle.delta_groups.proofs.Worths.{values_none, deltas_are}
use Rattle.delta_groups.proofs.OwnTotal.{group_rows}
use Rattle.delta_groups.proofs.Picked.{small_change}
use Rattle.delta_groups.proofs.TotalFinished.{ready_groups, total_finished}
use Rattle.delta_groups.proofs.total.change_of_total.Goals as goal

pub returns-clause-changed : goal.returns-clause-changed
returns-clause-changed g c ws child ds news low at blank of work_room value_room room fits =
    let M = g.M.Measure.model in
    let L = g.met.M.Measure.lawful in
    let meaning = g.S.Stock.meaning in
    let v = c.args.writer.now in
    let h = meaning v.stock.now in
    let law = g.S.Stock.lawful v.stock.now in
    let own = shelf_of h v.node in
    let is = c.args.grouping.now.columns.now in
    let n = length is in
    let j = c.args.grouping.now.measured in
    let d = board ds child in
    let xs = gathered (map_rows (listed is) d) in
    let lower = at.lower child low in
    let small = small_change h law child _ d (board news child) lower in
    let ready = ready_groups M L j is h law child _ d (board news child) lower own at.own room fits of.few in
    let long = as_long c.args.below.now child d of.are in
    let len = c.min-len.result in
    let front = c.fill_with.new.self in
    let zeros = filled _ c.zero-zero.result _ (λ r f k. search (rules, of_calls)) front c.fill_with.ensures.ran.0 c.fill_with.ensures.ran.1 ∙ ap (replicate (length front)) c.zero-zero.ensures in
    let len_is : len ≡ length d = omega (arith, c.min.ensures, c.min-len.ensures, long, work_room, value_room) in
    let cap : length d ≤ capacity c.new-table.result = omega (arith, c.new-table.ensures.long, length-take len c.args.work.now, len_is, work_room) in
    let nets = c.gather_images.ensures.after child d of small cap (nets_none c.new-table.result c.new-table.ensures.empty) in
    let fewer : length xs ≤ length d = omega (arith, length_gathered [] (map_rows (listed is) d), length_map_rows (listed is) d) in
    let fit : length xs ≤ length front = omega (arith, fewer, c.fill_with.ensures.len, length-take len c.args.values.now, len_is, value_room) in
    let values = c.add_worths.new.values in
    let worths = c.add_worths.ensures.after child d xs of nets fit (values_none M L j is xs front fit zeros) in
    let rows = group_rows M j is (omega (arith, room)) own d in
    let groups : GroupsReady M n own (group_of M j is d) xs c.entries.result.now values =
    record {
      lines = c.entries.ensures.answer ∙ nets.entries;
      places = omega (arith, fit, c.add_worths.ensures.long);
      deltas = deltas_are M L j is d values worths;
      each = λ i e l. ready (get_or xs i e).0 (row_at (IsGroup n) xs i e l rows);
    } in
    total_finished M L j is meaning v c.exchange_groups.new.writer c.exchange_groups.ensures.same law child ws ds news low at room fits c.exchange_groups.result
    (c.exchange_groups.ensures.after xs (group_of M j is d) room groups blank)
