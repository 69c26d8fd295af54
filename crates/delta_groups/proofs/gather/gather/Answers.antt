use Rattle.std.proofs.Common.{◌+ℤ◌, ◌∙◌, ap, ap₂, w32, SFits, rules}
use Rattle.std.proofs.lemmas.Int.{to_z-of_z}
use Rattle.std.specs.Int.{saturate_to_bits}
use Rattle.bag.specs.Bag.{count}
use Rattle.bag.specs.Order.{change_line_order}
use Rattle.bag.specs.Refusal.{left_by}
use Rattle.table.specs.Entries.{with_entry}
use Rattle.table.specs.Tables.{items, capacity, add_answer}
use Rattle.delta_groups.proofs.Gathered.{count_added, length_added}
use Rattle.delta_groups.proofs.NetTables.{net_added, not_cut}
use Rattle.delta_groups.proofs.gather.gather.Goals as goal

pub returns-clause-after : goal.returns-clause-after
returns-clause-after c xs n room f =
    let row = c.args.row.now in
    let fits : SFits w32 c.saturating_add-net.result = search rules in
    let old : SFits w32 c.net_of.result = search rules in
    let sum =
    to_z-of_z w32 c.saturating_add-net.result fits ∙ c.saturating_add-net.ensures ∙ ap₂ (λ x y. saturate_to_bits 31 (x +ℤ y)) (to_z-of_z w32 c.net_of.result old ∙ c.net_of.ensures xs n) (to_z-of_z w32 c.args.copies c.ranges.copies)
    ∙ not_cut (count xs row +ℤ c.args.copies) f in
    net_added c.args.table.now xs n row c.add.new.self c.args.copies _ c.add.result sum room
    (c.add.ensures.answer ∙ ap (λ k. add_answer change_line_order (capacity c.args.table.now) k (items c.args.table.now)) c.net_line.ensures)
    (c.add.ensures.after ∙ ap (λ k. left_by c.add.result (items c.args.table.now) (with_entry change_line_order k (items c.args.table.now))) c.net_line.ensures)

pub returns-clause-counts : goal.returns-clause-counts
returns-clause-counts c xs q = count_added c.args.row.now c.args.copies xs q

pub returns-clause-longer : goal.returns-clause-longer
returns-clause-longer c xs = length_added c.args.row.now c.args.copies xs
