use Rattle.std.proofs.Common.{◌≡◌, sym, ap, ◌∙◌, w32, SFits, rules, of_calls}
use Rattle.std.proofs.lemmas.Int.{to_z-of_z}
use Rattle.bag.specs.Order.{change_line_order}
use Rattle.table.specs.Entries.{place_of}
use Rattle.table.specs.Tables.{items}
use Rattle.delta_groups.proofs.Gathered.{change_in}
use Rattle.delta_groups.proofs.NetTables.{net_found, net_none}
use Rattle.delta_groups.proofs.gather.net_of.Goals as goal

pub returns-in_default : goal.returns-in_default
returns-in_default c xs n =
    net_none c.args.table.now xs n c.args.row.now (sym c.in_default.is ∙ c.find.ensures.answer ∙ ap (λ k. place_of change_line_order k (items c.args.table.now)) c.net_line.ensures)

pub returns : goal.returns
returns c xs n =
    let fits : SFits w32 c.map_or.result = search rules in
    let told : c.map_or.result ≡ change_in c.get.result = search (rules, of_calls) in
    to_z-of_z w32 c.map_or.result fits ∙ told
    ∙ net_found c.args.table.now xs n c.args.row.now c.in-Some.place c.get.result
    (sym c.in-Some.is ∙ c.find.ensures.answer ∙ ap (λ k. place_of change_line_order k (items c.args.table.now)) c.net_line.ensures)
    c.get.ensures.answer
