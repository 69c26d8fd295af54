use Rattle.std.proofs.Common.{◌≡◌, true, length, ℤ, ◌+ℤ◌, sym, ap, ◌∙◌, subst, ap₂, w32, SFits, to_z, rules}
use Rattle.std.proofs.lemmas.Int.{to_z-of_z}
use Rattle.std.specs.Int.{saturate_to_bits}
use Rattle.bag.specs.Propagation.{read_group}
use Rattle.stock.specs.Holding.{shelf_of}
use Rattle.delta_groups.specs.Groups.{row_if_there}
use Rattle.delta_groups.specs.Totals.{fit_after}
use Rattle.delta_groups.proofs.NetTables.{not_cut}
use Rattle.delta_groups.proofs.Exchanged.{exchange_none, exchange_some, exchange_done}
use Rattle.delta_groups.proofs.exchange.exchange_group.Goals.{else-new_copies-ne0-via-then-new_copies-ne0+else-is_none, else-new_copies-ne0-via-else-new_copies-ne0}
use Rattle.delta_groups.proofs.exchange.exchange_group.Goals as goal

pub returns-clause-after : goal.returns-clause-after
returns-clause-after g c d delta room ready is was =
    let M = g.M.Measure.model in
    let V = g.row.M-Value.Denot in
    let meaning = g.S.Stock.meaning in
    let n = length c.args.grouping.now.columns.now in
    let v = c.args.writer.now in
    let k = c.args.group.now.row in
    let net = c.args.group.now.change in
    let own = shelf_of (meaning v.stock.now) v.node in
    let read = c.read_group-copies.ensures room ready.group ∙ ap₂ (λ s m. read_group M n (shelf_of (meaning s) m) k) c.stock.ensures c.node.ensures in
    let old_fits : SFits w32 c.read_group-copies.result.0 = search rules in
    let old_copies = to_z-of_z w32 c.read_group-copies.result.0 old_fits ∙ ap (λ (t : ℤ × V). t.0) read in
    let old_value = ap (λ (t : ℤ × V). t.1) read in
    let net_fits : SFits w32 net = search rules in
    let sum_fits : SFits w32 c.saturating_add-new_copies.result = search rules in
    let new_copies =
    to_z-of_z w32 c.saturating_add-new_copies.result sum_fits ∙ c.saturating_add-new_copies.ensures ∙ ap₂ (λ x y. saturate_to_bits 31 (x +ℤ y)) old_copies (to_z-of_z w32 net net_fits)
    ∙ not_cut ((read_group M n own k).0 +ℤ net) (subst (λ (t : ℤ × V). SFits w32 ((read_group M n own k).0 +ℤ t.0)) is ready.copies_fit) in
    let new_value = c.plus-new_value.ensures ∙ ap (λ (x : V). M.group.plus x c.args.worth) old_value in
    let old_is = c.row_if_there-old.ensures ∙ ap₂ (row_if_there M n k) old_copies old_value in
    let new_is = c.row_if_there-new.ensures ∙ ap₂ (row_if_there M n k) new_copies new_value in
    let fits : fit_after M n own delta k net ≡ true =
    elim c.else-new_copies-ne0.branch [
      | else-new_copies-ne0-via-then-new_copies-ne0+else-is_none e ↦ exchange_some M n own delta k net c.args.worth is c.row_if_there-new.result new_is (search rules)
      | else-new_copies-ne0-via-else-new_copies-ne0 e ↦ exchange_none M n own delta k net c.args.worth is (sym new_copies ∙ ap (to_z w32) e.if-new_copies-ne0.false)
    ] in
    exchange_done M n own delta k net c.args.worth is ready c.row_if_there-old.result c.row_if_there-new.result old_is new_is fits meaning v c.exchange_if_there.new.writer d c.exchange_if_there.result
    (c.exchange_if_there.ensures.after d was)
