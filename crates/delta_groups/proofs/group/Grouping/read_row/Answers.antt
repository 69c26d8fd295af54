use Rattle.std.proofs.Common.{length, ◌∙◌, arith, w32, SFits, rules}
use Rattle.std.proofs.lemmas.Int.{to_z-of_z}
use Rattle.delta_groups.proofs.GroupRows.{read_is}
use Rattle.delta_groups.proofs.group.Grouping.read_row.Goals as goal

pub returns : goal.returns
returns g c m room key =
    let width = length c.args.self.now.columns.now in
    let fits : SFits w32 c.column_of.result = search rules in
    read_is g.M.Measure.model width c.args.group.now c.args.row.now m _ c.read_back.result c.columns_from-shown.result room c.told-row
    (c.if-not-belongs.ensures (omega arith) key) (to_z-of_z w32 c.column_of.result fits ∙ c.column_of.ensures) c.columns_from-shown.ensures c.read_back.ensures
