use Rattle.std.proofs.Common.{rules, of_calls}
use Rattle.delta_groups.proofs.ImageRows.{column_listed, column_past}
use Rattle.delta_groups.proofs.image.column_of_image.Goals as goal

pub returns : goal.returns
returns c =
    let listed = column_listed c.args.columns.now c.args.row.now c.args.place 0 in
    let past = column_past c.args.columns.now c.args.row.now c.args.place in
    search (rules, of_calls)
