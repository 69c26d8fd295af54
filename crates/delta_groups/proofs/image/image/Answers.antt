use Rattle.std.proofs.Common.{rules, of_calls}
use Rattle.bag.specs.Columns.{columns_at}
use Rattle.delta_groups.proofs.ImageRows.{made_row}
use Rattle.delta_groups.proofs.image.image.Goals as goal

pub returns : goal.returns
returns c = made_row _ (columns_at c.args.columns.now c.args.row.now) _ (λ i y q h k. search (rules, of_calls)) c.from_fn.result c.from_fn.ensures.items
