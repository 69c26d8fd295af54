use Rattle.std.proofs.Common.{◌≡◌, ◌&&◌, sym, ap, ◌∙◌}
use Rattle.std.specs.Ordering.{is_eq}
use Rattle.std.proofs.lemmas.Bool.{eq-eqb}
use Rattle.std.proofs.lemmas.Bool.Decides.{same_from_decides, Decides-int_eq}
use Rattle.std.proofs.lemmas.Slice.Eq.{slice_eq-Decides}
use Rattle.bag.specs.Order.{row_order}
use Rattle.byte_stock.proofs.ByteKept.{order_decides}
use Rattle.byte_stock.proofs.byte_search.has_key.Goals as goal

pub returns-then-line-shelf : goal.returns-then-line-shelf
returns-then-line-shelf c =
    let l = c.args.line.now in
    let r = c.args.row.now in
    let same : c.eq.result ≡ is_eq (row_order l.row r) = same_from_decides _ _ (slice_eq-Decides Decides-int_eq l.row r c.eq.result c.eq.ensures) (order_decides l.row r) in
    same ∙ sym (ap (λ t. t && is_eq (row_order l.row r)) (eq-eqb l.shelf c.args.shelf c.if-line-shelf.true))
