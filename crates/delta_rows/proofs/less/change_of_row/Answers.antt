use Rattle.std.proofs.Common.{◌≡◌, ℕ, pos, ◌+ℤ◌, ◌-ℤ◌, sym, ap, ◌∙◌, ap₂, w32, SFits, rules}
use Rattle.bag.specs.Bag.{count}
use Rattle.stock.specs.Holding.{shelf_of}
use Rattle.stock.proofs.Accepted.{count_is_copies}
use Rattle.delta_rows.specs.Less.{IsCount}
use Rattle.delta_rows.proofs.Surplus.{surplus_change, after_is, counts_apart}
use Rattle.delta_rows.proofs.less.change_of_row.Goals as goal

pub returns : goal.returns
returns g c = λ (new-l : IsCount (count (shelf_of (g.S.Stock.meaning c.args.stock.now) c.args.l) c.args.turn.now.row +ℤ c.args.turn.now.left)) (new-r : IsCount (count (shelf_of (g.S.Stock.meaning c.args.stock.now) c.args.r) c.args.turn.now.row +ℤ c.args.turn.now.right)).
    let h = g.S.Stock.meaning c.args.stock.now in
    let law = g.S.Stock.lawful c.args.stock.now in
    let q = c.args.turn.now.row in
    let old-l : pos c.count-left.result ≡ count (shelf_of h c.args.l) q = ap pos (c.count-left.ensures.answer) ∙ sym (count_is_copies h law c.args.l q) in
    let old-r : pos c.count-right.result ≡ count (shelf_of h c.args.r) q = ap pos (c.count-right.ensures.answer) ∙ sym (count_is_copies h law c.args.r q) in
    let m = c.args.turn.now.left in
    let n = c.args.turn.now.right in
    let fits-l : SFits w32 c.args.turn.now.left = search rules in
    let fits-r : SFits w32 c.args.turn.now.right = search rules in
    let after-l = after_is c.count-left.result c.count_after.result (count (shelf_of h c.args.l) q) m fits-l old-l c.count_after.ensures new-l in
    let after-r = after_is c.count-right.result c.count_after-2.result (count (shelf_of h c.args.r) q) n fits-r old-r c.count_after-2.ensures new-r in
    counts_apart c.saturating_sub-new.result c.saturating_sub-old.result c.saturating_sub-new.type_inv c.saturating_sub-old.type_inv
    ∙ ap₂ (λ (a b : ℕ). pos a -ℤ pos b) c.saturating_sub-new.ensures c.saturating_sub-old.ensures
    ∙ surplus_change (count (shelf_of h c.args.l) q) (count (shelf_of h c.args.r) q) m n c.count-left.result c.count-right.result c.count_after.result c.count_after-2.result old-l old-r after-l after-r
