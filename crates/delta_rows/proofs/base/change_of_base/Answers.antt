use Rattle.std.proofs.Common.{◌≡◌, ℕ, true, List, [], refl, subst}
use Rattle.bag.specs.Bag.{Lines}
use Rattle.bag.specs.Changes.{Changes}
use Rattle.bag.proofs.Moves.{difference_only}
use Rattle.sheet.specs.Sheets.{of_node}
use Rattle.delta.specs.NodeChange.{Setting}
use Rattle.delta.specs.Writing.{Written, Wrote}
use Rattle.delta.proofs.Finished.{finished}
use Rattle.delta.proofs.Zeros.{without_canonical}
use Rattle.delta_rows.proofs.base.change_of_base.Goals as goal

pub returns-clause-changed : goal.returns-clause-changed
returns-clause-changed g c = λ (ws : List ℕ) (old d new : Lines) (ds news : List Lines) (at : Setting (g.S.Stock.meaning c.args.writer.now.stock.now) ws c.args.writer.now.node old ds news)
    (none : Written g.S.Stock.meaning c.args.writer.now []) (is : c.args.nets.now ≡ of_node c.args.writer.now.node d) (to : Changes old d new).
    let m = g.S.Stock.meaning in
    let v = c.args.writer.now in
    let w = c.append_all.new.self in
    let wrote = subst (λ z. Wrote m v w z c.append_all.result) (without_canonical d to.in_order) (c.append_all.ensures.after v.node [] d is none) in
    finished m v w c.append_all.ensures.same (g.S.Stock.lawful v.stock.now) ws old ds news at new to.new_bag d (difference_only old d new to.in_order to.moves) true refl c.append_all.result wrote
