use Rattle.std.proofs.Common.{◌≡◌, ℕ, List, [], length, ap, ◌∙◌, ap₂, rules}
use Rattle.std.proofs.lemmas.List.{length-replicate}
use Rattle.bag.specs.Order.{Row}
use Rattle.byte_stock.specs.ByteLines.{padded, stored_in, capacity_in}
use Rattle.byte_stock.specs.ByteStored.{lines_after_put}
use Rattle.bytes_tests.proofs.lender.leave_one.Goals as goal

from-none : (d b : List ℕ) (len m s : ℕ) (r : Row) (k : ℕ) → d ≡ padded (length b) (lines_after_put (capacity_in (length b)) s r k (stored_in len b)) →
    length b ≡ m → stored_in len b ≡ [] → d ≡ padded m (lines_after_put (capacity_in m) s r k [])
from-none d b len m s r k e f g = e ∙ ap₂ (λ x ls. padded x (lines_after_put (capacity_in x) s r k ls)) f g

pub returns : goal.returns
returns c =
    let n = length c.args.bytes.now in
    let long : length c.new-stock.result.bytes.now ≡ n = ap length c.new-stock.ensures.blank ∙ length-replicate {A = ℕ} n 0 in
    let whole = c.put.ensures.left.bytes in
    let w = from-none c.put.new.self.bytes.now c.new-stock.result.bytes.now c.new-stock.result.len n c.args.shelf c.args.row.now c.args.n whole long c.new-stock.ensures.none in
    search rules
