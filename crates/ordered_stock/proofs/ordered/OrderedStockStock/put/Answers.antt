use Rattle.std.proofs.Common.{◌≡◌, ◌+◌, ◌<◌, Ok, ap, ◌∙◌, refl, inl, inr, arith, rules}
use Rattle.bag.specs.Refusal.{left_by}
use Rattle.bag.specs.Order.{stock_line_order}
use Rattle.table.specs.Entries.{with_entry}
use Rattle.table.specs.Tables.{items}
use Rattle.stock.specs.Refusal.{told}
use Rattle.stock.specs.Holding.{after_put, put_answer}
use Rattle.ordered_stock.specs.Ordered.{held}
use Rattle.stock.proofs.Accepted.{RoomFor}
use Rattle.ordered_stock.proofs.SoundOrdered.{sound_of}
use Rattle.ordered_stock.proofs.Stored.{accepted, still_accepted}
use Rattle.ordered_stock.proofs.Moved.{Done, line, nothing_put, put_done}
use Rattle.ordered_stock.proofs.ordered.OrderedStockStock.put.Goals.{After-add, else-count-eq0-via-then-count-eq0+else-lines-capacity, else-count-eq0-via-else-count-eq0}
use Rattle.ordered_stock.proofs.ordered.OrderedStockStock.put.Goals as goal

pub returns-then-n-eq0 : goal.returns-then-n-eq0
returns-then-n-eq0 c =
    let a = c.args.self.now in
    let m = c.count-count.result in
    let there = c.count-count.ensures.answer in
    let most = a.holding.counts c.args.shelf c.args.row.now in
    let done = nothing_put a.table (sound_of a) c.args.shelf c.args.row.now c.args.n c.if-shelf-gt-LAST_SHELF.false m there c.if-n-eq0.true (omega arith) in
    record { memory = refl; answer = done.accepted; after = done.after }

room : (c : After-add) → RoomFor c.args.shelf c.args.row.now (held c.args.self.now)
room c =
    let there = c.count-count.ensures.answer in
    let capacity = c.capacity-capacity.ensures.answer in
    elim c.else-count-eq0.branch [
      | else-count-eq0-via-then-count-eq0+else-lines-capacity w ↦
          let lines = w.lines.ensures.answer in
          let free = w.if-lines-capacity.false in
          inr (λ full. omega (arith, free))
      | else-count-eq0-via-else-count-eq0 w ↦ let some = w.if-count-eq0.false in inl (omega (arith, some))
    ]

accepts : (c : After-add) → c.add.result ≡ Ok tt
accepts c =
    let a = c.args.self.now in
    let sum : c.in_ok-sum.sum ≡ c.count-count.result + c.args.n = search rules in
    accepted a.table (sound_of a) (line c.args.shelf c.args.row.now c.in_ok-sum.sum) c.if-shelf-gt-LAST_SHELF.false (room c) c.add.result c.add.ensures.answer

done : (c : After-add) → Done c.add.new.self (after_put (held c.args.self.now) c.args.shelf c.args.row.now c.args.n) (put_answer (held c.args.self.now) c.args.shelf c.args.row.now c.args.n)
done c =
    let a = c.args.self.now in
    let s = c.args.shelf in
    let r = c.args.row.now in
    let m = c.count-count.result in
    let some = c.if-n-eq0.false in
    let sum : c.in_ok-sum.sum ≡ m + c.args.n = search rules in
    let fits : m + c.args.n < 65536 = search rules in
    put_done a.table (sound_of a) s r c.args.n c.if-shelf-gt-LAST_SHELF.false m c.count-count.ensures.answer c.add.new.self c.add.ensures.same c.read_columns.ensures (omega arith) (omega (arith, some)) (room c)
    (c.add.ensures.after
    ∙ ap (λ x. left_by x (items a.table) (with_entry stock_line_order (line s r c.in_ok-sum.sum) (items a.table))) (accepts c)
    ∙ ap (λ k. with_entry stock_line_order (line s r k) (items a.table)) sum)

pub invariant_of-self : goal.invariant_of-self
invariant_of-self c = let sound = (done c).sound in record { lines = sound.lines; holding = sound.holding; run = sound.run }

pub returns : goal.returns
returns c =
    let added = (goal.at.returns c).After-add in
    let said : c.map_err.result ≡ Ok tt = still_accepted _ c.add.result c.map_err.result (accepts added) c.map_err.ensures.cases in
    record { memory = c.add.ensures.same.lender; answer = ap told said ∙ (done added).accepted; after = (done added).after }
