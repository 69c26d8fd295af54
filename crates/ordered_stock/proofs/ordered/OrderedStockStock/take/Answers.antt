use Rattle.std.proofs.Common.{◌≡◌, ◌-◌, ◌≤◌, Ok, ap, ◌∙◌, refl, inl, arith, rules}
use Rattle.bag.specs.Refusal.{left_by}
use Rattle.bag.specs.Order.{stock_line_order}
use Rattle.table.specs.Entries.{with_entry, without_key}
use Rattle.table.specs.Tables.{items}
use Rattle.stock.specs.Refusal.{told}
use Rattle.stock.specs.Holding.{after_take, take_answer}
use Rattle.ordered_stock.specs.Ordered.{held}
use Rattle.ordered_stock.proofs.SoundOrdered.{sound_of}
use Rattle.ordered_stock.proofs.Stored.{accepted, still_accepted}
use Rattle.ordered_stock.proofs.Moved.{Done, line, nothing_taken, take_done, take_freed}
use Rattle.ordered_stock.proofs.ordered.OrderedStockStock.take.Goals.{After-remove, After-add}
use Rattle.ordered_stock.proofs.ordered.OrderedStockStock.take.Goals as goal

pub returns-then-n-eq0 : goal.returns-then-n-eq0
returns-then-n-eq0 c =
    let a = c.args.self.now in
    let done = nothing_taken a.table (sound_of a) c.args.shelf c.args.row.now c.args.n c.if-shelf-gt-LAST_SHELF.false c.count-count.result c.count-count.ensures.answer c.if-n-eq0.true in
    record { memory = refl; answer = done.accepted; after = done.after }

freed : (c : After-remove) → Done c.remove.new.self (after_take (held c.args.self.now) c.args.shelf c.args.row.now c.args.n) (take_answer (held c.args.self.now) c.args.shelf c.args.row.now c.args.n)
freed c =
    let a = c.args.self.now in
    let s = c.args.shelf in
    let r = c.args.row.now in
    let m = c.count-count.result in
    let gone = c.if-left-eq0.true in
    let left : c.in_ok-left.left ≡ m - c.args.n = search rules in
    let enough : c.args.n ≤ m = search rules in
    take_freed a.table (sound_of a) s r c.args.n c.if-shelf-gt-LAST_SHELF.false m c.count-count.ensures.answer c.remove.new.self c.remove.ensures.same (omega arith)
    (c.remove.ensures.after ∙ ap (λ k. without_key stock_line_order (line s r k) (items a.table)) left)

pub invariant_of-self : goal.invariant_of-self
invariant_of-self c = let sound = (freed c).sound in record { lines = sound.lines; holding = sound.holding; run = sound.run }

pub returns-then-left-eq0 : goal.returns-then-left-eq0
returns-then-left-eq0 c =
    let done = freed (goal.at.returns-then-left-eq0 c).After-remove in
    record { memory = c.remove.ensures.same.lender; answer = done.accepted; after = done.after }

accepts : (c : After-add) → c.add.result ≡ Ok tt
accepts c =
    let a = c.args.self.now in
    let there = c.count-count.ensures.answer in
    let some = c.if-left-eq0.false in
    let left : c.in_ok-left.left ≡ c.count-count.result - c.args.n = search rules in
    accepted a.table (sound_of a) (line c.args.shelf c.args.row.now c.in_ok-left.left) c.if-shelf-gt-LAST_SHELF.false (inl (omega (arith, some))) c.add.result c.add.ensures.answer

fewer : (c : After-add) → Done c.add.new.self (after_take (held c.args.self.now) c.args.shelf c.args.row.now c.args.n) (take_answer (held c.args.self.now) c.args.shelf c.args.row.now c.args.n)
fewer c =
    let a = c.args.self.now in
    let s = c.args.shelf in
    let r = c.args.row.now in
    let m = c.count-count.result in
    let there = c.count-count.ensures.answer in
    let most = a.holding.counts s r in
    let some = c.if-left-eq0.false in
    let left : c.in_ok-left.left ≡ m - c.args.n = search rules in
    take_done a.table (sound_of a) s r c.args.n c.if-shelf-gt-LAST_SHELF.false m there c.add.new.self c.add.ensures.same c.read_columns.ensures (omega arith) (omega (arith, some))
    (c.add.ensures.after
    ∙ ap (λ x. left_by x (items a.table) (with_entry stock_line_order (line s r c.in_ok-left.left) (items a.table))) (accepts c)
    ∙ ap (λ k. with_entry stock_line_order (line s r k) (items a.table)) left)

pub invariant_of-self-2 : goal.invariant_of-self-2
invariant_of-self-2 c = let sound = (fewer c).sound in record { lines = sound.lines; holding = sound.holding; run = sound.run }

pub returns : goal.returns
returns c =
    let added = (goal.at.returns c).After-add in
    let said : c.map_err.result ≡ Ok tt = still_accepted _ c.add.result c.map_err.result (accepts added) c.map_err.ensures.cases in
    record { memory = c.add.ensures.same.lender; answer = ap told said ∙ (fewer added).accepted; after = (fewer added).after }
