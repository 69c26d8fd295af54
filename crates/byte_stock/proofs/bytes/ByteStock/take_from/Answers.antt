use Rattle.std.proofs.Common.{◌≡◌, ◌-◌, ◌*◌, ◌<◌, ◌≤◌, Ok, Err, sym, ap, ◌∙◌, subst, arith, rules}
use Rattle.bag.specs.declared.lines.StockLine.{StockLine}
use Rattle.stock.specs.declared.fault.StockFault.TheVariants as faults
use Rattle.byte_stock.specs.ByteLines.{line_bytes, laid}
use Rattle.byte_stock.specs.ByteStored.{line_of}
use Rattle.byte_stock.specs.ByteStocks.{stored}
use Rattle.byte_stock.proofs.ByteKept.{TakeLeft}
use Rattle.byte_stock.proofs.ByteCalls.{line_read, counted, taken_short, taken_all, taken_some}
use Rattle.byte_stock.proofs.StockLeft.{sound_of, take_leaves}
use Rattle.byte_stock.proofs.bytes.ByteStock.take_from.Goals.{After-read_line-line, After-free_line, After-write_line}
use Rattle.byte_stock.proofs.bytes.ByteStock.take_from.Goals as goal

read : (c : After-read_line-line) → c.read_line-line.result ≡ line_of (stored c.args.self.now) c.args.place
read c = c.read_line-line.ensures ∙ line_read c.stored.result.now (stored c.args.self.now) c.args.place c.stored.ensures.lines (omega arith)

pub returns-in_err-line-clause-left : goal.returns-in_err-line-clause-left
returns-in_err-line-clause-left c =
    let stock = c.args.self.now in
    let b = stock.bytes.now in
    let i = c.args.place in
    let n = c.args.n in
    let here = line_of (stored stock) i in
    let r = read (goal.at.returns-in_err-line-clause-left c).After-read_line-line in
    let e : c.read_line-line.result.count ≡ here.count = ap (λ (l : StockLine). l.count) r in
    let short : c.read_line-line.result.count < n = search rules in
    let fault : c.from_residual.result ≡ Err (faults.Short c.read_line-line.result.shelf) = search rules in
    take_leaves stock stock _ _ _ _
    (subst (λ x. TakeLeft b stock.len here.shelf here.row n x b stock.len) (sym (fault ∙ ap (λ (l : StockLine). Err (faults.Short l.shelf)) r))
    (taken_short b stock.len n (sound_of stock) i c.requires (omega arith)))

freed : (c : After-free_line) → TakeLeft c.args.self.now.bytes.now c.args.self.now.len (line_of (stored c.args.self.now) c.args.place).shelf (line_of (stored c.args.self.now) c.args.place).row c.args.n (Ok tt) c.free_line.new.bytes (c.args.self.now.len - 1)
freed c =
    let stock = c.args.self.now in
    let n = c.args.n in
    let e : c.read_line-line.result.count ≡ (line_of (stored stock) c.args.place).count = ap (λ (l : StockLine). l.count) (read (goal.at.invariant_of-self c).After-read_line-line) in
    let rest : c.in_ok-line.field-0 ≡ c.read_line-line.result.count - n = search rules in
    let enough : n ≤ c.read_line-line.result.count = search rules in
    taken_all stock.bytes.now stock.len n (sound_of stock) c.args.place c.requires c.free_line.new.bytes (omega arith) c.free_line.ensures c.free_line.auto.bytes

fewer : (c : After-write_line) → TakeLeft c.args.self.now.bytes.now c.args.self.now.len (line_of (stored c.args.self.now) c.args.place).shelf (line_of (stored c.args.self.now) c.args.place).row c.args.n (Ok tt) c.write_line.new.bytes c.args.self.now.len
fewer c =
    let stock = c.args.self.now in
    let b = stock.bytes.now in
    let i = c.args.place in
    let n = c.args.n in
    let here = line_of (stored stock) i in
    let r = read (goal.at.invariant_of-self-else-line-eq0 c).After-read_line-line in
    let e : c.read_line-line.result.count ≡ here.count = ap (λ (l : StockLine). l.count) r in
    let rest : c.in_ok-line.field-0 ≡ c.read_line-line.result.count - n = search rules in
    taken_some b stock.len n (sound_of stock) i c.requires c.write_line.new.bytes (omega arith)
    (c.write_line.ensures ∙ ap (laid b (35 * i)) (c.line_bytes.ensures ∙ ap line_bytes (counted c.read_line-line.result here c.in_ok-line.field-0 (here.count - n) r (rest ∙ ap (λ m. m - n) e))))
    c.write_line.auto.bytes

pub invariant_of-self : goal.invariant_of-self
invariant_of-self c = let sound = (freed c).sound in record { room = sound.room; lawful = sound.lawful; apart = sound.apart; whole = sound.whole }

pub invariant_of-self-else-line-eq0 : goal.invariant_of-self-else-line-eq0
invariant_of-self-else-line-eq0 c = let sound = (fewer c).sound in record { room = sound.room; lawful = sound.lawful; apart = sound.apart; whole = sound.whole }

pub returns-then-line-eq0-clause-left : goal.returns-then-line-eq0-clause-left
returns-then-line-eq0-clause-left c = take_leaves c.args.self.now _ _ _ _ _ (freed (goal.at.returns-then-line-eq0-clause-left c).After-free_line)

pub returns-else-line-eq0-clause-left : goal.returns-else-line-eq0-clause-left
returns-else-line-eq0-clause-left c = take_leaves c.args.self.now _ _ _ _ _ (fewer (goal.at.returns-else-line-eq0-clause-left c).After-write_line)
