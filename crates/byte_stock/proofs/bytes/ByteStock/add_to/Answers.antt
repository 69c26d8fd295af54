use Rattle.std.proofs.Common.{◌≡◌, ◌+◌, ◌*◌, ◌<◌, Ok, Err, sym, ap, ◌∙◌, subst, arith, rules}
use Rattle.bag.specs.declared.lines.StockLine.{StockLine}
use Rattle.stock.specs.declared.fault.StockFault.TheVariants as faults
use Rattle.byte_stock.specs.ByteLines.{line_bytes, laid}
use Rattle.byte_stock.specs.ByteStored.{line_of}
use Rattle.byte_stock.specs.ByteStocks.{stored}
use Rattle.byte_stock.proofs.ByteKept.{PutLeft}
use Rattle.byte_stock.proofs.ByteCalls.{line_read, counted, left_over, left_more}
use Rattle.byte_stock.proofs.StockLeft.{sound_of, put_leaves}
use Rattle.byte_stock.proofs.bytes.ByteStock.add_to.Goals.{After-write_line, After-read_line-line}
use Rattle.byte_stock.proofs.bytes.ByteStock.add_to.Goals as goal

read : (c : After-read_line-line) → c.read_line-line.result ≡ line_of (stored c.args.self.now) c.args.place
read c = c.read_line-line.ensures ∙ line_read c.stored.result.now (stored c.args.self.now) c.args.place c.stored.ensures.lines (omega arith)

pub returns-in_err-line-clause-left : goal.returns-in_err-line-clause-left
returns-in_err-line-clause-left c =
    let stock = c.args.self.now in
    let b = stock.bytes.now in
    let i = c.args.place in
    let n = c.args.n in
    let here = line_of (stored stock) i in
    let r = read (goal.at.returns-in_err-line-clause-left c).After-read_line-line in
    let e : c.read_line-line.result.count ≡ here.count = ap (λ (l : StockLine). l.count) r in
    let over : 65535 < c.read_line-line.result.count + n = search rules in
    let fault : c.from_residual.result ≡ Err (faults.Over c.read_line-line.result.shelf) = search rules in
    put_leaves stock stock _ _ _ _
    (subst (λ x. PutLeft b stock.len here.shelf here.row n x b stock.len) (sym (fault ∙ ap (λ (l : StockLine). Err (faults.Over l.shelf)) r))
    (left_over b stock.len n (sound_of stock) i c.requires (omega arith)))

left : (c : After-write_line) → PutLeft c.args.self.now.bytes.now c.args.self.now.len (line_of (stored c.args.self.now) c.args.place).shelf (line_of (stored c.args.self.now) c.args.place).row c.args.n (Ok tt) c.write_line.new.bytes c.args.self.now.len
left c =
    let stock = c.args.self.now in
    let b = stock.bytes.now in
    let i = c.args.place in
    let n = c.args.n in
    let here = line_of (stored stock) i in
    let r = read (goal.at.invariant_of-self c).After-read_line-line in
    let e : c.read_line-line.result.count ≡ here.count = ap (λ (l : StockLine). l.count) r in
    let sum : c.in_ok-line.field-0 ≡ c.read_line-line.result.count + n = search rules in
    let fits : c.read_line-line.result.count + n < 65536 = search rules in
    left_more b stock.len n (sound_of stock) i c.requires c.write_line.new.bytes (omega arith)
    (c.write_line.ensures ∙ ap (laid b (35 * i)) (c.line_bytes.ensures ∙ ap line_bytes (counted c.read_line-line.result here c.in_ok-line.field-0 (here.count + n) r (sum ∙ ap (λ m. m + n) e))))
    c.write_line.auto.bytes

pub invariant_of-self : goal.invariant_of-self
invariant_of-self c = let sound = (left c).sound in record { room = sound.room; lawful = sound.lawful; apart = sound.apart; whole = sound.whole }

pub returns-clause-left : goal.returns-clause-left
returns-clause-left c = put_leaves c.args.self.now _ _ _ _ _ (left (goal.at.returns-clause-left c).After-write_line)
