use Rattle.std.proofs.Common.{◌+◌, ◌*◌, Ok, ap, ◌∙◌, arith}
use Rattle.byte_stock.specs.ByteLines.{laid}
use Rattle.byte_stock.proofs.ByteKept.{PutLeft}
use Rattle.byte_stock.proofs.ByteCalls.{left_idle, left_full, left_new}
use Rattle.byte_stock.proofs.StockLeft.{sound_of, put_leaves}
use Rattle.byte_stock.proofs.bytes.ByteStock.add_line.Goals.{After-write_line}
use Rattle.byte_stock.proofs.bytes.ByteStock.add_line.Goals as goal

pub returns-then-n-eq0-clause-left : goal.returns-then-n-eq0-clause-left
returns-then-n-eq0-clause-left c =
    let stock = c.args.self.now in
    put_leaves stock stock _ _ _ _ (left_idle stock.bytes.now stock.len c.args.n (sound_of stock) c.args.shelf c.args.row.now c.requires.absent c.requires.shelf c.if-n-eq0.true)

pub returns-then-self-room-clause-left : goal.returns-then-self-room-clause-left
returns-then-self-room-clause-left c =
    let stock = c.args.self.now in
    let fits = c.ranges.n in
    put_leaves stock stock _ _ _ _ (left_full stock.bytes.now stock.len c.args.n (sound_of stock) c.args.shelf c.args.row.now c.requires.absent c.requires.shelf c.room-room.result c.room-room.ensures (omega arith) (omega arith) (omega arith))

-- what the bytes and the number of lines are then
left : (c : After-write_line) → PutLeft c.args.self.now.bytes.now c.args.self.now.len c.args.shelf c.args.row.now c.args.n (Ok tt) c.write_line.new.bytes (c.args.self.now.len + 1)
left c =
    let stock = c.args.self.now in
    let fits = c.ranges.n in
    let room = c.room-room.ensures in
    left_new stock.bytes.now stock.len c.args.n (sound_of stock) c.args.shelf c.args.row.now c.requires.absent c.requires.shelf c.requires.row c.write_line.new.bytes (omega arith) (omega arith) (omega arith)
    (c.write_line.ensures ∙ ap (laid stock.bytes.now (35 * stock.len)) c.line_bytes.ensures)
    c.write_line.auto.bytes

pub invariant_of-self : goal.invariant_of-self
invariant_of-self c = let sound = (left c).sound in record { room = sound.room; lawful = sound.lawful; apart = sound.apart; whole = sound.whole }

pub returns-clause-left : goal.returns-clause-left
returns-clause-left c = put_leaves c.args.self.now _ _ _ _ _ (left (goal.at.returns-clause-left c).After-write_line)
