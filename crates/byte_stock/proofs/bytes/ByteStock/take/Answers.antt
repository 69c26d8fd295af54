use Rattle.std.proofs.Common.{arith}
use Rattle.byte_stock.proofs.ByteCalls.{taken_none, taken_idle}
use Rattle.byte_stock.proofs.StockLeft.{sound_of, take_leaves, found_in, none_in, take_at}
use Rattle.byte_stock.proofs.bytes.ByteStock.take.Goals as goal

pub returns-in-Some-clause-left : goal.returns-in-Some-clause-left
returns-in-Some-clause-left c =
    let stock = c.args.self.now in
    take_at stock c.take_from.new.self c.args.shelf c.args.row.now c.args.n c.take_from.result c.in-Some.place
    (found_in stock c.stored.result.now c.args.shelf c.args.row.now c.in-Some.place c.stored.ensures.lines c.in-Some.ensures.place) c.take_from.ensures.left

pub returns-in-None-clause-left : goal.returns-in-None-clause-left
returns-in-None-clause-left c =
    let stock = c.args.self.now in
    let none = none_in stock c.stored.result.now c.args.shelf c.args.row.now c.stored.ensures.lines c.in-None.ensures.place in
    take_leaves stock stock _ _ _ _ (taken_none stock.bytes.now stock.len c.args.n (sound_of stock) c.args.shelf c.args.row.now none c.if-shelf-gt-LAST_SHELF.false c.if-n-gt0.true)

pub returns-in-None-2-clause-left : goal.returns-in-None-2-clause-left
returns-in-None-2-clause-left c =
    let stock = c.args.self.now in
    let none = none_in stock c.stored.result.now c.args.shelf c.args.row.now c.stored.ensures.lines c.in-None-2.ensures.place in
    let zero = c.if-n-gt0.false in
    take_leaves stock stock _ _ _ _ (taken_idle stock.bytes.now stock.len c.args.n (sound_of stock) c.args.shelf c.args.row.now none c.if-shelf-gt-LAST_SHELF.false (omega arith))
