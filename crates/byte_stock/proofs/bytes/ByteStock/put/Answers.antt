use Rattle.byte_stock.proofs.StockLeft.{found_in, put_at}
use Rattle.byte_stock.proofs.bytes.ByteStock.put.Goals as goal

pub returns-in-Some-clause-left : goal.returns-in-Some-clause-left
returns-in-Some-clause-left c =
    let stock = c.args.self.now in
    put_at stock c.add_to.new.self c.args.shelf c.args.row.now c.args.n c.add_to.result c.in-Some.place
    (found_in stock c.stored.result.now c.args.shelf c.args.row.now c.in-Some.place c.stored.ensures.lines c.in-Some.ensures.place) c.add_to.ensures.left
