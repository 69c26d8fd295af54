use Rattle.std.proofs.Common.{[], ◌∷◌, arith}
use Rattle.bag.specs.Bytes.{in_two}
use Rattle.message.proofs.Encoded.{length_encode, absent_or_long}
use Rattle.message.proofs.put.record_length.Goals as goal

pub returns-clause-is : goal.returns-clause-is
returns-clause-is c =
    let r = c.args.record.now in
    let n = absent_or_long r.count 1 (in_two r.count) in
    let s = absent_or_long r.node 0 (r.node ∷ []) in
    omega (arith, length_encode r, c.from-count.ensures, c.from-node.ensures)
