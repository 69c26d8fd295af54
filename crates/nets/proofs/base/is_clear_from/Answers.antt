use Rattle.std.proofs.Common.{rules, tests}
use Rattle.std.proofs.lemmas.Iterator.{YieldsList-from_slice}
use Rattle.std.proofs.lemmas.Iterator.Adapters.{YieldsList-from_skip}
use Rattle.std.proofs.lemmas.Iterator.Search.{all_from_yields_List}
use Rattle.bag.specs.Bag.{is_zero}
use Rattle.nets.proofs.base.is_clear_from.Goals as goal

pub returns : goal.returns
returns c =
    let row = c.args.row.now in
    let w = c.args.width in
    all_from_yields_List is_zero _ _ c.all.result c.all.ensures.ran (YieldsList-from_skip w (YieldsList-from_slice row cc) c.skip.ensures.count) (λ x b q k. search (rules, tests))
