use Rattle.std.proofs.Common.{◌∙◌, rules}
use borrow.Author.Tests.{tests}
use Rattle.std.proofs.lemmas.Iterator.{YieldsList-from_slice}
use Rattle.std.proofs.lemmas.Iterator.Consumers.{YieldsList-from_enumerate}
use Rattle.std.proofs.lemmas.Iterator.Search.{all_from_yields_List}
use Rattle.message.proofs.Allowed.{allowed_at, all_allowed}
use Rattle.message.proofs.field.columns_allowed.Goals as goal

pub returns : goal.returns
returns c =
    let m = c.args.map.bits in
    let row = c.args.row.now in
    all_from_yields_List (allowed_at m) _ _ c.all.result c.all.ensures.ran (YieldsList-from_enumerate (YieldsList-from_slice row cc) c.enumerate.ensures.count) (λ x b q k. search (rules, tests))
    ∙ all_allowed m row c.told-row
