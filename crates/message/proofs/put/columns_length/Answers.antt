use Rattle.std.proofs.Common.{◌≡◌, ◌*◌, length, filter, not, ◌∙◌, ap, rules, int_eq, pos}
use borrow.Author.Tests.{tests}
use Rattle.std.proofs.lemmas.Iterator.{YieldsList-from_slice}
use Rattle.std.proofs.lemmas.Iterator.Consumers.{YieldsList-from_filter, YieldsList-at, count_from_yields_List}
use Rattle.message.proofs.Columns.{columns_length_is}
use Rattle.message.proofs.put.columns_length.Goals as goal

pub returns-clause-is : goal.returns-clause-is
returns-clause-is c =
    let row = c.args.row.now in
    let n : c.count.result ≡ length (filter (λ v. not (int_eq v (pos 0))) row) =
    count_from_yields_List c.filter.result c.count.result c.count.ensures.ran (YieldsList-from_filter _ (λ v. not (int_eq v (pos 0))) (YieldsList-at c.filter.ensures.source (YieldsList-from_slice row cc)) c.filter.ensures.closure (λ x r q k. search (rules, tests))) in
    ap (λ k. 4 * k) n ∙ columns_length_is row
