use Rattle.std.proofs.Common.{◌∙◌, ap, map, Some, None, rules, tests}
use Rattle.std.specs.List.{filter, fold}
use Rattle.std.proofs.lemmas.Iterator.{YieldsList-from_slice, YieldsList-from_map}
use Rattle.std.proofs.lemmas.Iterator.Consumers.{YieldsList-at, YieldsList-from_filter, fold_from_yields_List}
use Rattle.byte_stock.specs.ByteLines.{line_in, line_at}
use Rattle.byte_stock.specs.ByteStored.{comes_after}
use Rattle.byte_stock.proofs.BytePasses.{kept_then_read, nearer_yet, fold_is_reduce}
use Rattle.byte_stock.proofs.byte_search.find_next.Goals as goal

pub returns : goal.returns
unfolding line_at
returns c =
    let s = c.args.shelf in
    let r = c.args.row.now in
    let lines = c.args.lines.now in
    fold_from_yields_List _ (λ o l. Some (nearer_yet o l)) None c.fold.result c.fold.ensures.ran
    (YieldsList-from_map _ line_in
    (YieldsList-at c.map.ensures.source
    (YieldsList-from_filter _ (λ b. comes_after s r (line_in b)) (YieldsList-at c.filter.ensures.source (YieldsList-from_slice lines c.iter.ensures.rest)) c.filter.ensures.closure (λ x b q k. search (rules, tests))))
    c.map.ensures.closure (λ x b q k. search (rules, tests)))
    (λ o l b q k. search (rules, tests))
    ∙ ap (fold (λ o l. Some (nearer_yet o l)) None) (kept_then_read s r lines)
    ∙ fold_is_reduce (filter (comes_after s r) (map line_in lines))
