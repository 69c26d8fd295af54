use Rattle.std.proofs.Common.{◌∙◌, rules, tests}
use Rattle.std.proofs.lemmas.Iterator.{YieldsList-from_slice}
use Rattle.std.proofs.lemmas.Iterator.Search.{position_from_yields_List}
use Rattle.byte_stock.specs.ByteLines.{line_in}
use Rattle.byte_stock.specs.ByteStored.{has_key}
use Rattle.byte_stock.proofs.BytePasses.{place_is_position}
use Rattle.byte_stock.proofs.byte_search.find.Goals as goal

pub returns-clause-place : goal.returns-clause-place
returns-clause-place c =
    let s = c.args.shelf in
    let r = c.args.row.now in
    position_from_yields_List (λ l. has_key s r (line_in l)) _ _ c.position.result c.position.ensures.ran (YieldsList-from_slice c.args.lines.now c.iter.ensures.rest) (λ x b q k. search (rules, tests))
    ∙ place_is_position s r c.args.lines.now
