use Rattle.std.proofs.Common.{List, sym, rules, ◌≡◌}
use Rattle.std.proofs.lemmas.Iterator.{YieldsList-from_slice}
use Rattle.std.proofs.lemmas.Iterator.Search.{find_from_yields_List}
use Rattle.message.specs.declared.record.Record.{Record}
use Rattle.nets.specs.Nets.{nets_of}
use Rattle.nets.proofs.ShortNets.{takes_too_much, first_short, found_short}
use Rattle.nets.proofs.short.short.Goals as goal

pub returns : goal.returns
returns g c =
    let ls = c.args.nets.now in
    let s = c.args.stock.now in
    let h = g.S.Stock.meaning s in
    let found = find_from_yields_List (takes_too_much h) _ _ c.find.result c.find.ensures.ran (YieldsList-from_slice ls cc) (λ x b q k. search rules) in
    let first : c.map.result ≡ first_short h ls = rw (sym found) (search rules) in
    let is = λ (m : List Record) (e : ls ≡ nets_of m). found_short h (g.S.Stock.lawful s) ls c.map.result first m e in
    record { answer = λ m e. (is m e).0; counts = λ m e. (is m e).1 }
