use Rattle.std.proofs.Common.{◌≡◌, sym, ap, ◌∙◌, w32, SFits, rules}
use Rattle.std.proofs.lemmas.Int.{to_z-of_z}
use Rattle.table.specs.Tables.{items}
use Rattle.nets.proofs.KeyedLines.{found_change, count_found}
use Rattle.nets.proofs.adding.NetTable.net.Goals as goal

pub returns : goal.returns
returns c =
    let t = c.args.self.now.table.now in
    let f : SFits w32 c.map_or.result = search rules in
    let found : c.map_or.result ≡ found_change c.line.result = search rules in
    to_z-of_z w32 c.map_or.result f ∙ found ∙ ap found_change c.line.ensures ∙ sym (count_found c.args.line.now (items t) c.args.self.now.canonical)
