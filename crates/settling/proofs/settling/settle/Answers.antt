use Rattle.stock.specs.Holding.{Holding}
use Rattle.settling.specs.Leading.{Leads}
use Rattle.settling.proofs.Arriving.{takeable_from, puttable_from, arrived}
use Rattle.settling.proofs.settling.settle.Goals as goal

pub returns : goal.returns
returns g c =
    let stock = g.S.Stock in
    let s = c.args.stock.now in
    let lines = c.args.lines.now in
    let mid = c.take_all.new.stock in
    let end = c.put_all.new.stock in
    record {
      memory = cc;
      after = λ (aim : Holding) (leads : Leads (stock.meaning s) lines aim).
          let h = stock.meaning s in
          let law = stock.lawful s in
          let took = c.take_all.ensures.after (takeable_from h aim lines law leads) in
          let gave = c.put_all.ensures.after aim (puttable_from h aim lines law leads (stock.meaning mid) took) in
          arrived h aim lines law leads (stock.meaning mid) (stock.meaning end) took gave (stock.lawful end);
    }
