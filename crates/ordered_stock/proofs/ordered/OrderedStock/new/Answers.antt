use Rattle.std.proofs.Common.{◌≡◌, ◌-◌, ◌≤◌, min, List, [], length, replicate, sym, ap, ◌∙◌, subst, ap₂, arith}
use Rattle.std.specs.List.{AllByRecursion}
use Rattle.bag.specs.Lines.{blank_stock_line}
use Rattle.bag.specs.Bag.{Lines}
use Rattle.table.proofs.SoundTables.{holds_stock}
use Rattle.stock.specs.Holding.{LawfulLine}
use Rattle.ordered_stock.specs.OnTable.{shelves_of}
use Rattle.ordered_stock.proofs.SoundOrdered.{sound_from}
use Rattle.ordered_stock.proofs.Shelves.{no_lines}
use Rattle.ordered_stock.proofs.ordered.OrderedStock.new.Goals as goal

pub invariant_of-result : goal.invariant_of-result
invariant_of-result c =
    let t = c.new.result in
    let none = c.new.ensures.empty in
    let sound = sound_from t (subst (AllByRecursion LawfulLine) (sym none) tt) (subst (λ v. length v ≤ 4096) (sym none) (omega arith)) in
    record { lines = sound.lines; holding = sound.holding; run = sound.run }

pub returns : goal.returns
returns c =
    let t = c.new.result in
    let e = c.new.ensures in
    let whole = (holds_stock t [] e.empty).whole in
    let long = e.long in
    let places : length t.run.now - 0 ≡ length c.args.run.now = omega arith in
    record {
      lender = e.lender;
      empty = ap₂ (λ n (v : List Lines). record { capacity = n; shelves = v }) (ap (λ n. min n 4096) long) (ap shelves_of e.empty ∙ no_lines);
      blank = whole ∙ ap (λ n. replicate n blank_stock_line) places;
    }
