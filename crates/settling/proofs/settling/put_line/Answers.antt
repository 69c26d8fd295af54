use Rattle.std.proofs.Common.{rules, ◌≡◌, false, [], ◌∷◌, ℤ, pos, nat_abs, sym, refl, ap, ◌∙◌, subst, arith}
use Rattle.std.proofs.lemmas.Int.{ints}
use Rattle.bag.specs.Operators.{at_least_zero}
use Rattle.bag.proofs.OperatorBags.{count_low}
use Rattle.stock.specs.Holding.{Holding, shelf_of, with_copies, lacks_room}
use Rattle.settling.specs.Keys.{key_of}
use Rattle.settling.specs.Steps.{PutsLine, Moved}
use Rattle.settling.proofs.HoldingCounts.{copies_are}
use Rattle.settling.proofs.Moving.{moved_one, moved_still, accepted_put}
use Rattle.settling.proofs.Copies.{gained}
use Rattle.settling.proofs.settling.put_line.Goals as goal

pub returns-then-n-gt0 : goal.returns-then-n-gt0
returns-then-n-gt0 g c =
    let stock = g.S.Stock in
    let s = c.args.stock.now in
    let p = c.args.line.now in
    let n = c.copies-n.result in
    record {
      memory = c.put.ensures.memory;
      after = λ (t : PutsLine (stock.meaning s) p).
          let h = stock.meaning s in
          let law = stock.lawful s in
          let low = count_low (shelf_of h p.node) (law.bags p.node).1 p.row in
          let within = t.within in
          let are = copies_are h law p.node p.row in
          let is = gained p.change n (search rules) (omega (arith, ints, low, within)) c.copies-n.ensures in
          let same : nat_abs (at_least_zero p.change) ≡ n = sym (ap nat_abs is) in
          let room : lacks_room h p.node p.row n ≡ false = subst (λ m. lacks_room h p.node p.row m ≡ false) same t.room in
          let left = c.put.ensures.after ∙ accepted_put h p.node p.row n t.shelf (omega (arith, ints, is, within, are)) room in
          subst (λ (k : Holding). Moved h k ((key_of p, at_least_zero p.change) ∷ [])) (sym left)
          (subst (λ (z : ℤ). Moved h (with_copies h p.node p.row (pos n)) ((key_of p, z) ∷ [])) is (moved_one h p.node p.row (pos n) law.sixteen));
    }

pub returns-else-n-gt0 : goal.returns-else-n-gt0
returns-else-n-gt0 g c =
    let stock = g.S.Stock in
    let s = c.args.stock.now in
    let p = c.args.line.now in
    let n = c.copies-n.result in
    record {
      memory = refl;
      after = λ (t : PutsLine (stock.meaning s) p).
          let h = stock.meaning s in
          let law = stock.lawful s in
          let low = count_low (shelf_of h p.node) (law.bags p.node).1 p.row in
          let within = t.within in
          let is = gained p.change n (search rules) (omega (arith, ints, low, within)) c.copies-n.ensures in
          let none : pos 0 ≡ at_least_zero p.change = let m : n ≡ 0 = omega arith in sym (ap pos m) ∙ is in
          subst (λ (z : ℤ). Moved h h ((key_of p, z) ∷ [])) none (moved_still h (key_of p));
    }
