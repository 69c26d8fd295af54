use Rattle.std.proofs.Common.{rules, ◌≡◌, [], ◌∷◌, ℤ, pos, neg_ℤ, sym, refl, ap, ◌∙◌, subst, arith}
use Rattle.std.proofs.lemmas.Int.{ints}
use Rattle.bag.specs.Changes.{taken}
use Rattle.stock.specs.Holding.{Holding, with_copies}
use Rattle.settling.specs.Keys.{key_of}
use Rattle.settling.specs.Steps.{TakesLine, Moved}
use Rattle.settling.proofs.HoldingCounts.{copies_are}
use Rattle.settling.proofs.Moving.{moved_one, moved_still, accepted_take}
use Rattle.settling.proofs.Copies.{lost}
use Rattle.settling.proofs.settling.take_line.Goals as goal

pub returns-then-n-gt0 : goal.returns-then-n-gt0
returns-then-n-gt0 g c =
    let stock = g.S.Stock in
    let s = c.args.stock.now in
    let p = c.args.line.now in
    let n = c.copies-n.result in
    record {
      memory = c.take.ensures.memory;
      after = λ (t : TakesLine (stock.meaning s) p).
          let h = stock.meaning s in
          let law = stock.lawful s in
          let is = lost p.change n (search rules) t.short c.copies-n.ensures in
          let there = t.there in
          let are = copies_are h law p.node p.row in
          let left = c.take.ensures.after ∙ accepted_take h p.node p.row n t.shelf (omega (arith, ints, is, there, are)) in
          subst (λ (k : Holding). Moved h k ((key_of p, neg_ℤ (taken p.change)) ∷ [])) (sym left)
          (subst (λ (z : ℤ). Moved h (with_copies h p.node p.row (neg_ℤ (pos n))) ((key_of p, neg_ℤ z) ∷ [])) is (moved_one h p.node p.row (neg_ℤ (pos n)) law.sixteen));
    }

pub returns-else-n-gt0 : goal.returns-else-n-gt0
returns-else-n-gt0 g c =
    let stock = g.S.Stock in
    let s = c.args.stock.now in
    let p = c.args.line.now in
    let n = c.copies-n.result in
    record {
      memory = refl;
      after = λ (t : TakesLine (stock.meaning s) p).
          let is = lost p.change n (search rules) t.short c.copies-n.ensures in
          let none : pos 0 ≡ taken p.change = let m : n ≡ 0 = omega arith in sym (ap pos m) ∙ is in
          subst (λ (z : ℤ). Moved (stock.meaning s) (stock.meaning s) ((key_of p, neg_ℤ z) ∷ [])) none (moved_still (stock.meaning s) (key_of p));
    }
