use Rattle.std.proofs.Common.{◌≡◌, ◌-◌, length, replicate, ap, sym, ◌∙◌, arith, rules, of_calls}
use Rattle.table.proofs.Filled.{filled}
use Rattle.table.proofs.table.Table.new.Goals as goal

pub invariant_of-result : goal.invariant_of-result
invariant_of-result g c =
    let blank = g.E.Entry.blank in
    let run = c.fill_with.new.self in
    let all : length run - 0 ≡ length run = omega arith in
    record {
      within = omega arith;
      ascending = tt;
      blanks = filled _ blank _ (λ r f k. search (rules, of_calls)) run c.fill_with.ensures.ran.0 c.fill_with.ensures.ran.1 ∙ ap (λ n. replicate n blank) (sym all);
    }
