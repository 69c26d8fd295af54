use Rattle.std.proofs.Common.{cond, to_z, of_z, ◌≡◌, true, not, ◌||◌, ltb, ◌++◌, length, get_or, take, drop, suc, ℤ, ◌+ℤ◌, sym, ap, ◌∙◌, subst, ap₂, w32, SFits, rules}
use Rattle.std.proofs.lemmas.Int.{to_z-of_z}
use Rattle.bag.specs.Order.{Row}
use Rattle.bag.specs.Bag.{count, with_line}
use Rattle.settling.specs.Keys.{key_of}
use Rattle.pending_lines.specs.ChangeLists.{no_line, has_place, with_change, changed_at}
use Rattle.pending_lines.specs.PendingLines.{changes_of}
use Rattle.pending_lines.proofs.PendingPlaces.{found_present}
use Rattle.pending_lines.proofs.pending_lines.PendingLines.add.Goals as goal

pub returns-in-Ok-clause-after : goal.returns-in-Ok-clause-after
returns-in-Ok-clause-after c =
    let p = c.args.self.now in
    let xs = changes_of p in
    let l = c.args.line.now in
    let k = key_of l in
    let n = l.change in
    let i = c.in-Ok.place in
    let here = found_present k xs p.in_order i c.in-Ok.ensures.answer in
    let place : has_place xs k ≡ true = ap (λ b. not b || ltb (length xs) 64) here.some in
    let g : SFits w32 n = search rules in
    λ (f : SFits w32 (n +ℤ count xs k)).
    let same : to_z w32 (of_z w32 n) ≡ n = to_z-of_z w32 n g in
    c.change_by.ensures.after (subst (λ z. SFits w32 (z +ℤ (get_or xs i no_line).1)) (sym same) (subst (λ z. SFits w32 (n +ℤ z)) (sym here.change) f))
    ∙ ap (changed_at xs i) same
    ∙ ap₂ (λ (r : Row) (z : ℤ). take i xs ++ with_line r (n +ℤ z) (drop (suc i) xs)) here.row here.change
    ∙ sym (here.added n)
    ∙ ap (λ b. cond b (with_change l xs) xs) (sym place)
