use Rattle.std.proofs.Common.{◌≡◌, ◌+◌, ◌-◌, get_or, set, ap, ◌∙◌, arith}
use Rattle.table.proofs.Shifted.{closed_from}
use Rattle.table.proofs.run.remove_at.Goals as goal

pub returns : goal.returns
returns g c =
    let run = c.args.run.now in
    let i = c.args.place in
    let n = c.args.len in
    let b = g.E.Entry.blank in
    let moved = c.copy_within.new.self in
    let copied = c.copy_within.ensures.by_index in
    ap (λ x. set moved (n - 1) x) c.blank.ensures
    ∙ closed_from run moved i n b c.copy_within.ensures.len (omega arith) (omega arith)
    (λ k l. copied.1 k b l)
    (λ k l m. let q : (i + 1) + (k - i) ≡ k + 1 = omega arith in copied.0 k b l (omega arith) ∙ ap (λ j. get_or run j b) q)
    (λ k l. copied.2 k b (omega arith))
