use Rattle.std.proofs.Common.{◌≡◌, ◌+◌, ◌-◌, get_or, ap, ◌∙◌, arith}
use Rattle.table.proofs.Shifted.{opened_from}
use Rattle.table.proofs.run.insert_at.Goals as goal

pub returns : goal.returns
returns g c =
    let run = c.args.run.now in
    let i = c.args.place in
    let e = c.args.item in
    let copied = c.copy_within.ensures.by_index in
    opened_from run c.copy_within.new.self i c.args.len e c.copy_within.ensures.len (omega arith) (omega arith)
    (λ k l. copied.1 k e (omega arith))
    (λ k l m. let q : i + (k - (i + 1)) ≡ k - 1 = omega arith in copied.0 k e (omega arith) (omega arith) ∙ ap (λ n. get_or run n e) q)
    (λ k l. copied.2 k e (omega arith))
