use Rattle.std.proofs.Common.{◌≡◌, ◌++◌, Option, sym, ◌∙◌, subst, ap₂}
use Rattle.bag.specs.Order.{Row}
use Rattle.bag.specs.Bag.{Lines, collect, negated}
use Rattle.delta.specs.Writing.{Written}
use Rattle.delta.proofs.Steps.{same_itself}
use Rattle.delta_groups.specs.Groups.{one_of}
use Rattle.delta_groups.proofs.Exchanged.{collect_one, collect_gone, collect_none, collect_both, wrote_since}
use Rattle.delta_groups.proofs.exchange.exchange_if_there.Goals as goal

-- the lines that an old and a new row come to
told : (d : Lines) (a b o p : Option Row) → o ≡ a → p ≡ b → d ++ collect (negated (one_of a) ++ one_of b) ≡ d ++ collect (negated (one_of o) ++ one_of p)
told d a b o p e f = ap₂ (λ x y. d ++ collect (negated (one_of x) ++ one_of y)) (sym e) (sym f)

pub returns-in-None-None-clause-after : goal.returns-in-None-None-clause-after
returns-in-None-None-clause-after g c d was =
    subst (Written g.S.Stock.meaning c.args.writer.now) (collect_none d ∙ told d _ _ c.args.old c.args.new c.in-None-None.is-0 c.in-None-None.is-1) was

pub returns-in-None-Some-clause-after : goal.returns-in-None-Some-clause-after
returns-in-None-Some-clause-after g c d was =
    let v = c.args.writer.now in
    wrote_since g.S.Stock.meaning v v c.append.new.self _ _ c.append.result (same_itself v)
    (collect_one d c.in-None-Some.new ∙ told d _ _ c.args.old c.args.new c.in-None-Some.is-0 c.in-None-Some.is-1) (c.append.ensures.after d was)

pub returns-in-Some-None-clause-after : goal.returns-in-Some-None-clause-after
returns-in-Some-None-clause-after g c d was =
    let v = c.args.writer.now in
    wrote_since g.S.Stock.meaning v v c.append-in-Some-None.new.self _ _ c.append-in-Some-None.result (same_itself v)
    (collect_gone d c.in-Some-None.old ∙ told d _ _ c.args.old c.args.new c.in-Some-None.is-0 c.in-Some-None.is-1) (c.append-in-Some-None.ensures.after d was)

pub returns-in-Some-Some-clause-after : goal.returns-in-Some-Some-clause-after
returns-in-Some-Some-clause-after g c d was =
    let v = c.args.writer.now in
    wrote_since g.S.Stock.meaning v v c.exchange_rows.new.writer _ _ c.exchange_rows.result (same_itself v)
    (collect_both d c.in-Some-Some.old c.in-Some-Some.new ∙ told d _ _ c.args.old c.args.new c.in-Some-Some.is-0 c.in-Some-Some.is-1) (c.exchange_rows.ensures.after d was)
