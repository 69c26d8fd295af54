use Rattle.std.proofs.Common.{[], ◌∷◌, ◌++◌, pos, negsuc, sym, subst}
use Rattle.std.proofs.lemmas.Result.{err_from_is_err_and}
use Rattle.bag.specs.Bag.{collect}
use Rattle.delta.specs.Writing.{Written, TooMany}
use Rattle.delta.proofs.Steps.{same_itself, front_too_many}
use Rattle.delta_groups.proofs.Exchanged.{exchange_less, exchange_equal, exchange_greater, wrote_since}
use Rattle.delta_groups.proofs.exchange.exchange_rows.Goals as goal

pub returns-in_err-append-in-Less-clause-after : goal.returns-in_err-append-in-Less-clause-after
returns-in_err-append-in-Less-clause-after g c d was =
    let v = c.args.writer.now in
    let old = c.args.old.now in
    let new = c.args.new.now in
    let told = err_from_is_err_and c.from_residual.result c.from_residual.ensures.1 in
    let here : TooMany g.S.Stock.meaning v (d ++ collect ((old, negsuc 0) ∷ (new, pos 1) ∷ [])) c.in_err-append-in-Less.field-0.0 =
    front_too_many g.S.Stock.meaning v v (d ++ ((old, negsuc 0) ∷ [])) ((new, pos 1) ∷ []) _ _ (same_itself v) (exchange_less d old new (sym c.in-Less.ensures)) (c.in_err-append-in-Less.ensures.after d was) in
    rw (told.1, told.2) here

pub returns-in_err-append-in-Greater-clause-after : goal.returns-in_err-append-in-Greater-clause-after
returns-in_err-append-in-Greater-clause-after g c d was =
    let v = c.args.writer.now in
    let old = c.args.old.now in
    let new = c.args.new.now in
    let told = err_from_is_err_and c.from_residual-in_err-append-in-Greater.result c.from_residual-in_err-append-in-Greater.ensures.1 in
    let here : TooMany g.S.Stock.meaning v (d ++ collect ((old, negsuc 0) ∷ (new, pos 1) ∷ [])) c.in_err-append-in-Greater.field-0.0 =
    front_too_many g.S.Stock.meaning v v (d ++ ((new, pos 1) ∷ [])) ((old, negsuc 0) ∷ []) _ _ (same_itself v) (exchange_greater d old new (sym c.in-Greater.ensures)) (c.in_err-append-in-Greater.ensures.after d was) in
    rw (told.1, told.2) here

pub returns-in_ok-append-in-Less-clause-after : goal.returns-in_ok-append-in-Less-clause-after
returns-in_ok-append-in-Less-clause-after g c d was =
    let old = c.args.old.now in
    wrote_since g.S.Stock.meaning c.args.writer.now c.append.new.self c.append-in-Less.new.self _ _ c.append-in-Less.result c.append.ensures.same (exchange_less d old c.args.new.now (sym c.in-Less.ensures))
    (c.append-in-Less.ensures.after (d ++ ((old, negsuc 0) ∷ [])) (c.in_ok-append-in-Less.ensures.after d was))

pub returns-in-Equal-clause-after : goal.returns-in-Equal-clause-after
returns-in-Equal-clause-after g c d was = subst (Written g.S.Stock.meaning c.args.writer.now) (exchange_equal d c.args.old.now c.args.new.now (sym c.in-Equal.ensures)) was

pub returns-in_ok-append-in-Greater-clause-after : goal.returns-in_ok-append-in-Greater-clause-after
returns-in_ok-append-in-Greater-clause-after g c d was =
    let new = c.args.new.now in
    wrote_since g.S.Stock.meaning c.args.writer.now c.append-in-Greater.new.self c.append-in-Greater-2.new.self _ _ c.append-in-Greater-2.result c.append-in-Greater.ensures.same (exchange_greater d c.args.old.now new (sym c.in-Greater.ensures))
    (c.append-in-Greater-2.ensures.after (d ++ ((new, pos 1) ∷ [])) (c.in_ok-append-in-Greater.ensures.after d was))
