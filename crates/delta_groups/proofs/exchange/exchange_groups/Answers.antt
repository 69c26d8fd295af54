use Rattle.std.proofs.Common.{◌≡◌, true, [], ◌∷◌, length, take, arith, sym, subst}
use Rattle.std.proofs.lemmas.List.{length-append, take_all}
use Rattle.std.proofs.lemmas.Result.{err_from_is_err_and}
use Rattle.std.proofs.lemmas.Slice.Zip.{zip_turn, zip_end}
use Rattle.bag.specs.Bag.{every_line}
use Rattle.stock.specs.Holding.{shelf_of}
use Rattle.delta.specs.Writing.{Written}
use Rattle.delta.proofs.Steps.{same_itself, same_then}
use Rattle.delta_groups.specs.Totals.{exchanges, fit_after, Refused}
use Rattle.delta_groups.proofs.ReadLines.{as_long}
use Rattle.delta_groups.proofs.Exchanged.{groups_none, group_written, group_refused}
use Rattle.delta_groups.proofs.exchange.exchange_groups.Goals as goal

pub loop-group-init : goal.loop-group-init
loop-group-init g c = (same_itself c.args.writer.now, λ xs delta room ready was. groups_none g.M.Measure.model _ _ delta g.S.Stock.meaning c.args.writer.now was)

pub loop-group-preserved : goal.loop-group-preserved
loop-group-preserved g c =
    let M = g.M.Measure.model in
    let meaning = g.S.Stock.meaning in
    let n = length c.args.grouping.now.columns.now in
    let v = c.args.writer.now in
    let w = c.loop-group.writer in
    let u = c.exchange_group.new.writer in
    let i = length c.loop-group.yielded in
    let own = shelf_of (meaning v.stock.now) v.node in
    let same = c.loop-group.invariant.0 in
    let turn = zip_turn c.args.groups.now c.args.values.now c.loop-group.yielded _ _ c.next.new.self _ (cc) (cc) c.loop-group.yielded_by (c.in-Some.group, c.in-Some.worth) c.in-Some.is c.next.ensures.steps in (
      same_then v w u same c.exchange_group.ensures.same,
      λ xs delta room ready was.
          let before = c.loop-group.invariant.1 xs delta room ready was in
          let done = group_written M n meaning v w same delta xs c.args.groups.now c.args.values.now ready i c.in-Some.group.now c.in-Some.worth.now turn.0 turn.2 turn.3 u before.1
          (λ here adds. c.in_ok-exchange_group.ensures.after (exchanges M n own delta (take i xs)) delta room here adds before.0) in
          subst (λ m. Written meaning u (exchanges M n own delta (take m xs)) × (every_line (fit_after M n own delta) (take m xs) ≡ true)) (sym (length-append c.loop-group.yielded ((c.in-Some.group, c.in-Some.worth) ∷ []))) done,
    )

pub returns-in_err-exchange_group-clause-after : goal.returns-in_err-exchange_group-clause-after
returns-in_err-exchange_group-clause-after g c xs delta room ready was =
    let M = g.M.Measure.model in
    let meaning = g.S.Stock.meaning in
    let n = length c.args.grouping.now.columns.now in
    let v = c.args.writer.now in
    let w = c.loop-group.writer in
    let u = c.exchange_group.new.writer in
    let i = length c.loop-group.yielded in
    let own = shelf_of (meaning v.stock.now) v.node in
    let same = c.loop-group.invariant.0 in
    let turn = zip_turn c.args.groups.now c.args.values.now c.loop-group.yielded _ _ c.next.new.self _ (cc) (cc) c.loop-group.yielded_by (c.in-Some.group, c.in-Some.worth) c.in-Some.is c.next.ensures.steps in
    let before = c.loop-group.invariant.1 xs delta room ready was in
    let f = c.in_err-exchange_group.field-0.0 in
    let told = err_from_is_err_and c.from_residual.result c.from_residual.ensures.1 in
    let all : Refused meaning v (exchanges M n own delta xs) (every_line (fit_after M n own delta) xs) f =
    group_refused M n meaning v w same delta xs c.args.groups.now c.args.values.now ready i c.in-Some.group.now c.in-Some.worth.now turn.0 turn.2 turn.3 f
    (λ here adds. c.in_err-exchange_group.ensures.after (exchanges M n own delta (take i xs)) delta room here adds before.0) in
    rw (told.1, told.2) all

pub returns-clause-after : goal.returns-clause-after
returns-clause-after g c xs delta room ready was =
    let M = g.M.Measure.model in
    let meaning = g.S.Stock.meaning in
    let n = length c.args.grouping.now.columns.now in
    let v = c.args.writer.now in
    let own = shelf_of (meaning v.stock.now) v.node in
    let end = zip_end c.args.groups.now c.args.values.now c.loop-group.yielded _ _ c.next.new.self _ (cc) (cc) c.loop-group.yielded_by c.in-None.is c.next.ensures.steps in
    subst (λ ys. Written meaning c.loop-group.writer (exchanges M n own delta ys) × (every_line (fit_after M n own delta) ys ≡ true))
    (take_all (length c.loop-group.yielded) xs (omega (arith, end, ready.places, as_long c.args.groups.now 0 xs ready.lines)))
    (c.loop-group.invariant.1 xs delta room ready was)
