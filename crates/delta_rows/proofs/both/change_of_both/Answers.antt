use Rattle.std.proofs.Common.{ℕ, ◌<◌, Err, Ok, List, [], rules}
use Rattle.std.proofs.lemmas.Result.{err_from_is_err_and}
use Rattle.bag.specs.Bag.{Lines}
use Rattle.bag.specs.Operators.{both}
use Rattle.stock.specs.Holding.{shelf_of}
use Rattle.plan.specs.Afresh.{board}
use Rattle.delta.specs.NodeChange.{Setting, LinesOf}
use Rattle.delta.specs.Writing.{Written}
use Rattle.delta.proofs.Steps.{same_then}
use Rattle.delta_rows.specs.Merges.{turns}
use Rattle.delta_rows.proofs.Merged.{Fitting}
use Rattle.delta_rows.proofs.Merging.{merging_none, merging_more, merging_stopped, merging_all}
use Rattle.delta_rows.proofs.Sided.{sides_fit}
use Rattle.delta_rows.proofs.Sums.{sum_at, sum_written, both_changed}
use Rattle.delta_rows.proofs.both.change_of_both.Goals as goal

pub loop-turn-init : goal.loop-turn-init
loop-turn-init g c =
    (tt, tt, λ a b. let none = merging_none g.S.Stock.meaning sum_at (Fitting a b) c.args.writer.now (turns c.args.left.now c.args.right.now) c.into_iter-turn-iterator.result in search (rules, none))

pub loop-turn-preserved : goal.loop-turn-preserved
loop-turn-preserved g c = (
  tt,
  tt,
  λ a b.
      merging_more g.S.Stock.meaning sum_at (Fitting a b) c.args.writer.now (turns c.args.left.now c.args.right.now) c.loop-turn.writer c.loop-turn.yielded c.loop-turn.turn-iterator c.next.new.self c.in-Some.turn _
      (c.loop-turn.invariant.2 a b) c.in-Some.ensures.steps
      (sum_written a b c.in-Some.turn c.saturating_add.result (search rules) (search rules) (search rules) c.saturating_add.ensures)
      c.append.new.self c.append.ensures.same c.in_ok-append.ensures.after,
)

pub returns-in_err-append-clause-same : goal.returns-in_err-append-clause-same
returns-in_err-append-clause-same g c = same_then c.args.writer.now c.loop-turn.writer c.append.new.self (c.loop-turn.invariant.2 [] []).same c.append.ensures.same

pub returns-in_err-append-clause-changed : goal.returns-in_err-append-clause-changed
returns-in_err-append-clause-changed g c = λ (ws : List ℕ) (l r : ℕ) (ds news : List Lines) (low-l : l < c.args.writer.now.node) (low-r : r < c.args.writer.now.node)
    (at : Setting (g.S.Stock.meaning c.args.writer.now.stock.now) ws c.args.writer.now.node (both (shelf_of (g.S.Stock.meaning c.args.writer.now.stock.now) l) (shelf_of (g.S.Stock.meaning c.args.writer.now.stock.now) r)) ds news)
    (none : Written g.S.Stock.meaning c.args.writer.now []) (is-l : LinesOf l (board ds l) c.args.left.now) (is-r : LinesOf r (board ds r) c.args.right.now).
    let m = g.S.Stock.meaning in
    let v = c.args.writer.now in
    let h = m v.stock.now in
    let law = g.S.Stock.lawful v.stock.now in
    let a = shelf_of h l in
    let b = shelf_of h r in
    let whole = turns c.args.left.now c.args.right.now in
    let was = c.loop-turn.invariant.2 a b in
    let fit = sides_fit h law ws v.node (both a b) ds news at l r low-l low-r c.args.left.now c.args.right.now is-l is-r in
    let same = same_then v c.loop-turn.writer c.append.new.self was.same c.append.ensures.same in
    let told = err_from_is_err_and c.from_residual.result c.from_residual.ensures.1 in
    let many =
    merging_stopped m sum_at (Fitting a b) v whole c.loop-turn.writer c.loop-turn.yielded c.loop-turn.turn-iterator c.next.new.self c.in-Some.turn _ was c.in-Some.ensures.steps
    (sum_written a b c.in-Some.turn c.saturating_add.result (search rules) (search rules) (search rules) c.saturating_add.ensures)
    c.in_err-append.field-0.0 c.in_err-append.ensures.after fit none in
    rw (told.1, told.2) (both_changed m v c.append.new.self same law ws l r ds news low-l low-r at c.args.left.now c.args.right.now is-l is-r (Err c.in_err-append.field-0.0) many)

pub returns-clause-same : goal.returns-clause-same
returns-clause-same g c = (c.loop-turn.invariant.2 [] []).same

pub returns-clause-changed : goal.returns-clause-changed
returns-clause-changed g c = λ (ws : List ℕ) (l r : ℕ) (ds news : List Lines) (low-l : l < c.args.writer.now.node) (low-r : r < c.args.writer.now.node)
    (at : Setting (g.S.Stock.meaning c.args.writer.now.stock.now) ws c.args.writer.now.node (both (shelf_of (g.S.Stock.meaning c.args.writer.now.stock.now) l) (shelf_of (g.S.Stock.meaning c.args.writer.now.stock.now) r)) ds news)
    (none : Written g.S.Stock.meaning c.args.writer.now []) (is-l : LinesOf l (board ds l) c.args.left.now) (is-r : LinesOf r (board ds r) c.args.right.now).
    let m = g.S.Stock.meaning in
    let v = c.args.writer.now in
    let w = c.loop-turn.writer in
    let h = m v.stock.now in
    let law = g.S.Stock.lawful v.stock.now in
    let a = shelf_of h l in
    let b = shelf_of h r in
    let whole = turns c.args.left.now c.args.right.now in
    let was = c.loop-turn.invariant.2 a b in
    let fit = sides_fit h law ws v.node (both a b) ds news at l r low-l low-r c.args.left.now c.args.right.now is-l is-r in
    both_changed m v w was.same law ws l r ds news low-l low-r at c.args.left.now c.args.right.now is-l is-r (Ok tt)
    (merging_all m sum_at (Fitting a b) v whole w c.loop-turn.yielded c.loop-turn.turn-iterator was c.in-None.ensures.steps.0 fit none)
