use Rattle.std.proofs.Common.{ℕ, ◌<◌, Ok, Err, List, [], ap, ◌∙◌, rules}
use Rattle.std.proofs.lemmas.Result.{err_from_is_err_and}
use Rattle.bag.specs.Bag.{Lines}
use Rattle.bag.specs.Operators.{monus}
use Rattle.stock.specs.Holding.{shelf_of}
use Rattle.plan.specs.Afresh.{board}
use Rattle.delta.specs.NodeChange.{Setting, LinesOf}
use Rattle.delta.specs.Writing.{Written}
use Rattle.delta.proofs.Steps.{same_then}
use Rattle.delta_rows.specs.Merges.{turns}
use Rattle.delta_rows.specs.Less.{less_at}
use Rattle.delta_rows.proofs.Merged.{Fitting}
use Rattle.delta_rows.proofs.Merging.{merging_none, merging_more, merging_stopped, merging_all}
use Rattle.delta_rows.proofs.Surplus.{less_written, less_changed}
use Rattle.delta_rows.proofs.less.change_of_less.Goals as goal

pub loop-turn-init : goal.loop-turn-init
loop-turn-init g c =
    let m = g.S.Stock.meaning in
    let v = c.args.writer.now in
    let h = m v.stock.now in
    let a = shelf_of h c.args.left.now.node in
    let b = shelf_of h c.args.right.now.node in
    let whole = turns c.args.left.now.lines.now c.args.right.now.lines.now in
    (tt, tt, let none = merging_none m (less_at a b) (Fitting a b) v whole c.into_iter-turn-iterator.result in search (rules, none))

pub loop-turn-preserved : goal.loop-turn-preserved
loop-turn-preserved g c =
    let m = g.S.Stock.meaning in
    let v = c.args.writer.now in
    let h = m v.stock.now in
    let a = shelf_of h c.args.left.now.node in
    let b = shelf_of h c.args.right.now.node in
    let whole = turns c.args.left.now.lines.now c.args.right.now.lines.now in
    let was = c.loop-turn.invariant.2 in (
      tt,
      tt,
      merging_more m (less_at a b) (Fitting a b) v whole c.loop-turn.writer c.loop-turn.yielded c.loop-turn.turn-iterator c.next.new.self c.in-Some.turn _ was c.in-Some.ensures.steps
          (less_written h (m c.stock.result.now) c.args.left.now.node c.args.right.now.node c.in-Some.turn c.change_of_row-change.result (ap m (c.stock.ensures ∙ was.same.stock)) (search rules) c.change_of_row-change.ensures)
          c.append.new.self c.append.ensures.same c.in_ok-append.ensures.after,
    )

pub returns-in_err-append-clause-same : goal.returns-in_err-append-clause-same
returns-in_err-append-clause-same g c = same_then c.args.writer.now c.loop-turn.writer c.append.new.self c.loop-turn.invariant.2.same c.append.ensures.same

pub returns-in_err-append-clause-changed : goal.returns-in_err-append-clause-changed
returns-in_err-append-clause-changed g c = λ (ws : List ℕ) (ds news : List Lines) (low-l : c.args.left.now.node < c.args.writer.now.node) (low-r : c.args.right.now.node < c.args.writer.now.node)
    (at : Setting (g.S.Stock.meaning c.args.writer.now.stock.now) ws c.args.writer.now.node (monus (shelf_of (g.S.Stock.meaning c.args.writer.now.stock.now) c.args.left.now.node) (shelf_of (g.S.Stock.meaning c.args.writer.now.stock.now) c.args.right.now.node)) ds news)
    (none : Written g.S.Stock.meaning c.args.writer.now []) (is-l : LinesOf c.args.left.now.node (board ds c.args.left.now.node) c.args.left.now.lines.now) (is-r : LinesOf c.args.right.now.node (board ds c.args.right.now.node) c.args.right.now.lines.now).
    let m = g.S.Stock.meaning in
    let v = c.args.writer.now in
    let h = m v.stock.now in
    let a = shelf_of h c.args.left.now.node in
    let b = shelf_of h c.args.right.now.node in
    let whole = turns c.args.left.now.lines.now c.args.right.now.lines.now in
    let law = g.S.Stock.lawful v.stock.now in
    let was = c.loop-turn.invariant.2 in
    let same = same_then v c.loop-turn.writer c.append.new.self was.same c.append.ensures.same in
    let told = err_from_is_err_and c.from_residual.result c.from_residual.ensures.1 in
    rw (told.1, told.2)
    (less_changed m v c.append.new.self same law ws c.args.left.now.node c.args.right.now.node ds news low-l low-r at c.args.left.now.lines.now c.args.right.now.lines.now is-l is-r (Err c.in_err-append.field-0.0)
    (λ fit. merging_stopped m (less_at a b) (Fitting a b) v whole c.loop-turn.writer c.loop-turn.yielded c.loop-turn.turn-iterator c.next.new.self c.in-Some.turn _ was c.in-Some.ensures.steps
    (less_written h (m c.stock.result.now) c.args.left.now.node c.args.right.now.node c.in-Some.turn c.change_of_row-change.result (ap m (c.stock.ensures ∙ was.same.stock)) (search rules) c.change_of_row-change.ensures)
    c.in_err-append.field-0.0 c.in_err-append.ensures.after fit none))

pub returns-clause-same : goal.returns-clause-same
returns-clause-same g c = c.loop-turn.invariant.2.same

pub returns-clause-changed : goal.returns-clause-changed
returns-clause-changed g c = λ (ws : List ℕ) (ds news : List Lines) (low-l : c.args.left.now.node < c.args.writer.now.node) (low-r : c.args.right.now.node < c.args.writer.now.node)
    (at : Setting (g.S.Stock.meaning c.args.writer.now.stock.now) ws c.args.writer.now.node (monus (shelf_of (g.S.Stock.meaning c.args.writer.now.stock.now) c.args.left.now.node) (shelf_of (g.S.Stock.meaning c.args.writer.now.stock.now) c.args.right.now.node)) ds news)
    (none : Written g.S.Stock.meaning c.args.writer.now []) (is-l : LinesOf c.args.left.now.node (board ds c.args.left.now.node) c.args.left.now.lines.now) (is-r : LinesOf c.args.right.now.node (board ds c.args.right.now.node) c.args.right.now.lines.now).
    let m = g.S.Stock.meaning in
    let v = c.args.writer.now in
    let h = m v.stock.now in
    let a = shelf_of h c.args.left.now.node in
    let b = shelf_of h c.args.right.now.node in
    let whole = turns c.args.left.now.lines.now c.args.right.now.lines.now in
    let law = g.S.Stock.lawful v.stock.now in
    let was = c.loop-turn.invariant.2 in
    less_changed m v c.loop-turn.writer was.same law ws c.args.left.now.node c.args.right.now.node ds news low-l low-r at c.args.left.now.lines.now c.args.right.now.lines.now is-l is-r (Ok tt)
    (λ fit. merging_all m (less_at a b) (Fitting a b) v whole c.loop-turn.writer c.loop-turn.yielded c.loop-turn.turn-iterator was c.in-None.ensures.steps.0 fit none)
