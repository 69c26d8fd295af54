use Rattle.std.proofs.Common.{ℕ, ◌+◌, ◌<◌, Bool, Ok, Err, List, [], get_or, take, drop, pos, sym, subst, w32, SFits, rules}
use Rattle.std.proofs.lemmas.Int.{to_z-of_z}
use Rattle.std.proofs.lemmas.Result.{err_from_is_err_and}
use Rattle.bag.specs.declared.lines.ChangeLine.{ChangeLine}
use Rattle.bag.specs.Order.{Row}
use Rattle.bag.specs.Bag.{Lines}
use Rattle.bag.specs.Columns.{column_of, operand_of}
use Rattle.bag.specs.Condition.{stands}
use Rattle.stock.specs.Holding.{shelf_of}
use Rattle.plan.specs.Afresh.{board}
use Rattle.delta.specs.NodeChange.{Setting, LinesOf}
use Rattle.delta.specs.Writing.{Written, TooMany}
use Rattle.delta.proofs.Steps.{same_itself, same_then, front_too_many}
use Rattle.delta_rows.specs.declared.condition.Condition.{Condition}
use Rattle.delta_rows.specs.Keep.{kept_by}
use Rattle.delta_rows.proofs.Kept.{kept_one, kept_none, kept_all, kept_rest, kept_nothing, keep_changed}
use Rattle.delta_rows.proofs.keep.change_of_keep.Goals.{then-passes+in_ok-append, else-passes}
use Rattle.delta_rows.proofs.keep.change_of_keep.Goals as goal

no_change : ChangeLine
no_change = record { node = 0; row = []; change = pos 0 }

abbrev passing : Condition → Row → Bool
passing q r = stands q.relation (column_of r q.column) (operand_of q.operand r)

pub loop-line-init : goal.loop-line-init
loop-line-init g c = (same_itself c.args.writer.now, λ k d e o none. subst (Written g.S.Stock.meaning c.args.writer.now) (sym (kept_nothing (passing c.args.condition.now))) none)

pub loop-line-preserved : goal.loop-line-preserved
unfolding no_change
loop-line-preserved g c =
    let m = g.S.Stock.meaning in
    let v = c.args.writer.now in
    let p = passing c.args.condition.now in
    let lines = c.args.below.now in
    let i = c.loop-line.line-index in
    let was = c.loop-line.invariant in
    elim c.if-passes.branch [
      | then-passes+in_ok-append w ↦
          let fits : SFits w32 (get_or lines i no_change).change = search rules in
          rw w.writer-is (
            same_then v c.loop-line.writer w.append.new.self was.0 w.append.ensures.same,
            λ k d e o none. subst (Written m w.append.new.self) (kept_one p lines k d i e no_change c.loop-line-test.true _ (to_z-of_z w32 (get_or lines i no_change).change fits) o (sym w.if-passes.ensures))
                (w.in_ok-append.ensures.after (kept_by c.args.condition.now (take i d)) (was.1 k d e o none)),
          )
      | else-passes w ↦ rw w.writer-is (was.0, λ k d e o none. subst (Written m c.loop-line.writer) (kept_none p lines k d i e no_change c.loop-line-test.true (sym w.if-passes.ensures)) (was.1 k d e o none))
    ]

pub returns-in_err-append-clause-same : goal.returns-in_err-append-clause-same
returns-in_err-append-clause-same g c = same_then c.args.writer.now c.loop-line.writer c.append.new.self c.loop-line.invariant.0 c.append.ensures.same

pub returns-in_err-append-clause-changed : goal.returns-in_err-append-clause-changed
unfolding no_change
returns-in_err-append-clause-changed g c = λ (ws : List ℕ) (k : ℕ) (ds news : List Lines) (low : k < c.args.writer.now.node)
    (at : Setting (g.S.Stock.meaning c.args.writer.now.stock.now) ws c.args.writer.now.node (kept_by c.args.condition.now (shelf_of (g.S.Stock.meaning c.args.writer.now.stock.now) k)) ds news)
    (none : Written g.S.Stock.meaning c.args.writer.now []) (is : LinesOf k (board ds k) c.args.below.now).
    let m = g.S.Stock.meaning in
    let v = c.args.writer.now in
    let q = c.args.condition.now in
    let i = c.loop-line.line-index in
    let d = board ds k in
    let in_order = (at.lower k low).changes.in_order in
    let fits : SFits w32 (get_or c.args.below.now i no_change).change = search rules in
    let one = kept_one (passing q) c.args.below.now k d i is.are no_change c.loop-line-test.true _ (to_z-of_z w32 (get_or c.args.below.now i no_change).change fits) in_order (sym c.if-passes.ensures) in
    let many = subst (λ x. TooMany m c.loop-line.writer x c.in_err-append.field-0.0) one (c.in_err-append.ensures.after (kept_by q (take i d)) (c.loop-line.invariant.1 k d is.are in_order none)) in
    let all = front_too_many m v c.loop-line.writer (kept_by q (take (i + 1) d)) (kept_by q (drop (i + 1) d)) (kept_by q d) _ c.loop-line.invariant.0 (kept_rest (passing q) d (i + 1)) many in
    let same = same_then v c.loop-line.writer c.append.new.self c.loop-line.invariant.0 c.append.ensures.same in
    let told = err_from_is_err_and c.from_residual.result c.from_residual.ensures.1 in
    rw (told.1, told.2) (keep_changed m v c.append.new.self same (g.S.Stock.lawful v.stock.now) q ws k ds news low at (Err c.in_err-append.field-0.0) all)

pub returns-clause-same : goal.returns-clause-same
returns-clause-same g c = c.loop-line.invariant.0

pub returns-clause-changed : goal.returns-clause-changed
returns-clause-changed g c = λ (ws : List ℕ) (k : ℕ) (ds news : List Lines) (low : k < c.args.writer.now.node)
    (at : Setting (g.S.Stock.meaning c.args.writer.now.stock.now) ws c.args.writer.now.node (kept_by c.args.condition.now (shelf_of (g.S.Stock.meaning c.args.writer.now.stock.now) k)) ds news)
    (none : Written g.S.Stock.meaning c.args.writer.now []) (is : LinesOf k (board ds k) c.args.below.now).
    let m = g.S.Stock.meaning in
    let v = c.args.writer.now in
    let q = c.args.condition.now in
    let i = c.loop-line.line-index in
    let d = board ds k in
    let in_order = (at.lower k low).changes.in_order in
    let whole = subst (Written m c.loop-line.writer) (kept_all (passing q) c.args.below.now k d i is.are c.loop-line-test.false) (c.loop-line.invariant.1 k d is.are in_order none) in
    keep_changed m v c.loop-line.writer c.loop-line.invariant.0 (g.S.Stock.lawful v.stock.now) q ws k ds news low at (Ok tt) whole
