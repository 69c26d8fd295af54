use Rattle.std.proofs.Common.{◌≡◌, ℕ, ◌+◌, Bool, true, cond, ◌||◌, List, [], ◌++◌, get_or, take, drop, pos, Ok, Err, sym, refl, ap, ◌∙◌, subst, ap₂, w32, SFits, to_z, of_z, rules}
use Rattle.std.proofs.lemmas.List.{append-nil}
use Rattle.std.proofs.lemmas.Int.{to_z-of_z}
use Rattle.std.proofs.lemmas.Result.{err_from_is_err_and}
use Rattle.bag.specs.declared.lines.ChangeLine.{ChangeLine}
use Rattle.bag.specs.Bag.{Lines, with_line, every_line}
use Rattle.stock.specs.Holding.{shelf_of}
use Rattle.sheet.specs.Sheets.{of_node, OnPage}
use Rattle.delta.specs.declared.fault.NodeFault.TheVariants.{Over}
use Rattle.delta.specs.NodeChange.{over_at}
use Rattle.delta.specs.Writing.{Written, TooMany, without_zeros, up_to_over, write_answer}
use Rattle.delta.proofs.Steps.{same_itself, same_then, front_too_many}
use Rattle.delta.proofs.Zeros.{without_more, without_whole, without_rest}
use Rattle.delta.proofs.UpToOver.{told_over, told_within, over_line, up_to_end, over_on, lines_more, stops_here}
use Rattle.delta.proofs.writer.ChangeWriter.append_all.Goals as goal

no_change : ChangeLine
no_change = record { node = 0; row = []; change = pos 0 }

pub loop-line-init : goal.loop-line-init
unfolding without_zeros every_line
loop-line-init g c = (
  same_itself c.args.self.now,
  λ k d xs e was. subst (Written g.S.Stock.meaning c.args.self.now) (sym (append-nil d)) was,
  λ es k xs e was. subst (OnPage c.args.self.now.page.now c.args.self.now.lines) (sym (append-nil es)) was,
  λ k xs e. refl,
)

pub loop-line-preserved : goal.loop-line-preserved
unfolding no_change
loop-line-preserved g c =
    let i = c.loop-line.line-index in
    let v = c.args.self.now in
    let line = get_or c.args.lines.now i no_change in
    let fits : SFits w32 line.change = search rules in
    let n = to_z w32 (of_z w32 line.change) in
    let whole : n ≡ line.change = to_z-of_z w32 line.change fits in
    let old = shelf_of (g.S.Stock.meaning v.stock.now) v.node in
    let same = c.loop-line.invariant.0 in
    let here : shelf_of (g.S.Stock.meaning c.loop-line.self.stock.now) c.loop-line.self.node ≡ old = ap₂ (λ x k. shelf_of (g.S.Stock.meaning x) k) same.stock same.node in
    let told = told_within (over_at old (with_line line.row n [])) c.in_ok-append.field-0 (subst (λ b. Ok c.in_ok-append.field-0 ≡ write_answer b (with_line line.row n [])) here c.in_ok-append.ensures.answer) in (
      same_then v c.loop-line.self c.append.new.self same c.append.ensures.same,
      λ k d xs e was.
          subst (Written g.S.Stock.meaning c.append.new.self)
          (without_more c.args.lines.now k d xs i no_change e c.loop-line-test.true n whole)
          (c.in_ok-append.ensures.after (d ++ without_zeros (take i xs)) (c.loop-line.invariant.1 k d xs e was)),
      λ es k xs e was.
          subst (OnPage c.append.new.self.page.now c.append.new.self.lines)
          (lines_more c.loop-line.self.node v.node es (without_zeros (take i xs)) (with_line line.row n []) (without_zeros (take (i + 1) xs)) same.node (without_more c.args.lines.now k [] xs i no_change e c.loop-line-test.true n whole))
          (c.append.ensures.on_page (es ++ of_node v.node (without_zeros (take i xs))) (c.loop-line.invariant.2 es k xs e was)),
      λ k xs e.
          sym (ap (over_at old) (without_more c.args.lines.now k [] xs i no_change e c.loop-line-test.true n whole)) ∙ over_line old (without_zeros (take i xs)) line.row n
          ∙ ap₂ (λ (a b : Bool). a || b) (c.loop-line.invariant.3 k xs e) told,
    )

pub returns-in_err-append-clause-on_page : goal.returns-in_err-append-clause-on_page
unfolding no_change
returns-in_err-append-clause-on_page g c = λ (es : List ChangeLine) (k : ℕ) (xs : Lines) (e : c.args.lines.now ≡ of_node k xs) (was : OnPage c.args.self.now.page.now c.args.self.now.lines es).
    let i = c.loop-line.line-index in
    let v = c.args.self.now in
    let line = get_or c.args.lines.now i no_change in
    let fits : SFits w32 line.change = search rules in
    let n = to_z w32 (of_z w32 line.change) in
    let old = shelf_of (g.S.Stock.meaning v.stock.now) v.node in
    let same = c.loop-line.invariant.0 in
    let here : shelf_of (g.S.Stock.meaning c.loop-line.self.stock.now) c.loop-line.self.node ≡ old = ap₂ (λ x k. shelf_of (g.S.Stock.meaning x) k) same.stock same.node in
    let many = told_over (over_at old (with_line line.row n [])) c.in_err-append.field-0.0 (subst (λ b. Err c.in_err-append.field-0.0 ≡ write_answer b (with_line line.row n [])) here c.in_err-append.ensures.answer) in
    subst (OnPage c.append.new.self.page.now c.append.new.self.lines)
    (lines_more c.loop-line.self.node v.node es (without_zeros (take i xs)) (with_line line.row n []) (up_to_over old xs) same.node
    (stops_here old c.args.lines.now k xs i no_change e c.loop-line-test.true n (to_z-of_z w32 line.change fits) (c.loop-line.invariant.3 k xs e) many.1))
    (c.append.ensures.on_page (es ++ of_node v.node (without_zeros (take i xs))) (c.loop-line.invariant.2 es k xs e was))

pub returns-in_err-append-clause-answer : goal.returns-in_err-append-clause-answer
unfolding no_change
returns-in_err-append-clause-answer g c = λ (k : ℕ) (xs : Lines) (e : c.args.lines.now ≡ of_node k xs).
    let i = c.loop-line.line-index in
    let v = c.args.self.now in
    let line = get_or c.args.lines.now i no_change in
    let fits : SFits w32 line.change = search rules in
    let n = to_z w32 (of_z w32 line.change) in
    let old = shelf_of (g.S.Stock.meaning v.stock.now) v.node in
    let same = c.loop-line.invariant.0 in
    let here : shelf_of (g.S.Stock.meaning c.loop-line.self.stock.now) c.loop-line.self.node ≡ old = ap₂ (λ x k. shelf_of (g.S.Stock.meaning x) k) same.stock same.node in
    let many = told_over (over_at old (with_line line.row n [])) c.in_err-append.field-0.0 (subst (λ b. Err c.in_err-append.field-0.0 ≡ write_answer b (with_line line.row n [])) here c.in_err-append.ensures.answer) in
    let over : over_at old (without_zeros (take (i + 1) xs)) ≡ true =
    sym (ap (over_at old) (without_more c.args.lines.now k [] xs i no_change e c.loop-line-test.true n (to_z-of_z w32 line.change fits))) ∙ over_line old (without_zeros (take i xs)) line.row n
    ∙ ap₂ (λ (a b : Bool). a || b) (c.loop-line.invariant.3 k xs e) many.1 in
    let told = err_from_is_err_and c.from_residual.result c.from_residual.ensures.1 in
    let here : Err c.in_err-append.field-0.0 ≡ write_answer old (without_zeros xs) = ap Err many.0 ∙ ap (λ t. cond t (Err Over) (Ok tt)) (sym (over_on old xs (i + 1) over)) in
    rw (told.1, told.2) here

pub returns-in_err-append-clause-after : goal.returns-in_err-append-clause-after
unfolding no_change
returns-in_err-append-clause-after g c = λ (k : ℕ) (d xs : Lines) (e : c.args.lines.now ≡ of_node k xs) (was : Written g.S.Stock.meaning c.args.self.now d).
    let i = c.loop-line.line-index in
    let line = get_or c.args.lines.now i no_change in
    let fits : SFits w32 line.change = search rules in
    let many = c.in_err-append.ensures.after (d ++ without_zeros (take i xs)) (c.loop-line.invariant.1 k d xs e was) in
    let told = err_from_is_err_and c.from_residual.result c.from_residual.ensures.1 in
    let here : TooMany g.S.Stock.meaning c.args.self.now (d ++ without_zeros xs) c.in_err-append.field-0.0 =
    front_too_many g.S.Stock.meaning c.args.self.now c.loop-line.self (d ++ without_zeros (take (i + 1) xs)) (without_zeros (drop (i + 1) xs)) (d ++ without_zeros xs) _ c.loop-line.invariant.0
    (without_rest d xs (i + 1))
    (subst (λ z. TooMany g.S.Stock.meaning c.loop-line.self z c.in_err-append.field-0.0) (without_more c.args.lines.now k d xs i no_change e c.loop-line-test.true _ (to_z-of_z w32 line.change fits)) many) in
    rw (told.1, told.2) here

pub returns-clause-after : goal.returns-clause-after
returns-clause-after g c = λ (k : ℕ) (d xs : Lines) (e : c.args.lines.now ≡ of_node k xs) (was : Written g.S.Stock.meaning c.args.self.now d).
    subst (λ z. Written g.S.Stock.meaning c.loop-line.self (d ++ z)) (without_whole c.args.lines.now k xs c.loop-line.line-index e c.loop-line-test.false) (c.loop-line.invariant.1 k d xs e was)

pub returns-clause-on_page : goal.returns-clause-on_page
returns-clause-on_page g c = λ (es : List ChangeLine) (k : ℕ) (xs : Lines) (e : c.args.lines.now ≡ of_node k xs) (was : OnPage c.args.self.now.page.now c.args.self.now.lines es).
    let v = c.args.self.now in
    let old = shelf_of (g.S.Stock.meaning v.stock.now) v.node in
    let whole = without_whole c.args.lines.now k xs c.loop-line.line-index e c.loop-line-test.false in
    subst (OnPage c.loop-line.self.page.now c.loop-line.self.lines) (ap (λ t. es ++ of_node v.node t) (whole ∙ sym (up_to_end old xs (sym (ap (over_at old) whole) ∙ c.loop-line.invariant.3 k xs e))))
    (c.loop-line.invariant.2 es k xs e was)

pub returns-clause-answer : goal.returns-clause-answer
returns-clause-answer g c = λ (k : ℕ) (xs : Lines) (e : c.args.lines.now ≡ of_node k xs).
    let v = c.args.self.now in
    let old = shelf_of (g.S.Stock.meaning v.stock.now) v.node in
    let whole = without_whole c.args.lines.now k xs c.loop-line.line-index e c.loop-line-test.false in
    ap (λ t. cond t (Err Over) (Ok tt)) (sym (sym (ap (over_at old) whole) ∙ c.loop-line.invariant.3 k xs e))
