-- The lines of a selection, one after the other. Assumes nothing.
--     kept_one, kept_none      one line more passes, or it does not
--     kept_all                 behind the last line all that pass are kept
--     kept_rest                what is kept before is a front of what is to be kept
--     keep_changed             the change of a keep is written
use Rattle.std.proofs.Common.{◌≡◌, ℕ, ◌+◌, ◌<◌, ◌≤◌, Bool, true, false, cond, List, [], ◌∷◌, ◌++◌, length, get_or, take, drop, ℤ, Result, sym, refl, ap, ◌∙◌, ap₂, arith}
use Rattle.std.proofs.lemmas.List.{append-nil, length-map, take_all, take_more, take-append-drop}
use Rattle.bag.specs.declared.lines.ChangeLine.{ChangeLine}
use Rattle.bag.specs.Order.{Row}
use Rattle.bag.specs.Bag.{Line, Lines, with_line, Canonical}
use Rattle.bag.specs.Operators.{select}
use Rattle.bag.proofs.OperatorLaws.{keep_follows_change, operators_give_bags}
use Rattle.stock.specs.Holding.{Holding, LawfulHolding, shelf_of}
use Rattle.plan.specs.Afresh.{board}
use Rattle.sheet.specs.Sheets.{change_line, of_node}
use Rattle.delta.specs.declared.fault.NodeFault.{NodeFault}
use Rattle.delta.specs.declared.writer.ChangeWriter.{ChangeWriter}
use Rattle.delta.specs.NodeChange.{Setting}
use Rattle.delta.specs.Writing.{SameTask, Wrote}
use Rattle.delta.specs.Changed.{NodeChange}
use Rattle.delta.proofs.Finished.{finished}
use Rattle.delta.proofs.Steps.{some_line}
use Rattle.delta.proofs.Zeros.{no_line, line_at}
use Rattle.delta_rows.specs.declared.condition.Condition.{Condition}
use Rattle.delta_rows.specs.Keep.{kept_by}

select-++ : (p : Row → Bool) (xs ys : Lines) → select p (xs ++ ys) ≡ select p xs ++ select p ys
unfolding select
select-++ p [] ys = refl
select-++ p (e ∷ xs) ys = by (p e.0) (select-++ p xs ys)
  where
    by : (t : Bool) → select p (xs ++ ys) ≡ select p xs ++ select p ys → cond t (e ∷ select p (xs ++ ys)) (select p (xs ++ ys)) ≡ cond t (e ∷ select p xs) (select p xs) ++ select p ys
    by true ih = ap (λ t. e ∷ t) ih
    by false ih = ih

select_more : (p : Row → Bool) (d : Lines) (i : ℕ) (x : Line) → i < length d → select p (take (i + 1) d) ≡ select p (take i d) ++ cond (p (get_or d i x).0) (get_or d i x ∷ []) []
select_more p d i x h = ap (select p) (take_more d i x h) ∙ select-++ p (take i d) (get_or d i x ∷ []) ∙ ap (λ t. select p (take i d) ++ t) one
  where
    one : select p (get_or d i x ∷ []) ≡ cond (p (get_or d i x).0) (get_or d i x ∷ []) []
    one = unfold select in refl

module _ (p : Row → Bool) (lines : List ChangeLine) (k : ℕ) (d : Lines) (i : ℕ) (e : lines ≡ of_node k d) where
  module _ (none : ChangeLine) (h : i < length lines) where
    line : (i < length d) × (get_or lines i none ≡ change_line k (get_or d i no_line))
    line = line_at lines k d i none e h

    row : (get_or lines i none).row ≡ (get_or d i no_line).0
    row = ap (λ (x : ChangeLine). x.row) line.1

    pub kept_one : (n : ℤ) → n ≡ (get_or lines i none).change → Canonical d → p (get_or lines i none).row ≡ true → select p (take i d) ++ with_line (get_or lines i none).row n [] ≡ select p (take (i + 1) d)
    kept_one n z c t =
        ap₂ (λ a b. select p (take i d) ++ with_line a b []) row (z ∙ ap (λ (x : ChangeLine). x.change) line.1)
        ∙ ap (λ u. select p (take i d) ++ cond u [] (get_or d i no_line ∷ [])) (some_line d i no_line c line.0)
        ∙ sym (select_more p d i no_line line.0 ∙ ap (λ u. select p (take i d) ++ cond u (get_or d i no_line ∷ []) []) (ap p (sym row) ∙ t))

    pub kept_none : p (get_or lines i none).row ≡ false → select p (take i d) ≡ select p (take (i + 1) d)
    kept_none t = sym (select_more p d i no_line line.0 ∙ ap (λ u. select p (take i d) ++ cond u (get_or d i no_line ∷ []) []) (ap p (sym row) ∙ t) ∙ append-nil (select p (take i d)))

  pub kept_all : length lines ≤ i → select p (take i d) ≡ select p d
  kept_all h = let long = ap length e ∙ length-map d (change_line k) in ap (select p) (take_all i d (omega (arith, h, long)))

pub kept_rest : (p : Row → Bool) (d : Lines) (i : ℕ) → select p (take i d) ++ select p (drop i d) ≡ select p d
kept_rest p d i = sym (select-++ p (take i d) (drop i d)) ∙ ap (select p) (take-append-drop i d)

pub kept_nothing : (p : Row → Bool) → select p [] ≡ []
kept_nothing p = unfold select in refl

module _ {S : Type 0} (meaning : S → Holding) (v w : ChangeWriter S) (same : SameTask v w) (law : LawfulHolding (meaning v.stock.now)) (q : Condition)
    (ws : List ℕ) (c : ℕ) (ds news : List Lines) (low : c < v.node) (at : Setting (meaning v.stock.now) ws v.node (kept_by q (shelf_of (meaning v.stock.now) c)) ds news) where
  pub keep_changed : (answer : Result (Unit {0}) NodeFault) → Wrote meaning v w (kept_by q (board ds c)) answer → NodeChange meaning v w (kept_by q (board news c)) true answer
  keep_changed answer wrote =
      let h = meaning v.stock.now in
      let lower = (at.lower c low).changes in
      finished meaning v w same law ws (kept_by q (shelf_of h c)) ds news at (kept_by q (board news c)) (operators_give_bags.of_keep q.column q.relation q.operand (board news c) lower.new_bag)
      (kept_by q (board ds c)) (keep_follows_change q.column q.relation q.operand (shelf_of h c) (board ds c) (board news c) lower) true refl answer wrote
