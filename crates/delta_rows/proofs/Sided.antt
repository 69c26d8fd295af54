-- The two changes of a merge, from what is known of the nodes below. Assumes nothing.
--     lower_counted     the counts of a node below and of its change
--     sides_fit         the counts of the rows of all turns fit a line
--     sides_merged      the lines that the turns make are the change that has the counts wanted
use Rattle.std.proofs.Common.{◌≡◌, ℕ, ◌<◌, List, ℤ, pos, sym, ap, ◌∙◌, subst, ap₂, arith}
use Rattle.std.specs.List.{AllByRecursion}
use Rattle.std.proofs.lemmas.Int.{ints}
use Rattle.bag.specs.declared.lines.ChangeLine.{ChangeLine}
use Rattle.bag.specs.Order.{Row}
use Rattle.bag.specs.Bag.{Lines, count, Canonical}
use Rattle.bag.proofs.Bounds.{count_most}
use Rattle.bag.proofs.OperatorBags.{count_low}
use Rattle.stock.specs.Holding.{Holding, LawfulHolding, shelf_of}
use Rattle.stock.proofs.Accepted.{count_is_copies}
use Rattle.plan.specs.Afresh.{board}
use Rattle.delta.specs.NodeChange.{Setting, LinesOf}
use Rattle.delta_rows.specs.Merges.{turns}
use Rattle.delta_rows.specs.Less.{IsCount}
use Rattle.delta_rows.proofs.Merged.{Fitting, Counted, merged, all_fit}
use Rattle.delta_rows.proofs.Merging.{turns_written}

module _ (h : Holding) (law : LawfulHolding h) (ws : List ℕ) (k : ℕ) (old : Lines) (ds news : List Lines) (at : Setting h ws k old ds news) where
  lower_counted : (c : ℕ) → c < k → Counted (shelf_of h c) (board ds c)
  lower_counted c low =
      let node = at.lower c low in
      let moves = node.changes.moves in
      record {
        in_order = node.changes.in_order;
        old = λ q. let e = count_is_copies h law c q in let m = law.counts c q in record { low = omega (arith, ints); most = omega (arith, ints) };
        new = λ q.
            subst IsCount (moves q)
            (record { low = count_low (board news c) node.changes.new_bag.1 q; most = count_most 65535 (board news c) node.changes.new_bag.0 node.counts q });
      }

  module _ (l r : ℕ) (low-l : l < k) (low-r : r < k) (left right : List ChangeLine) (is-l : LinesOf l (board ds l) left) (is-r : LinesOf r (board ds r) right) where
    pub sides_fit : AllByRecursion (Fitting (shelf_of h l) (shelf_of h r)) (turns left right)
    sides_fit =
        subst (AllByRecursion (Fitting (shelf_of h l) (shelf_of h r))) (ap₂ turns (sym is-l.are) (sym is-r.are))
        (all_fit (shelf_of h l) (shelf_of h r) (board ds l) (board ds r) l r (lower_counted l low-l) (lower_counted r low-r))

    pub sides_merged : (f : Row → ℤ → ℤ → ℤ) → ((p : Row) → f p (pos 0) (pos 0) ≡ pos 0) → (all : Lines) → Canonical all → ((p : Row) → count all p ≡ f p (count (board ds l) p) (count (board ds r) p)) →
        turns_written f (turns left right) ≡ all
    sides_merged f none all c is =
        ap (turns_written f) (ap₂ turns is-l.are is-r.are) ∙ merged f none (board ds l) (board ds r) l r (at.lower l low-l).changes.in_order (at.lower r low-r).changes.in_order all c is
