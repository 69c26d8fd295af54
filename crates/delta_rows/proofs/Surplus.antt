-- The change of a less, row by row. Assumes nothing.
--     less_none          a row that neither side changes
--     less_counts        the changes of rows are the counts of what is worked out as the change of a less
--     surplus_change     the change of a row, as code computes it from counts
--     after_is           the count of a row after its change, as code computes it
--     counts_apart       one count less another, computed without loss
--     less_written       the number that code writes for a turn is the change of its row
--     less_changed       the change of a less is written
use Rattle.std.proofs.Common.{◌≡◌, ℕ, suc, ◌-◌, ◌<◌, Bool, true, false, List, Result, ltb, ℤ, pos, negsuc, ◌+ℤ◌, ◌-ℤ◌, sym, refl, ap, ◌∙◌, subst, ap₂, arith, w32, SFits, to_z, of_z, ltb-false, ltb-true}
use Rattle.std.specs.List.{AllByRecursion}
use Rattle.std.proofs.lemmas.Int.{ints, to_z-of_z}
use Rattle.bag.specs.declared.lines.ChangeLine.{ChangeLine}
use Rattle.bag.specs.Order.{Row}
use Rattle.bag.specs.Bag.{Lines, count}
use Rattle.bag.specs.Operators.{at_least_zero, monus}
use Rattle.bag.specs.Changes.{Changes}
use Rattle.bag.specs.Propagation.{change_of_less}
use Rattle.bag.proofs.ChangeLaws.{canonical_change_of_less}
use Rattle.bag.proofs.OperatorBags.{count_low}
use Rattle.bag.proofs.OperatorLaws.{less_changes, less_follows_change, operators_give_bags}
use Rattle.bag.proofs.RowByRow.{count_monus}
use Rattle.stock.specs.Holding.{Holding, LawfulHolding, shelf_of}
use Rattle.plan.specs.Afresh.{board}
use Rattle.delta.specs.declared.fault.NodeFault.{NodeFault}
use Rattle.delta.specs.declared.writer.ChangeWriter.{ChangeWriter}
use Rattle.delta.specs.NodeChange.{Setting, LinesOf}
use Rattle.delta.specs.Writing.{SameTask, Wrote}
use Rattle.delta.specs.Changed.{NodeChange}
use Rattle.delta.proofs.Finished.{finished}
use Rattle.delta_rows.specs.declared.merge.Turn.{Turn}
use Rattle.delta_rows.specs.Merges.{turns}
use Rattle.delta_rows.specs.Less.{IsCount, less_at}
use Rattle.delta_rows.proofs.Merged.{Fitting}
use Rattle.delta_rows.proofs.Merging.{turns_written}
use Rattle.delta_rows.proofs.Sided.{sides_fit, sides_merged}

pub less_none : (l r : Lines) (q : Row) → less_at l r q (pos 0) (pos 0) ≡ pos 0
less_none l r q = same (count l q) (count r q)
  where
    cancel : (z : ℤ) → z -ℤ z ≡ pos 0
    cancel z = omega (arith, ints)

    same : (a b : ℤ) → at_least_zero ((a +ℤ pos 0) -ℤ (b +ℤ pos 0)) -ℤ at_least_zero (a -ℤ b) ≡ pos 0
    same a b = let e : (a +ℤ pos 0) -ℤ (b +ℤ pos 0) ≡ a -ℤ b = omega (arith, ints) in ap (λ (z : ℤ). at_least_zero z -ℤ at_least_zero (a -ℤ b)) e ∙ cancel (at_least_zero (a -ℤ b))

pub less_counts : (l dl nl r dr nr : Lines) → Changes l dl nl → Changes r dr nr → (q : Row) → count (change_of_less l dl r dr) q ≡ less_at l r q (count dl q) (count dr q)
less_counts l dl nl r dr nr cl cr q =
    let moves = (less_changes l dl nl r dr nr cl cr).moves q in
    let old = count_monus l r cl.old_bag.0 (count_low r cr.old_bag.1) q in
    let new = count_monus nl nr cl.new_bag.0 (count_low nr cr.new_bag.1) q ∙ ap₂ (λ (a b : ℤ). at_least_zero (a -ℤ b)) (cl.moves q) (cr.moves q) in
    less (count (monus l r) q) (count (monus nl nr) q) (count (change_of_less l dl r dr) q) moves ∙ ap₂ (λ (a b : ℤ). a -ℤ b) new old
  where
    less : (a b z : ℤ) → b ≡ a +ℤ z → z ≡ b -ℤ a
    less a b z e = omega (arith, ints)

surplus_is : (a b : ℕ) → pos (a - b) ≡ at_least_zero (pos a -ℤ pos b)
surplus_is a b = by (ltb a b) refl
  where
    by : (t : Bool) → ltb a b ≡ t → pos (a - b) ≡ at_least_zero (pos a -ℤ pos b)
    by true e =
        let h = ltb-true a b e in
        let z : a - b ≡ 0 = omega arith in
        let n : pos a -ℤ pos b ≡ negsuc (b - suc a) = omega (arith, ints) in
        ap pos z ∙ sym (ap at_least_zero n)
    by false e =
        let h = ltb-false a b e in
        let n : pos a -ℤ pos b ≡ pos (a - b) = omega (arith, ints) in
        sym (ap at_least_zero n)

-- from the counts a and b before the change and the counts c and d after it
pub surplus_change : (x y m n : ℤ) (a b c d : ℕ) → pos a ≡ x → pos b ≡ y → pos c ≡ x +ℤ m → pos d ≡ y +ℤ n → pos (c - d) -ℤ pos (a - b) ≡ at_least_zero ((x +ℤ m) -ℤ (y +ℤ n)) -ℤ at_least_zero (x -ℤ y)
surplus_change x y m n a b c d p q u v =
    ap₂ (λ (s t : ℤ). s -ℤ t) (surplus_is c d ∙ ap₂ (λ (s t : ℤ). at_least_zero (s -ℤ t)) u v) (surplus_is a b ∙ ap₂ (λ (s t : ℤ). at_least_zero (s -ℤ t)) p q)

pub counts_apart : (m n : ℕ) → m < 65536 → n < 65536 → to_z w32 (of_z w32 (to_z w32 m -ℤ to_z w32 n)) ≡ pos m -ℤ pos n
counts_apart m n h k = omega (arith, ints)

-- what code computes as the count after a change is that count
pub after_is : (n k : ℕ) (z m : ℤ) → SFits w32 m → pos n ≡ z → (IsCount (pos n +ℤ to_z w32 (of_z w32 m)) → pos k ≡ pos n +ℤ to_z w32 (of_z w32 m)) → IsCount (z +ℤ m) → pos k ≡ z +ℤ m
after_is n k z m f e after is =
    let same : pos n +ℤ to_z w32 (of_z w32 m) ≡ z +ℤ m = ap₂ (λ (a b : ℤ). a +ℤ b) e (to_z-of_z w32 m f) in
    after (subst IsCount (sym same) is) ∙ same

-- `seen` is the stock as code reads it, which is the one of the writer
pub less_written : (h seen : Holding) (l r : ℕ) (t : Turn) (s : ℤ) → seen ≡ h → SFits w32 s →
    (IsCount (count (shelf_of seen l) t.row +ℤ t.left) → IsCount (count (shelf_of seen r) t.row +ℤ t.right) → s ≡ less_at (shelf_of seen l) (shelf_of seen r) t.row t.left t.right) →
    Fitting (shelf_of h l) (shelf_of h r) t → to_z w32 (of_z w32 s) ≡ less_at (shelf_of h l) (shelf_of h r) t.row t.left t.right
less_written h seen l r t s same f is fit =
    let here = subst (λ k. IsCount (count (shelf_of k l) t.row +ℤ t.left) → IsCount (count (shelf_of k r) t.row +ℤ t.right) → s ≡ less_at (shelf_of k l) (shelf_of k r) t.row t.left t.right) same is in
    to_z-of_z w32 s f ∙ here fit.new_left fit.new_right

pub less_changed : {S : Type 0} (meaning : S → Holding) (v w : ChangeWriter S) → SameTask v w → LawfulHolding (meaning v.stock.now) → (ws : List ℕ) (l r : ℕ) (ds news : List Lines) → l < v.node → r < v.node →
    Setting (meaning v.stock.now) ws v.node (monus (shelf_of (meaning v.stock.now) l) (shelf_of (meaning v.stock.now) r)) ds news → (left right : List ChangeLine) → LinesOf l (board ds l) left → LinesOf r (board ds r) right →
    (answer : Result (Unit {0}) NodeFault) →
    (AllByRecursion (Fitting (shelf_of (meaning v.stock.now) l) (shelf_of (meaning v.stock.now) r)) (turns left right) →
    Wrote meaning v w (turns_written (less_at (shelf_of (meaning v.stock.now) l) (shelf_of (meaning v.stock.now) r)) (turns left right)) answer) → NodeChange meaning v w (monus (board news l) (board news r)) true answer
less_changed meaning v w same law ws l r ds news low-l low-r at left right is-l is-r answer wrote =
    let h = meaning v.stock.now in
    let a = shelf_of h l in
    let b = shelf_of h r in
    let lower-l = (at.lower l low-l).changes in
    let lower-r = (at.lower r low-r).changes in
    let out = change_of_less a (board ds l) b (board ds r) in
    let are =
    sides_merged h law ws v.node (monus a b) ds news at l r low-l low-r left right is-l is-r (less_at a b) (less_none a b) out (canonical_change_of_less a (board ds l) b (board ds r))
    (less_counts a (board ds l) (board news l) b (board ds r) (board news r) lower-l lower-r) in
    finished meaning v w same law ws (monus a b) ds news at (monus (board news l) (board news r)) (operators_give_bags.of_less (board news l) (board news r) lower-l.new_bag lower-r.new_bag) out
    (less_follows_change a (board ds l) (board news l) b (board ds r) (board news r) lower-l lower-r) true refl answer (subst (λ d. Wrote meaning v w d answer) are (wrote (sides_fit h law ws v.node (monus a b) ds news at l r low-l low-r left right is-l is-r)))
