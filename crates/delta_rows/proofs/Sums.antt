-- The change of a both, row by row. Assumes nothing.
--     sum_at, sum_none     what is wanted of a row, and of a row that neither side changes
--     canonical_both       both changes together are canonical
--     sum_exact            a sum of two changes is added without loss
--     sum_written          so the number that code writes for a turn is the sum
--     both_changed         the change of a both is written
use Rattle.std.proofs.Common.{◌≡◌, ℕ, ◌<◌, true, List, Result, min, ℤ, pos, negsuc, ◌+ℤ◌, ◌≤ℤ◌, refl, subst, ap, ◌∙◌, ap₂, arith, w32, SFits, to_z, of_z}
use Rattle.std.specs.Int.{saturate_to_bits}
use Rattle.std.proofs.lemmas.Int.{ints, to_z-of_z}
use Rattle.bag.specs.declared.lines.ChangeLine.{ChangeLine}
use Rattle.bag.specs.Order.{Row}
use Rattle.bag.specs.Bag.{Lines, count, Canonical}
use Rattle.bag.specs.Operators.{both}
use Rattle.bag.proofs.CanonicalForm.{canonical_collect}
use Rattle.bag.proofs.Moves.{count_both}
use Rattle.bag.proofs.OperatorLaws.{both_follows_change, operators_give_bags}
use Rattle.stock.specs.Holding.{Holding, LawfulHolding, shelf_of}
use Rattle.plan.specs.Afresh.{board}
use Rattle.delta.specs.declared.fault.NodeFault.{NodeFault}
use Rattle.delta.specs.declared.writer.ChangeWriter.{ChangeWriter}
use Rattle.delta.specs.NodeChange.{Setting, LinesOf}
use Rattle.delta.specs.Writing.{SameTask, Wrote}
use Rattle.delta.specs.Changed.{NodeChange}
use Rattle.delta.proofs.Finished.{finished}
use Rattle.delta_rows.specs.declared.merge.Turn.{Turn}
use Rattle.delta_rows.specs.Merges.{turns}
use Rattle.delta_rows.specs.Less.{IsCount}
use Rattle.delta_rows.proofs.Merged.{Fitting}
use Rattle.delta_rows.proofs.Merging.{turns_written}
use Rattle.delta_rows.proofs.Sided.{sides_merged}

abbrev pub sum_at : Row → ℤ → ℤ → ℤ
sum_at q m n = m +ℤ n

pub sum_none : (q : Row) → sum_at q (pos 0) (pos 0) ≡ pos 0
sum_none q = refl

pub canonical_both : (dl dr : Lines) → Canonical (both dl dr)
unfolding both
canonical_both dl dr = canonical_collect _

-- a number this small is within what an i32 holds
small_exact : (z : ℤ) → negsuc 131069 ≤ℤ z → z ≤ℤ pos 131070 → saturate_to_bits 31 z ≡ z
small_exact (pos k) l h = let e : min k 2147483647 ≡ k = omega (arith, ints) in ap pos e
small_exact (negsuc k) l h = let e : min k 2147483647 ≡ k = omega (arith, ints) in ap negsuc e

pub sum_exact : (a b m n : ℤ) → IsCount a → IsCount b → IsCount (a +ℤ m) → IsCount (b +ℤ n) → saturate_to_bits 31 (m +ℤ n) ≡ m +ℤ n
sum_exact a b m n ca cb cm cn =
    let a0 = ca.low in
    let a1 = ca.most in
    let b0 = cb.low in
    let b1 = cb.most in
    let m0 = cm.low in
    let m1 = cm.most in
    let n0 = cn.low in
    let n1 = cn.most in
    small_exact (m +ℤ n) (omega (arith, ints)) (omega (arith, ints))

pub sum_written : (a b : Lines) (t : Turn) (s : ℤ) → SFits w32 t.left → SFits w32 t.right → SFits w32 s → s ≡ saturate_to_bits 31 (to_z w32 (of_z w32 t.left) +ℤ to_z w32 (of_z w32 t.right)) →
    Fitting a b t → to_z w32 (of_z w32 s) ≡ sum_at t.row t.left t.right
sum_written a b t s fl fr fs is fit =
    to_z-of_z w32 s fs ∙ is ∙ ap₂ (λ (m n : ℤ). saturate_to_bits 31 (m +ℤ n)) (to_z-of_z w32 t.left fl) (to_z-of_z w32 t.right fr)
    ∙ sum_exact (count a t.row) (count b t.row) t.left t.right fit.old_left fit.old_right fit.new_left fit.new_right

pub both_changed : {S : Type 0} (meaning : S → Holding) (v w : ChangeWriter S) → SameTask v w → LawfulHolding (meaning v.stock.now) → (ws : List ℕ) (l r : ℕ) (ds news : List Lines) → l < v.node → r < v.node →
    Setting (meaning v.stock.now) ws v.node (both (shelf_of (meaning v.stock.now) l) (shelf_of (meaning v.stock.now) r)) ds news → (left right : List ChangeLine) → LinesOf l (board ds l) left → LinesOf r (board ds r) right →
    (answer : Result (Unit {0}) NodeFault) → Wrote meaning v w (turns_written sum_at (turns left right)) answer → NodeChange meaning v w (both (board news l) (board news r)) true answer
both_changed meaning v w same law ws l r ds news low-l low-r at left right is-l is-r answer wrote =
    let h = meaning v.stock.now in
    let old = both (shelf_of h l) (shelf_of h r) in
    let lower-l = (at.lower l low-l).changes in
    let lower-r = (at.lower r low-r).changes in
    let out = both (board ds l) (board ds r) in
    let are = sides_merged h law ws v.node old ds news at l r low-l low-r left right is-l is-r sum_at sum_none out (canonical_both (board ds l) (board ds r)) (count_both (board ds l) (board ds r)) in
    finished meaning v w same law ws old ds news at (both (board news l) (board news r)) (operators_give_bags.of_both (board news l) (board news r) lower-l.new_bag lower-r.new_bag) out
    (both_follows_change (shelf_of h l) (board ds l) (board news l) (shelf_of h r) (board ds r) (board news r) lower-l lower-r) true refl answer (subst (λ d. Wrote meaning v w d answer) are wrote)
