-- A change that is written is the change of its node. Assumes nothing.
--     old_counts      the counts of a stock fit
--     counts_told     the changed rows tell whether every new count fits
--     finished        what was to be written is the difference of the node's bags: then it meets the contract of its operator
--     not_fitting     the same where a group does not fit
use Rattle.std.proofs.Common.{◌≡◌, ℕ, Bool, true, false, cond, not, ◌+ℤ◌, Ok, Err, Result, sym, refl, ap, ◌∙◌, subst, ap₂, List, arith}
use Rattle.std.proofs.lemmas.Int.{ints}
use Rattle.bag.specs.Bag.{Lines, count, IsBag, every_line, difference}
use Rattle.bag.proofs.Moves.{difference_moves, canonical_difference}
use Rattle.bag.proofs.TestsAtChanges.{every_if_each, tests_follow_change}
use Rattle.stock.specs.Holding.{Holding, LawfulHolding, shelf_of}
use Rattle.stock.proofs.Accepted.{count_is_copies}
use Rattle.delta.specs.declared.fault.NodeFault.{NodeFault}
use Rattle.delta.specs.declared.fault.NodeFault.TheVariants.{Over, Wide}
use Rattle.delta.specs.declared.writer.ChangeWriter.{ChangeWriter}
use Rattle.delta.specs.NodeChange.{within_count, counts_fit, over_at, Setting}
use Rattle.delta.specs.Writing.{SameTask, Written, Wrote}
use Rattle.delta.specs.Changed.{NodeChange}

module _ (h : Holding) (law : LawfulHolding h) (k : ℕ) where
  pub old_counts : counts_fit (shelf_of h k) ≡ true
  old_counts = every_if_each (λ q n. within_count n) (shelf_of h k) (law.bags k).0 (λ q z.
      let is = count_is_copies h law k q in let most = law.counts k q in grind (arith, ints))

  pub counts_told : (new out : Lines) → IsBag new → out ≡ difference (shelf_of h k) new → counts_fit new ≡ not (over_at (shelf_of h k) out)
  counts_told new out bag is =
      let old = shelf_of h k in
      let e = tests_follow_change within_count refl old (difference old new) new (law.bags k).0 (canonical_difference old new) bag.0 (difference_moves old new) old_counts in
      e ∙ ap (λ d. every_line (λ q n. within_count (count old q +ℤ n)) d) (sym is) ∙ twice (every_line (λ q n. within_count (count old q +ℤ n)) out)
    where
      twice : (a : Bool) → a ≡ not (not a)
      twice true = refl
      twice false = refl

module _ {S : Type 0} (meaning : S → Holding) (v w : ChangeWriter S) (same : SameTask v w) (law : LawfulHolding (meaning v.stock.now))
    (ws : List ℕ) (old : Lines) (ds news : List Lines) (setting : Setting (meaning v.stock.now) ws v.node old ds news)
    (new : Lines) (bag : IsBag new) (out : Lines) (is : out ≡ difference old new) where
  here : out ≡ difference (shelf_of (meaning v.stock.now) v.node) new
  here = is ∙ ap (λ b. difference b new) (sym setting.own)

  pub finished : (fit : Bool) → fit ≡ true → (r : Result (Unit {0}) NodeFault) → Wrote meaning v w out r → NodeChange meaning v w new fit r
  finished fit f (Ok u) wrote =
      let told = ap₂ (λ b k. over_at (shelf_of (meaning b) k) out) (sym same.stock) (sym same.node) ∙ wrote.counts in
      let fits : counts_fit new ≡ true = counts_told (meaning v.stock.now) law v.node new out bag here ∙ ap not told in
      record {
        answer = sym (ap (λ a. cond a (cond fit (Ok tt) (Err Wide)) (Err Over)) fits ∙ ap (λ a. cond a (Ok tt) (Err Wide)) f);
        written = λ x y. subst (Written meaning w) here wrote;
      }
  finished fit f (Err e) wrote =
      let fits : counts_fit new ≡ false = counts_told (meaning v.stock.now) law v.node new out bag here ∙ ap not wrote.count in
      record {
        answer = ap Err wrote.fault ∙ sym (ap (λ a. cond a (cond fit (Ok tt) (Err Wide)) (Err Over)) fits);
        written = λ x y. let z : ◌≡◌ {A = ℕ} 0 1 = cc in absurd (let t : ⊥ = omega arith in t);
      }

  pub not_fitting : (fit : Bool) → fit ≡ false → counts_fit new ≡ true → NodeChange meaning v w new fit (Err Wide)
  not_fitting fit f fits =
      record {
        answer = sym (ap (λ a. cond a (cond fit (Ok tt) (Err Wide)) (Err Over)) fits ∙ ap (λ a. cond a (Ok tt) (Err Wide)) f);
        written = λ x y. let z : ◌≡◌ {A = ℕ} 0 1 = cc in absurd (let t : ⊥ = omega arith in t);
      }
