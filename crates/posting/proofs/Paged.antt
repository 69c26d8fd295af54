-- What a writer left on the page of a node says of it. Assumes nothing.
--     told_or           what is answered of the lines that stand on a page
--     told_here         the change of a node, told of the stock and the number that the writer was made from
--     page_refused      the node is refused
--     page_told         its lines stand on the page, or some of them found no place there
use Rattle.std.proofs.Common.{◌≡◌, ℕ, ◌<◌, Bool, true, false, cond, leb, List, length, get_or, Some, None, Ok, Err, Option, Result, sym, refl, ap, ◌∙◌, subst, ap₂, arith}
use Rattle.std.specs.Option.{ok_or}
use Rattle.std.proofs.lemmas.List.{length-map}
use Rattle.std.proofs.lemmas.Bool.{le-leb, lt-leb}
use Rattle.bag.specs.declared.lines.ChangeLine.{ChangeLine}
use Rattle.bag.specs.Bag.{Lines, difference}
use Rattle.bag.specs.Measure.{Measure}
use Rattle.stock.specs.Holding.{Holding, shelf_of}
use Rattle.plan.specs.declared.node.Node.{Node}
use Rattle.plan.specs.Afresh.{board, afresh}
use Rattle.sheet.specs.Sheets.{change_line, of_node, flattened, OnPage}
use Rattle.sheet.proofs.Laid.{told_fits, told_lost}
use Rattle.delta.specs.declared.fault.NodeFault.{NodeFault}
use Rattle.delta.specs.declared.fault.NodeFault.TheVariants as node
use Rattle.delta.specs.declared.writer.ChangeWriter.{ChangeWriter}
use Rattle.delta.specs.NodeChange.{counts_fit}
use Rattle.delta.specs.Writing.{SameTask}
use Rattle.delta.specs.Changed.{NodeChange}
use Rattle.posting.specs.declared.fault.WorkFault.{WorkFault}
use Rattle.posting.specs.declared.fault.WorkFault.TheVariants as work
use Rattle.posting.specs.Faults.{fault_at}
use Rattle.posting.specs.Working.{groups_fit, Ready}
use Rattle.posting.specs.Changes.{changes_to, LowerNodes, page_answer, PageStep}

no_answer : (f : WorkFault) (n : ℕ) → ◌≡◌ {A = Result ℕ WorkFault} (Err f) (Ok n) → ⊥
no_answer f n e = cc

pub told_or : (k : ℕ) (o : Option ℕ) → ok_or o (work.Paper k) ≡ elim o [ Some n ↦ Ok n | None ↦ Err (work.Paper k) ]
told_or k (Some n) = refl
told_or k None = refl

pub told_here : {S V : Type 0} (meaning : S → Holding) (M : Measure V) (xs : List Node) (ws : List ℕ) (moves net net' : ℕ → Lines) (h : Holding) (k : ℕ) (d : Node) (done : List ChangeLine) (v w : ChangeWriter S) (r : Result (Unit {0}) NodeFault) → meaning v.stock.now ≡ h → v.node ≡ k
    → (Ready M xs ws (meaning v.stock.now) moves net net' → v.node < length xs → LowerNodes ws (meaning v.stock.now) (afresh M xs net') v.node → done ≡ flattened 0 (changes_to (meaning v.stock.now) (afresh M xs net') v.node) → NodeChange meaning v w (board (afresh M xs net') v.node) (groups_fit M (get_or xs v.node d) (afresh M xs net')) r)
    → Ready M xs ws h moves net net' → k < length xs → LowerNodes ws h (afresh M xs net') k → done ≡ flattened 0 (changes_to h (afresh M xs net') k) → NodeChange meaning v w (board (afresh M xs net') k) (groups_fit M (get_or xs k d) (afresh M xs net')) r
told_here meaning M xs ws moves net net' h k d done v w r over at made ready here lower are =
    let news = afresh M xs net' in
    subst (λ n. NodeChange meaning v w (board news n) (groups_fit M (get_or xs n d) news) r) at
    (made (subst (λ m. Ready M xs ws m moves net net') (sym over) ready) (subst (λ n. n < length xs) (sym at) here) (subst (λ m. LowerNodes ws m news v.node) (sym over) (subst (λ n. LowerNodes ws h news n) (sym at) lower))
    (are ∙ ap₂ (λ m n. flattened 0 (changes_to m news n)) (sym over) (sym at)))

module _ {S V : Type 0} (meaning : S → Holding) (M : Measure V) (h : Holding) (news : List Lines) (k : ℕ) (x : Node) (v w : ChangeWriter S) (holds : meaning v.stock.now ≡ h) (at : v.node ≡ k) where
  abbrev d : Lines
  d = difference (shelf_of h k) (board news k)

  old_bag : shelf_of (meaning v.stock.now) v.node ≡ shelf_of h k
  old_bag = ap₂ (λ a n. shelf_of a n) holds at

  -- what is answered where neither is refused
  both_fit : NodeChange meaning v w (board news k) (groups_fit M x news) (Ok tt) → (counts_fit (board news k) ≡ true) × (groups_fit M x news ≡ true)
  both_fit made = by (counts_fit (board news k)) (groups_fit M x news) refl refl made.answer
    where
      by : (a b : Bool) → counts_fit (board news k) ≡ a → groups_fit M x news ≡ b → ◌≡◌ {A = Result (Unit {0}) NodeFault} (Ok tt) (cond a (cond b (Ok tt) (Err node.Wide)) (Err node.Over)) → (counts_fit (board news k) ≡ true) × (groups_fit M x news ≡ true)
      by true true p q e = (p, q)
      by true false p q e = absurd (let y : ⊥ = cc in y)
      by false b p q e = absurd (let y : ⊥ = cc in y)

  pub page_refused : (f : NodeFault) → NodeChange meaning v w (board news k) (groups_fit M x news) (Err f) → (page : List ChangeLine) → PageStep M h news k x page (Err (fault_at k f))
  page_refused f made page = record { answer = by f (counts_fit (board news k)) (groups_fit M x news) made.answer; lines = λ n e. absurd (no_answer (fault_at k f) n e) }
    where
      by : (f : NodeFault) (a b : Bool) → ◌≡◌ {A = Result (Unit {0}) NodeFault} (Err f) (cond a (cond b (Ok tt) (Err node.Wide)) (Err node.Over))
          → Err (fault_at k f) ≡ cond a (cond b (cond (leb (length d) (length page)) (Ok (length d)) (Err (work.Paper k))) (Err (work.Wide k))) (Err (work.Over k))
      by f true true e = absurd (let y : ⊥ = cc in y)
      by node.Wide true false e = refl
      by node.Over true false e = absurd (let y : ⊥ = cc in y)
      by node.Over false b e = refl
      by node.Wide false b e = absurd (let y : ⊥ = cc in y)

  module _ (same : SameTask v w) (made : NodeChange meaning v w (board news k) (groups_fit M x news) (Ok tt)) where
    on_page : OnPage w.page.now w.lines (of_node k d)
    on_page =
        let b = both_fit made in
        subst (λ n. OnPage w.page.now w.lines (of_node n d)) (same.node ∙ at) (subst (λ o. OnPage w.page.now w.lines (of_node w.node (difference o (board news k)))) old_bag (made.written b.0 b.1).on_page)

    fitting : page_answer M h.shelves news (length w.page.now) k x ≡ cond (leb (length d) (length w.page.now)) (Ok (length d)) (Err (work.Paper k))
    fitting = let b = both_fit made in ap₂ (λ p q. cond p (cond q (cond (leb (length d) (length w.page.now)) (Ok (length d)) (Err (work.Paper k))) (Err (work.Wide k))) (Err (work.Over k))) b.0 b.1

    pub page_told : (o : Option ℕ) → w.lines ≡ o → (r : Result ℕ WorkFault) → r ≡ elim o [ Some n ↦ Ok n | None ↦ Err (work.Paper k) ] → PageStep M h news k x w.page.now r
    page_told (Some n) some r e =
        let page : OnPage w.page.now (Some n) (of_node k d) = subst (λ l. OnPage w.page.now l (of_node k d)) some on_page in
        let told = told_fits (length w.page.now) n (of_node k d) page.told in
        let l = length-map d (change_line k) in
        let count : n ≡ length d = omega (arith, told.1, l) in
        record {
          answer = e ∙ ap Ok count ∙ sym (fitting ∙ ap (λ t. cond t (Ok (length d)) (Err (work.Paper k))) (le-leb (length d) (length w.page.now) (omega (arith, told.0, l))));
          lines = λ m q. subst (λ i. OnPage w.page.now (Some i) (of_node k d)) (same_number m (sym e ∙ q)) page;
        }
      where
        same_number : (m : ℕ) → ◌≡◌ {A = Result ℕ WorkFault} (Ok n) (Ok m) → n ≡ m
        same_number m q = cc
    page_told None none r e =
        let lost = told_lost (length w.page.now) (of_node k d) (sym none ∙ on_page.told) in
        let l = length-map d (change_line k) in
        record {
          answer = e ∙ sym (fitting ∙ ap (λ t. cond t (Ok (length d)) (Err (work.Paper k))) (lt-leb (length d) (length w.page.now) (omega (arith, lost, l))));
          lines = λ m q. absurd (no_answer (work.Paper k) m (sym e ∙ q));
        }
