-- One line more of a node's change. Assumes nothing.
--     every-++, over_more      the test of a count at one line more
--     over_front               too many copies at the front of a change are too many
--     one_over                 the test of a count at one line alone
--     answer_none, answer_one  what is told of a change of 0, and of another
--     same_itself, same_then   the task of a writer stays, from call to call
--     too_many_before          what is too much for the writer is too much for the one it was
--     front_too_many           what is too much at the front of a change is too much, also for the writer that the writer was
--     written_none             a writer that has written nothing
--     written_more             a line more, whose change is not 0
--     written_same             a change of 0 leaves no line
--     row_too_many             a row with too many copies
--     some_line                a line of a canonical list is not of 0 copies
use Rattle.std.proofs.Common.{◌≡◌, ℕ, zero, suc, ◌<◌, Bool, true, false, cond, not, ◌||◌, List, [], ◌∷◌, ◌++◌, length, get_or, replicate, ℤ, pos, ◌+ℤ◌, Some, Ok, Err, sym, refl, ap, ◌∙◌, subst, ap₂, arith}
use Rattle.std.proofs.lemmas.List.{append-nil, map-append}
use Rattle.bag.specs.declared.lines.ChangeLine.{ChangeLine}
use Rattle.bag.specs.Order.{Row}
use Rattle.bag.specs.Lines.{blank_change_line}
use Rattle.bag.specs.Bag.{Line, Lines, is_zero, count, with_line, Canonical, every_line}
use Rattle.stock.specs.Holding.{Holding, shelf_of}
use Rattle.sheet.specs.Sheets.{change_line, of_node, OnPage}
use Rattle.sheet.proofs.Laid.{page_none}
use Rattle.delta.specs.declared.fault.NodeFault.{NodeFault}
use Rattle.delta.specs.declared.fault.NodeFault.TheVariants.{Over}
use Rattle.delta.specs.declared.writer.ChangeWriter.{ChangeWriter}
use Rattle.delta.specs.NodeChange.{within_count, over_at}
use Rattle.delta.specs.Writing.{SameTask, Written, TooMany, write_answer}

every-++ : (f : Row → ℤ → Bool) (xs : Lines) (e : Line) → not (every_line f (xs ++ (e ∷ []))) ≡ not (every_line f xs) || not (f e.0 e.1)
unfolding every_line
every-++ f [] e = by (f e.0 e.1)
  where
    by : (t : Bool) → not (cond t true false) ≡ not true || not t
    by true = refl
    by false = refl
every-++ f (x ∷ xs) e = by (f x.0 x.1) (every-++ f xs e)
  where
    by : (t : Bool) → not (every_line f (xs ++ (e ∷ []))) ≡ not (every_line f xs) || not (f e.0 e.1) → not (cond t (every_line f (xs ++ (e ∷ []))) false) ≡ not (cond t (every_line f xs) false) || not (f e.0 e.1)
    by true ih = ih
    by false ih = refl

pub over_more : (old d : Lines) (e : Line) → over_at old (d ++ (e ∷ [])) ≡ over_at old d || not (within_count (count old e.0 +ℤ e.1))
over_more old d e = every-++ (λ q n. within_count (count old q +ℤ n)) d e

every_front : (f : Row → ℤ → Bool) (xs ys : Lines) → not (every_line f xs) ≡ true → not (every_line f (xs ++ ys)) ≡ true
unfolding every_line
every_front f [] ys h = let z : ◌≡◌ {A = ℕ} 0 1 = cc in absurd (let y : ⊥ = omega arith in y)
every_front f (x ∷ xs) ys h = by (f x.0 x.1) h (every_front f xs ys)
  where
    by : (t : Bool) → not (cond t (every_line f xs) false) ≡ true → (not (every_line f xs) ≡ true → not (every_line f (xs ++ ys)) ≡ true) → not (cond t (every_line f (xs ++ ys)) false) ≡ true
    by true h ih = ih h
    by false h ih = refl

pub over_front : (old d e : Lines) → over_at old d ≡ true → over_at old (d ++ e) ≡ true
over_front old d e h = every_front (λ q n. within_count (count old q +ℤ n)) d e h

pub one_over : (old : Lines) (r : Row) (n : ℤ) → is_zero n ≡ false → over_at old (with_line r n []) ≡ not (within_count (count old r +ℤ n))
unfolding every_line
one_over old r n z = ap (λ t. over_at old (cond t [] ((r, n) ∷ []))) z ∙ over_more old [] (r, n)

pub answer_none : (old : Lines) (r : Row) (n : ℤ) → n ≡ pos 0 → Ok tt ≡ write_answer old (with_line r n [])
unfolding every_line
answer_none old r n z = ap (λ m. write_answer old (with_line r m [])) (sym z)

pub answer_one : (old : Lines) (r : Row) (n : ℤ) (t : Bool) → is_zero n ≡ false → not (within_count (count old r +ℤ n)) ≡ t → cond t (Err Over) (Ok tt) ≡ write_answer old (with_line r n [])
answer_one old r n t z e = ap (λ x. cond x (Err Over) (Ok tt)) (sym (one_over old r n z ∙ e))

module _ {S : Type 0} where
  pub same_itself : (v : ChangeWriter S) → SameTask v v
  same_itself v = record { stock = refl; node = refl; lender = refl; long = refl }

  pub same_then : (u v w : ChangeWriter S) → SameTask u v → SameTask v w → SameTask u w
  same_then u v w a b = record { stock = b.stock ∙ a.stock; node = b.node ∙ a.node; lender = b.lender ∙ a.lender; long = b.long ∙ a.long }

  module _ (meaning : S → Holding) where
    old_bag : (v w : ChangeWriter S) → SameTask v w → shelf_of (meaning w.stock.now) w.node ≡ shelf_of (meaning v.stock.now) v.node
    old_bag v w s = ap₂ (λ x k. shelf_of (meaning x) k) s.stock s.node

    pub too_many_before : (v w : ChangeWriter S) (d : Lines) (f : NodeFault) → SameTask v w → TooMany meaning w d f → TooMany meaning v d f
    too_many_before v w d f s m = record { fault = m.fault; count = ap (λ b. over_at b d) (sym (old_bag v w s)) ∙ m.count }

    pub front_too_many : (v w : ChangeWriter S) (d e all : Lines) (f : NodeFault) → SameTask v w → d ++ e ≡ all → TooMany meaning w d f → TooMany meaning v all f
    front_too_many v w d e all f s is m =
        let here = too_many_before v w d f s m in
        record { fault = here.fault; count = subst (λ z. over_at (shelf_of (meaning v.stock.now) v.node) z ≡ true) is (over_front (shelf_of (meaning v.stock.now) v.node) d e here.count) }

    pub written_none : (w : ChangeWriter S) → w.lines ≡ Some 0 → w.page.now ≡ replicate (length w.page.now) blank_change_line → Written meaning w []
    unfolding every_line
    written_none w e b = record { on_page = subst (λ l. OnPage w.page.now l []) (sym e) (page_none w.page.now b); counts = refl }

    module _ (v w : ChangeWriter S) (d : Lines) (r : Row) (n : ℤ) where
      some : is_zero n ≡ false → d ++ with_line r n [] ≡ d ++ ((r, n) ∷ [])
      some z = ap (λ t. d ++ cond t [] ((r, n) ∷ [])) z

      pub written_more : SameTask v w → is_zero n ≡ false → Written meaning v d →
          ((es : List ChangeLine) → OnPage v.page.now v.lines es → OnPage w.page.now w.lines (es ++ (change_line v.node (r, n) ∷ []))) →
          not (within_count (count (shelf_of (meaning v.stock.now) v.node) r +ℤ n)) ≡ false → Written meaning w (d ++ with_line r n [])
      written_more s z was put fits =
          let line : of_node v.node d ++ (change_line v.node (r, n) ∷ []) ≡ of_node w.node (d ++ ((r, n) ∷ [])) =
          sym (map-append (change_line v.node) d ((r, n) ∷ [])) ∙ ap (λ k. of_node k (d ++ ((r, n) ∷ []))) (sym s.node) in
          let here : Written meaning w (d ++ ((r, n) ∷ [])) =
          record {
            on_page = subst (OnPage w.page.now w.lines) line (put (of_node v.node d) was.on_page);
            counts =
                ap (λ b. over_at b (d ++ ((r, n) ∷ []))) (old_bag v w s) ∙ over_more (shelf_of (meaning v.stock.now) v.node) d (r, n)
                ∙ ap₂ (λ (a b : Bool). a || b) was.counts fits;
          } in
          subst (Written meaning w) (sym (some z)) here

      pub row_too_many : is_zero n ≡ false → Written meaning v d → not (within_count (count (shelf_of (meaning v.stock.now) v.node) r +ℤ n)) ≡ true → TooMany meaning v (d ++ with_line r n []) Over
      row_too_many z was many =
          let here : TooMany meaning v (d ++ ((r, n) ∷ [])) Over =
          record {
            fault = refl;
            count = over_more (shelf_of (meaning v.stock.now) v.node) d (r, n) ∙ ap₂ (λ (a b : Bool). a || b) was.counts many;
          } in
          subst (λ x. TooMany meaning v x Over) (sym (some z)) here

      pub written_same : n ≡ pos 0 → Written meaning v d → Written meaning v (d ++ with_line r n [])
      written_same z was = subst (Written meaning v) (sym (ap (λ m. d ++ with_line r m []) z ∙ append-nil d)) was

pub some_line : (d : Lines) (i : ℕ) (x : Line) → Canonical d → i < length d → is_zero (get_or d i x).1 ≡ false
some_line [] i x c h = absurd (let z : ⊥ = omega arith in z)
some_line (e ∷ d) zero x c h = c.0
some_line (e ∷ d) (suc i) x c h = some_line d i x c.2 (omega arith)
