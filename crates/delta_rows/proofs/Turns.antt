-- The next of the rows of two changes. Assumes nothing.
--     at_none                      neither has a line left
--     at_left, at_right            only one has
--     at_less, at_equal, at_greater      both have, and the left one's comes first, or neither, or the right one's
--     taken                        the same of the parts of a tuple
use Rattle.std.proofs.Common.{◌≡◌, List, [], ◌∷◌, length, Ordering, Less, Equal, Greater, Bor, sym, refl, ap, ◌∙◌, ap₂}
use Rattle.bag.specs.declared.lines.ChangeLine.{ChangeLine}
use Rattle.bag.specs.Order.{row_order}
use Rattle.delta_rows.specs.declared.merge.Turn.{Turn}
use Rattle.delta_rows.specs.Merges.{left_turn, right_turn, both_turn, at_order, turns_from, turns}

none_is : (a : List ChangeLine) → length a ≡ 0 → a ≡ []
none_is [] e = refl
none_is (x ∷ a) e = absurd (let z : ⊥ = cc in z)

turns_none : turns [] [] ≡ []
unfolding turns
turns_none = refl

turns_left : (l : ChangeLine) (xs : List ChangeLine) → turns (l ∷ xs) [] ≡ left_turn l ∷ turns xs []
unfolding turns turns_from
turns_left l xs = refl

turns_right : (r : ChangeLine) (ys : List ChangeLine) → turns [] (r ∷ ys) ≡ right_turn r ∷ turns [] ys
unfolding turns
turns_right r ys = refl

turns_both : (l r : ChangeLine) (xs ys : List ChangeLine) →
    turns (l ∷ xs) (r ∷ ys) ≡ at_order (row_order l.row r.row) (left_turn l ∷ turns xs (r ∷ ys)) (both_turn l r ∷ turns xs ys) (right_turn r ∷ turns (l ∷ xs) ys)
unfolding turns turns_from
turns_both l r xs ys = refl

module _ (a b : List ChangeLine) where
  pub at_none : length a ≡ 0 → length b ≡ 0 → turns a b ≡ []
  at_none e f = ap₂ turns (none_is a e) (none_is b f) ∙ turns_none

  module _ (l : ChangeLine) (xs : List ChangeLine) (e : a ≡ l ∷ xs) where
    pub at_left : length b ≡ 0 → turns a b ≡ left_turn l ∷ turns xs b
    at_left f = ap₂ turns e (none_is b f) ∙ turns_left l xs ∙ ap (λ t. left_turn l ∷ turns xs t) (sym (none_is b f))

    module _ (r : ChangeLine) (ys : List ChangeLine) (f : b ≡ r ∷ ys) where
      at_both : (o : Ordering) → row_order l.row r.row ≡ o → turns a b ≡ at_order o (left_turn l ∷ turns xs b) (both_turn l r ∷ turns xs ys) (right_turn r ∷ turns a ys)
      at_both o is =
          ap₂ turns e f ∙ turns_both l r xs ys
          ∙ ap (λ t. at_order t (left_turn l ∷ turns xs (r ∷ ys)) (both_turn l r ∷ turns xs ys) (right_turn r ∷ turns (l ∷ xs) ys)) is
          ∙ ap₂ (λ s t. at_order o (left_turn l ∷ turns xs s) (both_turn l r ∷ turns xs ys) (right_turn r ∷ turns t ys)) (sym f) (sym e)

      pub at_less : row_order l.row r.row ≡ Less → turns a b ≡ left_turn l ∷ turns xs b
      at_less is = at_both Less is

      pub at_equal : row_order l.row r.row ≡ Equal → turns a b ≡ both_turn l r ∷ turns xs ys
      at_equal is = at_both Equal is

      pub at_greater : row_order l.row r.row ≡ Greater → turns a b ≡ right_turn r ∷ turns a ys
      at_greater is = at_both Greater is

  pub at_right : length a ≡ 0 → (r : ChangeLine) (ys : List ChangeLine) → b ≡ r ∷ ys → turns a b ≡ right_turn r ∷ turns a ys
  at_right e r ys f = ap₂ turns (none_is a e) f ∙ turns_right r ys ∙ ap (λ t. right_turn r ∷ turns t ys) (sym (none_is a e))

  pub taken : (q p : Turn) (x y : Bor (List ChangeLine)) (t : Turn × Bor (List ChangeLine) × Bor (List ChangeLine)) → t ≡ (q, x, y) → q ≡ p → turns a b ≡ p ∷ turns x.now y.now → turns a b ≡ t.0 ∷ turns t.1.now t.2.now
  taken q p x y t e f is = is ∙ ap (λ s. s ∷ turns x.now y.now) (sym f) ∙ sym (ap (λ (s : Turn × Bor (List ChangeLine) × Bor (List ChangeLine)). s.0 ∷ turns s.1.now s.2.now) e)
