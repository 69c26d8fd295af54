-- Sums over lines: what adding copies, collecting and appending do to them. Assumes nothing.
--     sum_ok             the sum is a value that code can hold
--     sum_add_copies, sum_collect, sum-++      the sum over the result
use Rattle.std.specs.Prelude.{◌≡◌, zero, suc, [], ◌∷◌, ◌++◌, ℤ, pos, negsuc, ◌+ℤ◌}
use Rattle.std.specs.declared.cmp.Ordering.TheVariants.{Less, Equal, Greater}
use Rattle.std.specs.declared.cmp.Ordering.{Ordering}
use Rattle.std.proofs.Math.Path.{refl, sym, ap}
use Rattle.std.proofs.Common.{◌∙◌}
use Rattle.bag.specs.Order.{Row, row_order}
use Rattle.bag.specs.Bag.{Lines, with_line, add_by, add_copies, collect}
use Rattle.bag.specs.Group.{Group, GroupLaws, AddsUp, sum_over}
use Rattle.bag.specs.RowOrder.{order_equal}

module _ {V : Type 0} {ok : V → Type 0} (G : Group V) (L : GroupLaws ok G) (f : Row → ℤ → V) (C : AddsUp ok G f) where
  pub sum_ok : (xs : Lines) → ok (sum_over G f xs)
  unfolding sum_over
  sum_ok [] = L.ok_zero
  sum_ok (e ∷ xs) = L.ok_plus _ _ (C.ok_worth e.0 e.1) (sum_ok xs)

  sum_with_line : (r : Row) (n : ℤ) (xs : Lines) → sum_over G f (with_line r n xs) ≡ G.plus (f r n) (sum_over G f xs)
  unfolding sum_over
  sum_with_line r (pos zero) xs = rw C.at_zero (sym (L.neutral _ (sum_ok xs)))
  sum_with_line r (pos (suc n)) xs = refl
  sum_with_line r (negsuc n) xs = refl

  swap : (x y z : V) → ok x → ok y → ok z → G.plus x (G.plus y z) ≡ G.plus y (G.plus x z)
  swap x y z a b c = sym (L.associative x y z a b c) ∙ ap (λ v. G.plus v z) (L.commutative x y a b) ∙ L.associative y x z b a c

  pub sum_add_copies : (r : Row) (n : ℤ) (xs : Lines) → sum_over G f (add_copies r n xs) ≡ G.plus (f r n) (sum_over G f xs)
  unfolding sum_over add_copies
  sum_add_copies r n [] = sum_with_line r n []
  sum_add_copies r n (e ∷ xs) = by (row_order r e.0) refl (sum_add_copies r n xs)
    where
      by : (o : Ordering) → row_order r e.0 ≡ o → sum_over G f (add_copies r n xs) ≡ G.plus (f r n) (sum_over G f xs) → sum_over G f (add_by o r n e xs (add_copies r n xs)) ≡ G.plus (f r n) (sum_over G f (e ∷ xs))
      by Less p ih = sum_with_line r n (e ∷ xs)
      by Equal p ih = sum_with_line e.0 (n +ℤ e.1) xs ∙ rw (C.adds, order_equal r e.0 p) (L.associative _ _ _ (C.ok_worth e.0 n) (C.ok_worth e.0 e.1) (sum_ok xs))
      by Greater p ih = rw ih (swap _ _ _ (C.ok_worth e.0 e.1) (C.ok_worth r n) (sum_ok xs))

  pub sum_collect : (xs : Lines) → sum_over G f (collect xs) ≡ sum_over G f xs
  unfolding sum_over collect
  sum_collect [] = refl
  sum_collect (e ∷ xs) = sum_add_copies e.0 e.1 (collect xs) ∙ ap (G.plus (f e.0 e.1)) (sum_collect xs)

  pub sum-++ : (xs ys : Lines) → sum_over G f (xs ++ ys) ≡ G.plus (sum_over G f xs) (sum_over G f ys)
  unfolding sum_over
  sum-++ [] ys = sym (L.neutral _ (sum_ok ys))
  sum-++ (e ∷ xs) ys = rw (sum-++ xs ys) (sym (L.associative _ _ _ (C.ok_worth e.0 e.1) (sum_ok xs) (sum_ok ys)))
