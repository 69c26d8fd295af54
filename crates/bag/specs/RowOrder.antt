-- The order of rows is total, and rows that it holds equal are the same. Assumes nothing.
--     column_equal, column_itself, column_less      the same of one column
--     order_equal, order_itself                     `Equal` is equality
--     order_turned, order_transitive, greater_less, less_greater      the two outer answers
use Rattle.std.specs.Prelude.{◌≡◌, [], ◌∷◌, ℤ, ◌<ℤ◌, refl}
use Rattle.std.specs.declared.cmp.Ordering.TheVariants.{Less, Equal, Greater}
use Rattle.std.specs.declared.cmp.Ordering.{Ordering}
use Rattle.std.proofs.Common.{sym, ap, ap₂, ◌∙◌}
use Rattle.std.specs.Cmp.{int_cmp_total, int_cmp_is, tied_itself}
use Rattle.std.proofs.lemmas.Map.Lookups.{exact_signed}
use Rattle.std.specs.Cmp.Lexicographic.{lists_total}
use Rattle.std.specs.Ordering.{ordering_then, ordering_reverse, int_cmp}
use Rattle.bag.specs.Order.{Row, row_order, RowsAreTotallyOrdered}

pub column_equal : (a b : ℤ) → int_cmp a b ≡ Equal → a ≡ b
column_equal = exact_signed

pub column_less : (a b : ℤ) → a <ℤ b → int_cmp a b ≡ Less
column_less a b h = sym (int_cmp_is a b Less h)

pub column_greater : (a b : ℤ) → b <ℤ a → int_cmp a b ≡ Greater
column_greater a b h = sym (int_cmp_is a b Greater h)

pub column_itself : (a : ℤ) → int_cmp a a ≡ Equal
column_itself = tied_itself int_cmp_total

pub order_itself : (r : Row) → row_order r r ≡ Equal
unfolding row_order
order_itself = tied_itself (lists_total int_cmp_total)

pub order_equal : (r q : Row) → row_order r q ≡ Equal → r ≡ q
unfolding row_order
order_equal [] [] e = refl
order_equal [] (b ∷ t) e = let z : ⊥ = cc in absurd z
order_equal (a ∷ s) [] e = let z : ⊥ = cc in absurd z
order_equal (a ∷ s) (b ∷ t) e = by (int_cmp a b) refl e (order_equal s t)
  where
    by : (o : Ordering) → int_cmp a b ≡ o → ordering_then o (row_order s t) ≡ Equal → (row_order s t ≡ Equal → s ≡ t) → (a ∷ s) ≡ (b ∷ t)
    by Less p e ih = let z : ⊥ = cc in absurd z
    by Equal p e ih = ap₂ (λ x y. x ∷ y) (column_equal a b p) (ih e)
    by Greater p e ih = let z : ⊥ = cc in absurd z

pub order_turned : (r q : Row) → row_order r q ≡ ordering_reverse (row_order q r)
unfolding row_order
order_turned = (lists_total int_cmp_total).antisymm

pub order_transitive : (x y z : Row) → row_order x y ≡ Less → row_order y z ≡ Less → row_order x z ≡ Less
unfolding row_order
order_transitive = (lists_total int_cmp_total).trans

pub greater_less : (a b : Row) → row_order a b ≡ Greater → row_order b a ≡ Less
greater_less a b p = order_turned b a ∙ ap ordering_reverse p

pub less_greater : (a b : Row) → row_order a b ≡ Less → row_order b a ≡ Greater
less_greater a b p = order_turned b a ∙ ap ordering_reverse p

pub rows_are_totally_ordered : RowsAreTotallyOrdered
rows_are_totally_ordered = record {
  equal_is_same = order_equal;
  same_is_equal = λ x y e. ap (row_order x) (sym e) ∙ order_itself x;
  turned = order_turned;
  transitive = order_transitive;
  alike = λ x y z e. ap (λ r. row_order r z) (order_equal x y e);
}
