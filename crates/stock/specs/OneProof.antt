-- Of what a struct keeps as a fact there is one proof at most. Lemmas, which a struct names beside its facts. Assumes nothing.
--     canonical_prop          that a list is canonical
--     lawful_holding_prop     that sixteen bags are within their bounds
use Rattle.std.specs.Prelude.{ℕ, false, true, List, [], ◌∷◌}
use Rattle.std.specs.declared.cmp.Ordering.TheVariants.{Less}
use mathlib.Core.Bool.{Bool-set}
use Rattle.std.specs.Ordering.{Ordering-set}
use Rattle.std.specs.Coded.{Unit-prop}
use Rattle.std.proofs.Common.{ap, ap₂, ◌∙◌}
use Rattle.std.proofs.Props.{props}
use Rattle.bag.specs.Order.{Row, row_order}
use Rattle.bag.specs.Columns.{IsRow}
use Rattle.bag.specs.Bag.{Lines, is_zero, is_positive, Before, Canonical, Positive, EachRow}
use Rattle.stock.specs.Holding.{Holding, LawfulHolding}

both_prop : {A B : Type 0} → IsProp A → IsProp B → IsProp (A × B)
both_prop a b x y = ap₂ (λ u v. (u, v)) (a x.0 y.0) (b x.1 y.1)

three_prop : {A B C : Type 0} → IsProp A → IsProp B → IsProp C → IsProp (A × B × C)
three_prop a b c x y = ap₂ (λ u v. (u, v, x.2)) (a x.0 y.0) (b x.1 y.1) ∙ ap (λ w. (y.0, y.1, w)) (c x.2 y.2)

before_prop : (r : Row) (xs : Lines) → IsProp (Before r xs)
before_prop r [] = Unit-prop
before_prop r (e ∷ xs) = Ordering-set (row_order r e.0) Less

pub canonical_prop : (xs : Lines) → IsProp (Canonical xs)
canonical_prop [] = Unit-prop
canonical_prop (e ∷ xs) = three_prop (Bool-set (is_zero e.1) false) (before_prop e.0 xs) (canonical_prop xs)

positive_prop : (xs : Lines) → IsProp (Positive xs)
positive_prop [] = Unit-prop
positive_prop (e ∷ xs) = both_prop (Bool-set (is_positive e.1) true) (positive_prop xs)

is_row_prop : (r : Row) → IsProp (IsRow r)
is_row_prop r = Prim.hlevel props

rows_prop : (xs : Lines) → IsProp (EachRow IsRow xs)
rows_prop [] = Unit-prop
rows_prop (e ∷ xs) = both_prop (is_row_prop e.0) (rows_prop xs)

pub lawful_holding_prop : (h : Holding) → IsProp (LawfulHolding h)
lawful_holding_prop h = Prim.hlevel (props, canonical_prop, positive_prop, rows_prop)
