-- The bag of one shelf among ascending lines. Assumes nothing.
--     found_count                    the count of the line that a key finds, 0 where there is none
--     count_on_shelf                 a row's count on a shelf is that of the line that its key finds
--     none_on_shelf                  no line there, where all stand on higher shelves
--     bag_on_shelf, rows_on_shelf    it is a bag, of rows
--     next_on, next_on_shelf         the next row is that of the first line with a greater key, where that stands on the shelf
use Rattle.std.proofs.Common.{◌≡◌, ℕ, zero, suc, ◌<◌, ◌≤◌, Bool, true, false, cond, eqb, List, [], ◌∷◌, ℤ, pos, ◌+ℤ◌, Some, None, Option, Ordering, Less, Equal, Greater, sym, refl, ap, ◌∙◌, ap₂, inl, inr, arith}
use lib.IntN.{+ℤ_idl, +ℤ_idr}
use Rattle.std.specs.List.{AllByRecursion}
use Rattle.std.specs.List.Sorted.{IsStrictlySortedBy}
use Rattle.std.specs.Ordering.{is_eq}
use Rattle.std.proofs.lemmas.Bool.{eqb-true, eq-eqb, ne_eqb}
use Rattle.table.proofs.SortedTests.{sorted_from_test}
use Rattle.bag.specs.declared.lines.StockLine.{StockLine}
use Rattle.bag.specs.Order.{row_order, stock_line_order}
use Rattle.bag.specs.Bag.{Line, Lines, is_positive, if_equal, if_less, count, next, Before, Canonical, Positive, IsBag, EachRow}
use Rattle.bag.specs.RowOrder.{order_itself, order_equal}
use Rattle.table.specs.Order.{Lawful, by_order, same_key}
use Rattle.table.specs.Entries.{Ascending, entry_of, first_after}
use Rattle.table.proofs.Located.{ascending_tail}
use Rattle.table.proofs.Lookups.{none_behind}
use Rattle.bag.specs.Columns.{IsRow}
use Rattle.stock.specs.Holding.{LawfulLine}
use Rattle.ordered_stock.specs.OnTable.{as_line, on_shelf}
use Rattle.stock.proofs.Rows.{not_equal, some_not_zero}
use Rattle.ordered_stock.proofs.KeyParts.{Says, key_says, same_shelf, same_key_means}

abbrev pub found_count : Option StockLine → ℕ
found_count None = 0
found_count (Some l) = l.count

abbrev pub next_on : ℕ → Option StockLine → Option Line
next_on s None = None
next_on s (Some l) = cond (eqb l.shelf s) (Some (as_line l)) None

key_equal : (k x : StockLine) → k.shelf ≡ x.shelf → k.row ≡ x.row → stock_line_order k x ≡ Equal
key_equal k x s r = same_shelf k.shelf k.row x.shelf x.row s ∙ ap (row_order k.row) (sym r) ∙ order_itself k.row

rows_differ : (k x : StockLine) → k.shelf ≡ x.shelf → same_key stock_line_order k x ≡ false → row_order x.row k.row ≡ Equal → ⊥
rows_differ k x s h q =
    let e = key_equal k x s (sym (order_equal x.row k.row q)) in
    let t : is_eq (stock_line_order k x) ≡ true = ap is_eq e in
    let z : ◌≡◌ {A = ℕ} 0 1 = cc in
    let y : ⊥ = omega arith in
    y

module _ (law : Lawful stock_line_order) where
  pub count_on_shelf : (k : StockLine) (xs : List StockLine) → Ascending stock_line_order xs → count (on_shelf k.shelf xs) k.row ≡ pos (found_count (entry_of stock_line_order k xs))
  unfolding on_shelf count
  count_on_shelf k [] up = refl
  count_on_shelf k (x ∷ xs) up = by (same_key stock_line_order k x) refl (count_on_shelf k xs (ascending_tail stock_line_order x xs up))
    where
      rest : Lines
      rest = on_shelf k.shelf xs

      off : (b : Bool) → eqb x.shelf k.shelf ≡ b → same_key stock_line_order k x ≡ false → (n : ℤ) → count rest k.row ≡ n → count (cond b (as_line x ∷ rest) rest) k.row ≡ n
      off true e h n ih = ap₂ ◌+ℤ◌ (not_equal (row_order x.row k.row) (pos x.count) (rows_differ k x (sym (eqb-true x.shelf k.shelf e)) h)) ih ∙ +ℤ_idl n
      off false e h n ih = ih

      by : (b : Bool) → same_key stock_line_order k x ≡ b → count rest k.row ≡ pos (found_count (entry_of stock_line_order k xs))
          → count (cond (eqb x.shelf k.shelf) (as_line x ∷ rest) rest) k.row ≡ pos (found_count (cond b (Some x) (entry_of stock_line_order k xs)))
      by true h ih =
          let e = same_key_means k x h in
          let here : row_order x.row k.row ≡ Equal = ap (row_order x.row) e.1 ∙ order_itself x.row in
          let none = none_behind law k x xs up (key_equal k x e.0 e.1) in
          rw (eq-eqb x.shelf k.shelf (sym e.0))
          (ap₂ ◌+ℤ◌ (ap (λ o. if_equal o (pos x.count)) here) (ih ∙ ap (λ o. pos (found_count o)) none) ∙ +ℤ_idr (pos x.count))
      by false h ih = off (eqb x.shelf k.shelf) refl h (pos (found_count (entry_of stock_line_order k xs))) ih

pub none_on_shelf : (s : ℕ) (xs : List StockLine) → AllByRecursion (λ y. s < y.shelf) xs → on_shelf s xs ≡ []
unfolding on_shelf
none_on_shelf s [] all = refl
none_on_shelf s (x ∷ xs) all = rw (ne_eqb x.shelf s (λ e. let l = all.0 in let z : ⊥ = omega arith in z)) (none_on_shelf s xs all.1)

-- the lines behind a line stand on its shelf or on higher ones
pub shelves_ascend : (s : ℕ) (x : StockLine) (ys : List StockLine) → s < x.shelf → AllByRecursion (λ y. stock_line_order x y ≡ Less) ys → AllByRecursion (λ y. s < y.shelf) ys
shelves_ascend s x [] l all = tt
shelves_ascend s x (y ∷ ys) l all = (by (stock_line_order x y) all.0 (key_says x.shelf x.row y.shelf y.row), shelves_ascend s x ys l all.1)
  where
    by : (o : Ordering) → o ≡ Less → Says o x.shelf x.row y.shelf y.row → s < y.shelf
    by Less h (inl m) = omega arith
    by Less h (inr e) = let f = e.0 in omega arith
    by Equal h e = let f = e.0 in omega arith
    by Greater h e = let z : ◌≡◌ {A = ℕ} 0 1 = cc in absurd (let y : ⊥ = omega arith in y)

before_on_shelf : (s : ℕ) (x : StockLine) (ys : List StockLine) → x.shelf ≡ s → AllByRecursion (λ y. stock_line_order x y ≡ Less) ys → Before x.row (on_shelf s ys)
unfolding on_shelf
before_on_shelf s x [] e all = tt
before_on_shelf s x (y ∷ ys) e all = by (eqb y.shelf s) refl (before_on_shelf s x ys e all.1)
  where
    by : (b : Bool) → eqb y.shelf s ≡ b → Before x.row (on_shelf s ys) → Before x.row (cond b (as_line y ∷ on_shelf s ys) (on_shelf s ys))
    by true h ih = sym (same_shelf x.shelf x.row y.shelf y.row (e ∙ sym (eqb-true y.shelf s h))) ∙ all.0
    by false h ih = ih

some_positive : (n : ℕ) → 1 ≤ n → is_positive (pos n) ≡ true
some_positive zero h = absurd (let z : ⊥ = omega arith in z)
some_positive (suc n) h = refl

canonical_on_shelf : (s : ℕ) (xs : List StockLine) → IsStrictlySortedBy stock_line_order xs → AllByRecursion LawfulLine xs → Canonical (on_shelf s xs)
unfolding on_shelf IsStrictlySortedBy
canonical_on_shelf s [] up all = tt
canonical_on_shelf s (x ∷ xs) up all = by (eqb x.shelf s) refl (canonical_on_shelf s xs up.1 all.1)
  where
    by : (b : Bool) → eqb x.shelf s ≡ b → Canonical (on_shelf s xs) → Canonical (cond b (as_line x ∷ on_shelf s xs) (on_shelf s xs))
    by true h ih = (some_not_zero x.count all.0.some, before_on_shelf s x xs (eqb-true x.shelf s h) up.0, ih)
    by false h ih = ih

positive_on_shelf : (s : ℕ) (xs : List StockLine) → AllByRecursion LawfulLine xs → Positive (on_shelf s xs)
unfolding on_shelf
positive_on_shelf s [] all = tt
positive_on_shelf s (x ∷ xs) all = by (eqb x.shelf s) (positive_on_shelf s xs all.1)
  where
    by : (b : Bool) → Positive (on_shelf s xs) → Positive (cond b (as_line x ∷ on_shelf s xs) (on_shelf s xs))
    by true ih = (some_positive x.count all.0.some, ih)
    by false ih = ih

pub bag_on_shelf : (s : ℕ) (xs : List StockLine) → Ascending stock_line_order xs → AllByRecursion LawfulLine xs → IsBag (on_shelf s xs)
bag_on_shelf s xs up all = (canonical_on_shelf s xs (sorted_from_test stock_line_order xs up) all, positive_on_shelf s xs all)

pub rows_on_shelf : (s : ℕ) (xs : List StockLine) → AllByRecursion LawfulLine xs → EachRow IsRow (on_shelf s xs)
unfolding on_shelf
rows_on_shelf s [] all = tt
rows_on_shelf s (x ∷ xs) all = by (eqb x.shelf s) (rows_on_shelf s xs all.1)
  where
    by : (b : Bool) → EachRow IsRow (on_shelf s xs) → EachRow IsRow (cond b (as_line x ∷ on_shelf s xs) (on_shelf s xs))
    by true ih = (all.0.row, ih)
    by false ih = ih

pub next_on_shelf : (k : StockLine) (xs : List StockLine) → IsStrictlySortedBy stock_line_order xs → next (on_shelf k.shelf xs) k.row ≡ next_on k.shelf (first_after stock_line_order k xs)
unfolding on_shelf next IsStrictlySortedBy
next_on_shelf k [] up = refl
next_on_shelf k (x ∷ xs) up = by (stock_line_order k x) (key_says k.shelf k.row x.shelf x.row) (next_on_shelf k xs up.1)
  where
    rest : Lines
    rest = on_shelf k.shelf xs

    answer : Option Line
    answer = next_on k.shelf (first_after stock_line_order k xs)

    here : k.shelf ≡ x.shelf → eqb x.shelf k.shelf ≡ true
    here e = eq-eqb x.shelf k.shelf (sym e)

    by : (o : Ordering) → Says o k.shelf k.row x.shelf x.row → next rest k.row ≡ answer
        → next (cond (eqb x.shelf k.shelf) (as_line x ∷ rest) rest) k.row ≡ next_on k.shelf (by_order o (Some x) (first_after stock_line_order k xs) (first_after stock_line_order k xs))
    by Less (inl l) ih =
        let off = ne_eqb x.shelf k.shelf (λ e. let z : ⊥ = omega arith in z) in
        rw off (ap (λ b. next b k.row) (none_on_shelf k.shelf xs (shelves_ascend k.shelf x xs l up.0)))
    by Less (inr e) ih = rw (here e.0) (ap (λ o. if_less o (Some (as_line x)) (next rest k.row)) e.1)
    by Equal e ih = rw (here e.0) (ap (λ o. if_less o (Some (as_line x)) (next rest k.row)) e.1 ∙ ih)
    by Greater (inl l) ih = rw (ne_eqb x.shelf k.shelf (λ e. let z : ⊥ = omega arith in z)) ih
    by Greater (inr e) ih = rw (here e.0) (ap (λ o. if_less o (Some (as_line x)) (next rest k.row)) e.1 ∙ ih)
