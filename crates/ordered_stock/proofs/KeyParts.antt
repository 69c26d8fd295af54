-- What the order of two lines says of their shelves and rows. Assumes nothing.
--     Says o m a n b      what the answer o says, where the keys are the shelves m and n with the rows a and b
--     key_says            it does
--     same_shelf          on one shelf the rows decide
--     same_key_means, other_shelf, other_row      when two lines have equal keys
use Rattle.std.proofs.Common.{◌≡◌, ℕ, ◌<◌, true, false, ◌⊎◌, Ordering, Less, Equal, Greater, sym, refl, ap, ◌∙◌, inl, inr, arith}
use Rattle.std.specs.Cmp.{nat_cmp_is, ranks}
use Rattle.std.specs.Ordering.{MatchOrdering, ordering_then, is_eq, nat_cmp}
use Rattle.bag.specs.declared.lines.StockLine.{StockLine}
use Rattle.bag.specs.Order.{Row, row_order, key_order, stock_line_order}
use Rattle.bag.specs.RowOrder.{order_equal, order_itself}
use Rattle.table.specs.Order.{same_key}

abbrev pub Says : Ordering → ℕ → Row → ℕ → Row → Type 0
Says Less m a n b = (m < n) ⊎ ((m ≡ n) × (row_order a b ≡ Less))
Says Equal m a n b = (m ≡ n) × (row_order a b ≡ Equal)
Says Greater m a n b = (n < m) ⊎ ((m ≡ n) × (row_order a b ≡ Greater))

pub key_says : (m : ℕ) (a : Row) (n : ℕ) (b : Row) → Says (key_order m a n b) m a n b
key_says m a n b = by (nat_cmp m n) (ranks m n)
  where
    rows : (o : Ordering) → m ≡ n → row_order a b ≡ o → Says o m a n b
    rows Less e h = inr (e, h)
    rows Equal e h = (e, h)
    rows Greater e h = inr (e, h)

    by : (o : Ordering) → MatchOrdering o (m < n) (m ≡ n) (n < m) → Says (ordering_then o (row_order a b)) m a n b
    by Less h = inl h
    by Equal h = rows (row_order a b) h refl
    by Greater h = inl h

number_itself : (m : ℕ) → nat_cmp m m ≡ Equal
number_itself m = sym (nat_cmp_is m m Equal refl)

pub same_shelf : (m : ℕ) (a : Row) (n : ℕ) (b : Row) → m ≡ n → key_order m a n b ≡ row_order a b
same_shelf m a n b e = ap (λ o. ordering_then o (row_order a b)) (ap (nat_cmp m) (sym e) ∙ number_itself m)

pub same_key_means : (k x : StockLine) → same_key stock_line_order k x ≡ true → (k.shelf ≡ x.shelf) × (k.row ≡ x.row)
same_key_means k x h = by (stock_line_order k x) (key_says k.shelf k.row x.shelf x.row) h
  where
    by : (o : Ordering) → Says o k.shelf k.row x.shelf x.row → is_eq o ≡ true → (k.shelf ≡ x.shelf) × (k.row ≡ x.row)
    by Less s h = let z : ◌≡◌ {A = ℕ} 0 1 = cc in absurd (let y : ⊥ = omega arith in y)
    by Equal s h = (s.0, order_equal k.row x.row s.1)
    by Greater s h = let z : ◌≡◌ {A = ℕ} 0 1 = cc in absurd (let y : ⊥ = omega arith in y)

pub other_shelf : (k x : StockLine) → (k.shelf ≡ x.shelf → ⊥) → same_key stock_line_order k x ≡ false
other_shelf k x n = by (stock_line_order k x) (key_says k.shelf k.row x.shelf x.row)
  where
    by : (o : Ordering) → Says o k.shelf k.row x.shelf x.row → is_eq o ≡ false
    by Less s = refl
    by Equal s = absurd (n s.0)
    by Greater s = refl

pub other_row : (k x : StockLine) → (row_order x.row k.row ≡ Equal → ⊥) → same_key stock_line_order k x ≡ false
other_row k x n = by (stock_line_order k x) (key_says k.shelf k.row x.shelf x.row)
  where
    by : (o : Ordering) → Says o k.shelf k.row x.shelf x.row → is_eq o ≡ false
    by Less s = refl
    by Equal s = absurd (n (ap (row_order x.row) (order_equal k.row x.row s.1) ∙ order_itself x.row))
    by Greater s = refl
