-- A line appended to a canonical list whose rows are all less than its row. Assumes nothing.
--     each_row_too       what follows from what holds of each row holds of each row
--     canonical_more     the list stays canonical, also if the line has 0 copies and is left out
--     each_row_more      what holds of each row and of the new one holds of each row then
--     count_more         the counts then
use Rattle.std.proofs.Common.{◌≡◌, zero, suc, [], ◌∷◌, ◌++◌, ℤ, pos, negsuc, ◌+ℤ◌, Less, sym, ap, ◌∙◌}
use lib.IntN.{+ℤ_idr}
use Rattle.bag.specs.Order.{Row, row_order}
use Rattle.bag.specs.Bag.{Lines, copies_at, count, with_line, Before, Canonical, EachRow}
use Rattle.bag.specs.Integers.{if_equal_zero, count-++}
use Rattle.bag.proofs.CanonicalForm.{before_with_line, canonical_with_line}
use Rattle.bag.proofs.EachRow.{rows_with_line, rows-++}

pub each_row_too : (P Q : Row → Type 0) → ((p : Row) → P p → Q p) → (xs : Lines) → EachRow P xs → EachRow Q xs
each_row_too P Q f [] h = tt
each_row_too P Q f (e ∷ xs) h = (f e.0 h.0, each_row_too P Q f xs h.1)

module _ (q : Row) (n : ℤ) where
  pub canonical_more : (xs : Lines) → Canonical xs → EachRow (λ p. row_order p q ≡ Less) xs → Canonical (xs ++ with_line q n [])
  canonical_more [] c h = canonical_with_line q n [] tt tt
  canonical_more (e ∷ xs) c h = (c.0, before xs c.1, canonical_more xs c.2 h.1)
    where
      before : (ys : Lines) → Before e.0 ys → Before e.0 (ys ++ with_line q n [])
      before [] b = before_with_line e.0 q n [] h.0 tt
      before (d ∷ ys) b = b

  pub each_row_more : (P : Row → Type 0) (xs : Lines) → EachRow P xs → P q → EachRow P (xs ++ with_line q n [])
  each_row_more P xs h k = rows-++ P xs (with_line q n []) h (rows_with_line P q n [] k tt)

  pub count_more : (xs : Lines) (p : Row) → count (xs ++ with_line q n []) p ≡ count xs p +ℤ copies_at p q n
  unfolding count
  count_more xs p = count-++ xs (with_line q n []) p ∙ ap (λ k. count xs p +ℤ k) (one n)
    where
      one : (m : ℤ) → count (with_line q m []) p ≡ copies_at p q m
      one (pos zero) = sym (if_equal_zero (row_order q p))
      one (pos (suc k)) = +ℤ_idr (copies_at p q (pos (suc k)))
      one (negsuc k) = +ℤ_idr (copies_at p q (negsuc k))
