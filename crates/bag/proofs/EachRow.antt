-- What holds of each row of the bags below holds of each row of an operator's bag. Assumes nothing.
--     rows_with_line, rows_add_copies, rows_collect, rows-++      of lists of lines
--     rows_select, rows_map_counts                                the rows are among those below
--     rows_map_rows, rows_project, rows_matches, rows_products, rows_map_groups      the rows are made from those below
--     rows-support                                                of the rows that a change touches
use Rattle.std.proofs.Common.{zero, suc, Bool, true, false, cond, [], ◌∷◌, ◌++◌, ℤ, pos, negsuc, ◌+ℤ◌, ◌*ℤ◌, Ordering, Less, Equal, Greater}
use Rattle.bag.specs.Order.{Row, row_order}
use Rattle.bag.specs.Bag.{Line, Lines, with_line, add_by, add_copies, collect, EachRow}
use Rattle.bag.specs.Operators.{select, map_rows, project, matches, products, map_counts, map_groups}

module _ (Q : Row → Type 0) where
  pub rows_with_line : (r : Row) (m : ℤ) (xs : Lines) → Q r → EachRow Q xs → EachRow Q (with_line r m xs)
  rows_with_line r (pos zero) xs k h = h
  rows_with_line r (pos (suc m)) xs k h = (k, h)
  rows_with_line r (negsuc m) xs k h = (k, h)

  pub rows_add_copies : (r : Row) (m : ℤ) (xs : Lines) → Q r → EachRow Q xs → EachRow Q (add_copies r m xs)
  unfolding add_copies
  rows_add_copies r m [] k h = rows_with_line r m [] k tt
  rows_add_copies r m (e ∷ xs) k h = by (row_order r e.0) (rows_add_copies r m xs k h.1)
    where
      by : (o : Ordering) → EachRow Q (add_copies r m xs) → EachRow Q (add_by o r m e xs (add_copies r m xs))
      by Less ih = rows_with_line r m (e ∷ xs) k h
      by Equal ih = rows_with_line e.0 (m +ℤ e.1) xs h.0 h.1
      by Greater ih = (h.0, ih)

  pub rows_collect : (xs : Lines) → EachRow Q xs → EachRow Q (collect xs)
  unfolding collect
  rows_collect [] h = tt
  rows_collect (e ∷ xs) h = rows_add_copies e.0 e.1 (collect xs) h.0 (rows_collect xs h.1)

  pub rows-++ : (xs ys : Lines) → EachRow Q xs → EachRow Q ys → EachRow Q (xs ++ ys)
  rows-++ [] ys h k = k
  rows-++ (e ∷ xs) ys h k = (h.0, rows-++ xs ys h.1 k)

  pub rows_select : (p : Row → Bool) (xs : Lines) → EachRow Q xs → EachRow Q (select p xs)
  unfolding select
  rows_select p [] h = tt
  rows_select p (e ∷ xs) h = by (p e.0) (rows_select p xs h.1)
    where
      by : (t : Bool) → EachRow Q (select p xs) → EachRow Q (cond t (e ∷ select p xs) (select p xs))
      by true ih = (h.0, ih)
      by false ih = ih

  pub rows_map_counts : (f : Row → ℤ → ℤ) (xs : Lines) → EachRow Q xs → EachRow Q (map_counts f xs)
  unfolding map_counts
  rows_map_counts f [] h = tt
  rows_map_counts f (e ∷ xs) h = rows_with_line e.0 (f e.0 e.1) (map_counts f xs) h.0 (rows_map_counts f xs h.1)

  pub rows_map_rows : (g : Row → Row) → ((r : Row) → Q r → Q (g r)) → (xs : Lines) → EachRow Q xs → EachRow Q (map_rows g xs)
  unfolding map_rows
  rows_map_rows g k [] h = tt
  rows_map_rows g k (e ∷ xs) h = (k e.0 h.0, rows_map_rows g k xs h.1)

  pub rows_matches : (on : Row → Row → Bool) (combine : Row → Row → Row) → ((a b : Row) → Q a → Q b → Q (combine a b)) → (e : Line) (r : Lines) → Q e.0 → EachRow Q r → EachRow Q (matches on combine e r)
  unfolding matches
  rows_matches on combine k e [] q h = tt
  rows_matches on combine k e (d ∷ r) q h = by (on e.0 d.0) (rows_matches on combine k e r q h.1)
    where
      by : (t : Bool) → EachRow Q (matches on combine e r) → EachRow Q (cond t ((combine e.0 d.0, e.1 *ℤ d.1) ∷ matches on combine e r) (matches on combine e r))
      by true ih = (k e.0 d.0 q h.0, ih)
      by false ih = ih

  pub rows_products : (on : Row → Row → Bool) (combine : Row → Row → Row) → ((a b : Row) → Q a → Q b → Q (combine a b)) → (l r : Lines) → EachRow Q l → EachRow Q r → EachRow Q (products on combine l r)
  unfolding products
  rows_products on combine k [] r h i = tt
  rows_products on combine k (e ∷ l) r h i = rows-++ (matches on combine e r) (products on combine l r) (rows_matches on combine k e r h.0 i) (rows_products on combine k l r h.1 i)

  pub rows_project : (g : Row → Row) (xs : Lines) → EachRow Q (map_rows g xs) → EachRow Q (project g xs)
  unfolding project
  rows_project g xs h = rows_collect (map_rows g xs) h

  pub rows_map_groups : (row-for : Row → ℤ → Row) (gs : Lines) → ((k : Row) (n : ℤ) → Q (row-for k n)) → EachRow Q (map_groups row-for gs)
  unfolding map_groups
  rows_map_groups row-for [] h = tt
  rows_map_groups row-for (e ∷ gs) h = (h e.0 e.1, rows_map_groups row-for gs h)

  -- made so whatever the row below is
  pub rows_made : (g : Row → Row) → ((r : Row) → Q (g r)) → (xs : Lines) → EachRow Q (map_rows g xs)
  unfolding map_rows
  rows_made g k [] = tt
  rows_made g k (e ∷ xs) = (k e.0, rows_made g k xs)

-- made so from any row of the left and such a row of the right
module _ (P Q : Row → Type 0) (on : Row → Row → Bool) (combine : Row → Row → Row) (k : (a b : Row) → P b → Q (combine a b)) where
  rows_matched : (e : Line) (r : Lines) → EachRow P r → EachRow Q (matches on combine e r)
  unfolding matches
  rows_matched e [] h = tt
  rows_matched e (d ∷ r) h = by (on e.0 d.0) (rows_matched e r h.1)
    where
      by : (t : Bool) → EachRow Q (matches on combine e r) → EachRow Q (cond t ((combine e.0 d.0, e.1 *ℤ d.1) ∷ matches on combine e r) (matches on combine e r))
      by true ih = (k e.0 d.0 h.0, ih)
      by false ih = ih

  pub rows_paired : (l r : Lines) → EachRow P r → EachRow Q (products on combine l r)
  unfolding products
  rows_paired [] r h = tt
  rows_paired (e ∷ l) r h = rows-++ Q (matches on combine e r) (products on combine l r) (rows_matched e r h) (rows_paired l r h)
