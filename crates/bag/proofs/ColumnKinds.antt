-- Columns of a kind that 0 is of, as those that fit 32 bits: rows made of such columns have such columns. Assumes nothing.
--     Every zs, RowOf r      each is of the kind; a row of eight such columns
--     every-++, every_take, every_zeros, every_column_of, every_columns_at      of lists of columns
--     length_padded, row_padded      of a row filled up with zeros
--     kind_keep, kind_pick, kind_pair, kind_both, kind_less, kind_total      of the rows of each operator
use Rattle.std.proofs.Common.{◌≡◌, ℕ, zero, suc, List, [], ◌∷◌, ◌++◌, length, take, replicate, ℤ, pos, arith, length-append, length-take-le}
use lib.ListN.{length-replicate}
use Rattle.bag.specs.declared.condition.Relation.{Relation}
use Rattle.bag.specs.declared.condition.Operand.{Operand}
use Rattle.bag.specs.Order.{Row}
use Rattle.bag.specs.Columns.{column_of, columns_at, padded, listed, followed, agree}
use Rattle.bag.specs.Bag.{Lines, EachRow}
use Rattle.bag.specs.Measure.{Measure}
use Rattle.bag.specs.Operators.{keep, pick, join, pair, both, monus, map_groups, aggregate, total_value, total}
use Rattle.bag.proofs.EachRow.{rows_collect, rows-++, rows_select, rows_map_counts, rows_map_rows, rows_products, rows_project}

pub length_padded : (zs : List ℤ) → length (padded zs) ≡ 8
length_padded zs =
    let e = length-append zs (replicate 8 (pos 0)) in
    let f = length-replicate 8 (pos 0) in
    length-take-le 8 (zs ++ replicate 8 (pos 0)) (omega arith)

module _ (P : ℤ → Type 0) (zero_is : P (pos 0)) where
  abbrev pub Every : List ℤ → Type 0
  Every [] = Unit {0}
  Every (z ∷ r) = P z × Every r

  abbrev pub RowOf : Row → Type 0
  RowOf r = (length r ≡ 8) × Every r

  pub every-++ : (a b : List ℤ) → Every a → Every b → Every (a ++ b)
  every-++ [] b h k = k
  every-++ (z ∷ a) b h k = (h.0, every-++ a b h.1 k)

  pub every_take : (n : ℕ) (a : List ℤ) → Every a → Every (take n a)
  every_take zero a h = tt
  every_take (suc n) [] h = tt
  every_take (suc n) (z ∷ a) h = (h.0, every_take n a h.1)

  pub every_zeros : (n : ℕ) → Every (replicate n (pos 0))
  every_zeros zero = tt
  every_zeros (suc n) = (zero_is, every_zeros n)

  pub every_column_of : (r : Row) (i : ℕ) → Every r → P (column_of r i)
  every_column_of [] i h = zero_is
  every_column_of (z ∷ r) zero h = h.0
  every_column_of (z ∷ r) (suc i) h = every_column_of r i h.1

  pub every_columns_at : (is : List ℕ) (r : Row) → Every r → Every (columns_at is r)
  unfolding columns_at
  every_columns_at [] r h = tt
  every_columns_at (i ∷ is) r h = (every_column_of r i h, every_columns_at is r h)

  pub row_padded : (a : List ℤ) → Every a → RowOf (padded a)
  row_padded a h = (length_padded a, every_take 8 (a ++ replicate 8 (pos 0)) (every-++ a (replicate 8 (pos 0)) h (every_zeros 8)))

  -- the copies and the shown columns of every group are of the kind
  abbrev pub ShownOfKind : (Row → List ℤ) → Lines → Type 0
  ShownOfKind columns [] = Unit {0}
  ShownOfKind columns (e ∷ gs) = P e.1 × Every (columns e.0) × ShownOfKind columns gs

  kind_map_groups : (n : ℕ) (columns : Row → List ℤ) (gs : Lines) → EachRow RowOf gs → ShownOfKind columns gs → EachRow RowOf (map_groups (λ k c. padded (take n k ++ (c ∷ columns k))) gs)
  unfolding map_groups
  kind_map_groups n columns [] h t = tt
  kind_map_groups n columns (e ∷ gs) h t =
      (row_padded (take n e.0 ++ (e.1 ∷ columns e.0)) (every-++ (take n e.0) (e.1 ∷ columns e.0) (every_take n e.0 h.0.1) (t.0, t.1)), kind_map_groups n columns gs h.1 t.2)

  pub kind_keep : (a : ℕ) (relation : Relation) (o : Operand) (xs : Lines) → EachRow RowOf xs → EachRow RowOf (keep a relation o xs)
  kind_keep a relation o xs h = rows_select RowOf _ xs h

  pub kind_pick : (is : List ℕ) (xs : Lines) → EachRow RowOf xs → EachRow RowOf (pick is xs)
  kind_pick is xs h = rows_project RowOf (listed is) xs (rows_map_rows RowOf (listed is) (λ r q. row_padded (columns_at is r) (every_columns_at is r q.1)) xs h)

  pub kind_pair : (w : ℕ) (ps : List (ℕ × ℕ)) (l r : Lines) → EachRow RowOf l → EachRow RowOf r → EachRow RowOf (pair w ps l r)
  unfolding join
  kind_pair w ps l r h k =
      rows_collect RowOf _ (rows_products RowOf (agree ps) (followed w) (λ a b p q. row_padded (take w a ++ b) (every-++ (take w a) b (every_take w a p.1) q.1)) l r h k)

  pub kind_both : (l r : Lines) → EachRow RowOf l → EachRow RowOf r → EachRow RowOf (both l r)
  unfolding both
  kind_both l r h k = rows_collect RowOf _ (rows-++ RowOf l r h k)

  pub kind_less : (l r : Lines) → EachRow RowOf l → EachRow RowOf (monus l r)
  unfolding monus
  kind_less l r h = rows_map_counts RowOf _ l h

  pub kind_total : {V : Type 0} (M : Measure V) (j : ℕ) (is : List ℕ) (xs : Lines) → EachRow RowOf xs → ShownOfKind (λ k. M.columns (total_value M j is xs k)) (pick is xs) → EachRow RowOf (total M j is xs)
  unfolding aggregate
  kind_total M j is xs h t = rows_collect RowOf _ (kind_map_groups (length is) (λ k. M.columns (total_value M j is xs k)) (pick is xs) (kind_pick is xs h) t)
