-- The rows exchanged group by group are the change of a total. Assumes nothing.
--     exchanges_are       what the walk over the gathered groups appends
--     fits_are            what it tells of the groups' values
use Rattle.std.proofs.Common.{◌≡◌, ℕ, ◌≤◌, Bool, true, false, cond, List, [], ◌∷◌, ◌++◌, length, take, ℤ, pos, ◌+ℤ◌, sym, refl, ap, ◌∙◌, ap₂, arith}
use Rattle.bag.specs.Order.{Row, row_order}
use Rattle.bag.specs.Columns.{padded, listed}
use Rattle.bag.specs.Bag.{Lines, is_zero, count, collect, Before, Canonical, EachRow, every_line, negated}
use Rattle.bag.specs.Measure.{Measure}
use Rattle.bag.specs.Operators.{map_rows, column_worth, total_row}
use Rattle.bag.specs.Propagation.{row_if_any, exchanged, touched_groups, exchange_groups, change_of_aggregate, read_group, group_of, change_of_own_total, touched_groups_fit}
use Rattle.bag.proofs.CanonicalForm.{before_transitive, canonical_collect, equal_counts}
use Rattle.bag.proofs.EachRow.{rows_collect, rows-++, rows_made}
use Rattle.bag.specs.Integers.{count_collect, count-++}
use Rattle.bag.proofs.GroupKeys.{listed_key, order_rows}
use Rattle.delta_groups.specs.Nets.{Ascends, gathered}
use Rattle.delta_groups.specs.Groups.{IsGroup}
use Rattle.delta_groups.specs.Totals.{exchange_of, exchanges, fit_after}
use Rattle.delta_groups.proofs.Gathered.{ascends_gathered}
use Rattle.delta_groups.proofs.Touched.{ones, touched_rows, rows_gathered}

-- ---- lists one behind the other

canonical-++ : (a b : Lines) → Canonical a → Canonical b → EachRow (λ q. Before q b) a → Canonical (a ++ b)
canonical-++ [] b c d h = d
canonical-++ (e ∷ a) b c d h = (c.0, first a c.1, canonical-++ a b c.2 d h.1)
  where
    first : (a : Lines) → Before e.0 a → Before e.0 (a ++ b)
    first [] l = h.0
    first (x ∷ a) l = l

-- the row of some copies of the group k
abbrev OfGroup : ℕ → Row → Row → Type 0
OfGroup n k q = (c : ℤ) × ((w : List ℤ) × (q ≡ padded (take n k ++ (c ∷ w))))

module _ {V : Type 0} (M : Measure V) (n : ℕ) (small : n ≤ 7) (own : Lines) (delta : Row → ℤ × V) where
  rows_negated : (Q : Row → Type 0) (xs : Lines) → EachRow Q xs → EachRow Q (negated xs)
  unfolding negated
  rows_negated Q [] h = tt
  rows_negated Q (e ∷ xs) h = (h.0, rows_negated Q xs h.1)

  rows_any : (Q : Row → Type 0) (c : ℤ) (r : Row) → Q r → EachRow Q (row_if_any c r)
  rows_any Q c r h = by (is_zero c)
    where
      by : (t : Bool) → EachRow Q (cond t [] ((r, pos 1) ∷ []))
      by true = tt
      by false = (h, tt)

  rows_exchange : (k : Row) → EachRow (OfGroup n k) (exchange_of M n own delta k)
  rows_exchange k =
      let old = read_group M n own k in
      let c = old.0 +ℤ (delta k).0 in
      let v = M.group.plus old.1 (delta k).1 in
      rows_collect (OfGroup n k) _
      (rows-++ (OfGroup n k) (negated (row_if_any old.0 (total_row M n k old.0 old.1))) (row_if_any c (total_row M n k c v))
      (rows_negated (OfGroup n k) (row_if_any old.0 (total_row M n k old.0 old.1)) (rows_any (OfGroup n k) old.0 (total_row M n k old.0 old.1) (old.0, (M.columns old.1, refl))))
      (rows_any (OfGroup n k) c (total_row M n k c v) (c, (M.columns v, refl))))

  before_exchanges : (q k : Row) (xs : Lines) → OfGroup n k q → IsGroup n k → Before k xs → Ascends xs → EachRow (IsGroup n) xs → Before q (exchanges M n own delta xs)
  unfolding exchanges
  before_exchanges q k [] o g b a ks = tt
  before_exchanges q k (e ∷ xs) o g b a ks = by (exchange_of M n own delta e.0) (rows_exchange e.0) (before_exchanges q k xs o g (before_transitive k e.0 xs b a.0) a.1 ks.1)
    where
      by : (ys : Lines) → EachRow (OfGroup n e.0) ys → Before q (exchanges M n own delta xs) → Before q (ys ++ exchanges M n own delta xs)
      by [] r ih = ih
      by (y ∷ ys) r ih =
          let p = r.0 in
          ap₂ row_order o.1.1 p.1.1 ∙ order_rows n small k e.0 o.0 p.0 o.1.0 p.1.0 g ks.0 b

  canonical_exchanges : (xs : Lines) → Ascends xs → EachRow (IsGroup n) xs → Canonical (exchanges M n own delta xs)
  unfolding exchanges
  canonical_exchanges [] a ks = tt
  canonical_exchanges (e ∷ xs) a ks =
      canonical-++ (exchange_of M n own delta e.0) (exchanges M n own delta xs) (canonical_collect _) (canonical_exchanges xs a.1 ks.1) (all (exchange_of M n own delta e.0) (rows_exchange e.0))
    where
      all : (ys : Lines) → EachRow (OfGroup n e.0) ys → EachRow (λ q. Before q (exchanges M n own delta xs)) ys
      all [] r = tt
      all (y ∷ ys) r = (before_exchanges y.0 e.0 xs r.0 ks.0 a.0 a.1 ks.1, all ys r.1)

module _ {V : Type 0} (M : Measure V) (j : ℕ) (is : List ℕ) (small : length is ≤ 7) (own d : Lines) where
  abbrev n : ℕ
  n = length is

  abbrev delta : Row → ℤ × V
  delta = group_of M j is d

  abbrev groups : Lines → Lines
  groups gs = exchange_groups M.group (listed is) (column_worth M j) (total_row M n) (read_group M n own) d gs

  count_exchanges : (xs : Lines) (q : Row) → count (exchanges M n own delta xs) q ≡ count (groups xs) q
  unfolding exchanges exchange_groups
  count_exchanges [] q = refl
  count_exchanges (e ∷ xs) q =
      let ex = exchanged M.group (total_row M n) e.0 (read_group M n own e.0) (delta e.0) in
      count-++ (collect ex) (exchanges M n own delta xs) q ∙ ap₂ (λ x y. x +ℤ y) (count_collect ex q) (count_exchanges xs q) ∙ sym (count-++ ex (groups xs) q)

  -- only the rows count
  groups_ones : (gs : Lines) → groups gs ≡ groups (ones gs)
  unfolding exchange_groups ones
  groups_ones [] = refl
  groups_ones (e ∷ gs) = ap (λ t. exchanged M.group (total_row M n) e.0 (read_group M n own e.0) (delta e.0) ++ t) (groups_ones gs)

  every_ones : (f : Row → Bool) (gs : Lines) → every_line (λ k c. f k) gs ≡ every_line (λ k c. f k) (ones gs)
  unfolding every_line ones
  every_ones f [] = refl
  every_ones f (e ∷ gs) = ap (λ t. cond (f e.0) t false) (every_ones f gs)

  abbrev xs : Lines
  xs = gathered (map_rows (listed is) d)

  pub group_rows : EachRow (IsGroup n) xs
  group_rows = rows_gathered (IsGroup n) [] (map_rows (listed is) d) tt (rows_made (IsGroup n) (listed is) (λ r. listed_key is r (omega arith)) d)

  pub exchanges_are : Canonical d → exchanges M n own delta xs ≡ change_of_own_total M j is own d
  unfolding change_of_aggregate
  exchanges_are c =
      equal_counts _ _ (canonical_exchanges M n small own delta xs (ascends_gathered [] (map_rows (listed is) d) tt) group_rows) (canonical_collect _) (λ q.
      count_exchanges xs q ∙ ap (λ (ys : Lines). count ys q) (groups_ones xs ∙ ap groups (sym (touched_rows (listed is) d c)) ∙ sym (groups_ones (touched_groups (listed is) d)))
      ∙ sym (count_collect (groups (touched_groups (listed is) d)) q))

  pub fits_are : Canonical d → every_line (fit_after M n own delta) xs ≡ touched_groups_fit M j is own d
  fits_are c =
      every_ones (λ k. fit_after M n own delta k (pos 0)) xs ∙ ap (λ (ys : Lines). every_line (fit_after M n own delta) ys) (sym (touched_rows (listed is) d c))
      ∙ sym (every_ones (λ k. fit_after M n own delta k (pos 0)) (touched_groups (listed is) d))
