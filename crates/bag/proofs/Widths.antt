-- How wide the rows of an operator's bag are. Assumes nothing.
--     width_padded        a row filled up with zeros is as wide as what was filled up
--     operators_keep_widths, total_keeps_its_width      of each operator
use Rattle.std.proofs.Common.{◌≡◌, ℕ, zero, suc, ◌+◌, ◌≤◌, Bool, true, false, cond, List, [], ◌∷◌, ◌++◌, length, get_or, take, replicate, ℤ, pos, refl, arith}
use Rattle.bag.specs.Order.{Row}
use Rattle.bag.specs.Columns.{columns_at, padded, listed, followed, agree, OfWidth}
use Rattle.bag.specs.Bag.{Lines, EachRow, every_line}
use Rattle.bag.specs.Measure.{Measure, MeasureLaws}
use Rattle.bag.specs.Operators.{project, products, join, both, monus, group_value, map_groups, aggregate, column_worth, total_row}
use Rattle.bag.specs.Laws.{OperatorsKeepWidths, TotalKeepsItsWidth}
use Rattle.bag.proofs.GroupMoves.{group_value_ok}
use Rattle.bag.proofs.EachRow.{rows_collect, rows-++, rows_select, rows_map_counts, rows_made, rows_paired}
use Rattle.bag.proofs.ColumnKinds.{length_padded}
use Rattle.bag.proofs.GroupKeys.{length_columns_at}
use Rattle.bag.proofs.ReadBack.{column_worth_adds_up}

zeros : (n m i : ℕ) → get_or (take n (replicate m (pos 0))) i (pos 0) ≡ pos 0
zeros zero m i = refl
zeros (suc n) zero i = refl
zeros (suc n) (suc m) zero = refl
zeros (suc n) (suc m) (suc i) = zeros n m i

behind : (zs : List ℤ) (n m i : ℕ) → get_or zs i (pos 0) ≡ pos 0 → get_or (take n (zs ++ replicate m (pos 0))) i (pos 0) ≡ pos 0
behind [] n m i h = zeros n m i
behind (z ∷ zs) zero m i h = refl
behind (z ∷ zs) (suc n) m zero h = h
behind (z ∷ zs) (suc n) m (suc i) h = behind zs n m i h

-- the columns of a list from w on are 0
abbrev ZeroFrom : ℕ → List ℤ → Type 0
ZeroFrom w zs = (i : ℕ) → w ≤ i → get_or zs i (pos 0) ≡ pos 0

pub width_padded : (w : ℕ) (zs : List ℤ) → ZeroFrom w zs → OfWidth w (padded zs)
width_padded w zs h = (length_padded zs, λ i l. behind zs 8 8 i (h i l))

past_end : (zs : List ℤ) (w : ℕ) → length zs ≤ w → ZeroFrom w zs
past_end [] w l i h = refl
past_end (z ∷ zs) w l zero h = let y : ⊥ = omega arith in absurd y
past_end (z ∷ zs) zero l (suc i) h = let y : ⊥ = omega arith in absurd y
past_end (z ∷ zs) (suc w) l (suc i) h = past_end zs w (omega arith) i (omega arith)

past_front : (a b : List ℤ) (v w : ℕ) → length a + v ≤ w → ZeroFrom v b → ZeroFrom w (a ++ b)
past_front [] b v w l h i k = h i (omega arith)
past_front (z ∷ a) b v w l h zero k = let y : ⊥ = omega arith in absurd y
past_front (z ∷ a) b v zero l h (suc i) k = let y : ⊥ = omega arith in absurd y
past_front (z ∷ a) b v (suc w) l h (suc i) k = past_front a b v w (omega arith) h i (omega arith)

length_take_most : (n : ℕ) (a : List ℤ) → length (take n a) ≤ n
length_take_most zero a = omega arith
length_take_most (suc n) [] = omega arith
length_take_most (suc n) (z ∷ a) = let h = length_take_most n a in omega arith

width_listed : (is : List ℕ) (r : Row) → OfWidth (length is) (listed is r)
width_listed is r = let e = length_columns_at is r in width_padded (length is) (columns_at is r) (past_end (columns_at is r) (length is) (omega arith))

width_followed : (w v : ℕ) (a b : Row) → OfWidth v b → OfWidth (w + v) (followed w a b)
width_followed w v a b h = let l = length_take_most w a in width_padded (w + v) (take w a ++ b) (past_front (take w a) b v (w + v) (omega arith) h.1)

pub operators_keep_widths : OperatorsKeepWidths
unfolding project join both monus
operators_keep_widths = record {
  of_keep = λ w a relation o xs h. rows_select (OfWidth w) _ xs h;
  of_pick = λ is xs. rows_collect (OfWidth (length is)) _ (rows_made (OfWidth (length is)) (listed is) (width_listed is) xs);
  of_pair = λ w v ps l r k. rows_collect (OfWidth (w + v)) _ (wide w v ps l r k);
  of_both = λ w l r h k. rows_collect (OfWidth w) _ (rows-++ (OfWidth w) l r h k);
  of_less = λ w l r h. rows_map_counts (OfWidth w) _ l h;
}
  where
    wide : (w v : ℕ) (ps : List (ℕ × ℕ)) (l r : Lines) → EachRow (OfWidth v) r → EachRow (OfWidth (w + v)) (products (agree ps) (followed w) l r)
    wide w v ps l r k = rows_paired (OfWidth v) (OfWidth (w + v)) (agree ps) (followed w) (λ a b q. width_followed w v a b q) l r k

module _ {V : Type 0} {ok : V → Type 0} (M : Measure V) (L : MeasureLaws ok M) (n : ℕ) (room : n + 1 + M.shows ≤ 8) where
  width_total_row : (k : Row) (c : ℤ) (v : V) → ok v → M.fits v ≡ true → OfWidth (n + 1 + M.shows) (total_row M n k c v)
  width_total_row k c v o f =
      let a = length_take_most n k in
      let b = (L.showing (omega arith)).as_many v o f in
      width_padded (n + 1 + M.shows) (take n k ++ (c ∷ M.columns v)) (past_front (take n k) (c ∷ M.columns v) (1 + M.shows) (n + 1 + M.shows) (omega arith) (past_end (c ∷ M.columns v) (1 + M.shows) (omega arith)))

  width_groups : (val : Row → V) → ((k : Row) → ok (val k)) → (gs : Lines) → every_line (λ k n. M.fits (val k)) gs ≡ true → EachRow (OfWidth (n + 1 + M.shows)) (map_groups (λ k c. total_row M n k c (val k)) gs)
  unfolding map_groups every_line
  width_groups val o [] h = tt
  width_groups val o (e ∷ gs) h = by (M.fits (val e.0)) refl h (width_groups val o gs)
    where
      by : (t : Bool) → M.fits (val e.0) ≡ t → cond t (every_line (λ k n. M.fits (val k)) gs) false ≡ true → (every_line (λ k n. M.fits (val k)) gs ≡ true → EachRow (OfWidth (n + 1 + M.shows)) (map_groups (λ k c. total_row M n k c (val k)) gs)) →
          EachRow (OfWidth (n + 1 + M.shows)) (map_groups (λ k c. total_row M n k c (val k)) (e ∷ gs))
      by true p h ih = (width_total_row e.0 e.1 (val e.0) (o e.0) p, ih h)
      by false p h ih = let z : ⊥ = cc in absurd z

pub total_keeps_its_width : {V : Type 0} {ok : V → Type 0} (M : Measure V) → MeasureLaws ok M → TotalKeepsItsWidth M
unfolding aggregate
total_keeps_its_width M L j is xs room fits =
    rows_collect (OfWidth (length is + 1 + M.shows)) _
    (width_groups M L (length is) room (group_value M.group (listed is) (column_worth M j) xs)
    (group_value_ok M.group L.group_laws (listed is) (column_worth M j) (column_worth_adds_up M L.adds_up j) xs) (project (listed is) xs) fits)
