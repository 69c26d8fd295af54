-- The rows of groups: keys of n values, the order of rows that begin with them, and what such a row shows. Assumes nothing.
--     order_append        the front decides, then the rest
--     Key n k             k is n values, and zeros behind
--     listed_key, keys_project      the listed columns of a row are a key, so all groups have keys
--     order_keys, order_rows, order_below_group      keys, the rows of groups, and the row below a group compare by the values
--     row_form, row_key, row_copies, row_shown       what the row of a group is, and what stands in it
use Rattle.std.proofs.Common.{◌≡◌, ℕ, zero, suc, ◌+◌, ◌-◌, ◌≤◌, List, [], ◌∷◌, ◌++◌, length, get_or, take, drop, replicate, ℤ, pos, negsuc, ◌<ℤ◌, Ordering, Less, Equal, Greater, sym, refl, ap, ◌∙◌, ap₂, append_assoc, arith, take-take, take_at}
use lib.Seq.{take-append-add}
use Rattle.std.specs.Ordering.{ordering_then, int_cmp}
use Rattle.bag.specs.Order.{Row, row_order}
use Rattle.bag.specs.Columns.{column_of, columns_at, padded, listed}
use Rattle.bag.specs.Bag.{Lines, EachRow}
use Rattle.bag.specs.Operators.{project}
use Rattle.bag.specs.Propagation.{below_group}
use Rattle.bag.specs.RowOrder.{column_less, order_itself}
use Rattle.bag.proofs.EachRow.{rows_project, rows_made}

then_assoc : (a b c : Ordering) → ordering_then a (ordering_then b c) ≡ ordering_then (ordering_then a b) c
then_assoc Less b c = refl
then_assoc Equal b c = refl
then_assoc Greater b c = refl

then_equal : (a : Ordering) → ordering_then a Equal ≡ a
then_equal Less = refl
then_equal Equal = refl
then_equal Greater = refl

pub order_append : (a b x y : Row) → length a ≡ length b → row_order (a ++ x) (b ++ y) ≡ ordering_then (row_order a b) (row_order x y)
unfolding row_order
order_append [] [] x y e = refl
order_append [] (q ∷ b) x y e = let z : ◌≡◌ {A = ℕ} 0 1 = omega arith in absurd (omega arith)
order_append (p ∷ a) [] x y e = let z : ◌≡◌ {A = ℕ} 0 1 = omega arith in absurd (omega arith)
order_append (p ∷ a) (q ∷ b) x y e = ap (ordering_then (int_cmp p q)) (order_append a b x y (omega arith)) ∙ then_assoc (int_cmp p q) (row_order a b) (row_order x y)

-- a key of n values: they stand first, and 0 behind
abbrev pub Key : ℕ → Row → Type 0
Key n k = (length (take n k) ≡ n) × (k ≡ padded (take n k))

take_eight : (a z : List ℤ) (n : ℕ) → length a ≡ n → n ≤ 8 → take 8 (a ++ z) ≡ a ++ take (8 - n) z
take_eight a z n e h = let f : 8 ≡ length a + (8 - n) = omega arith in ap (λ k. take k (a ++ z)) f ∙ take-append-add a z (8 - n)

-- the listed columns of a row are a key
pub length_columns_at : (is : List ℕ) (r : Row) → length (columns_at is r) ≡ length is
unfolding columns_at
length_columns_at [] r = refl
length_columns_at (i ∷ is) r = ap suc (length_columns_at is r)

pub take_padded : (a : List ℤ) (n : ℕ) → length a ≡ n → n ≤ 8 → take n (padded a) ≡ a
take_padded a n e h = take-take n 8 (a ++ replicate 8 (pos 0)) h ∙ take_at a (replicate 8 (pos 0)) n e

pub listed_key : (is : List ℕ) (r : Row) → length is ≤ 8 → Key (length is) (listed is r)
listed_key is r h =
    let t = take_padded (columns_at is r) (length is) (length_columns_at is r) h in
    (ap length t ∙ length_columns_at is r, ap padded (sym t))

pub keys_project : (is : List ℕ) (xs : Lines) → length is ≤ 8 → EachRow (Key (length is)) (project (listed is) xs)
keys_project is xs h = rows_project (Key (length is)) (listed is) xs (rows_made (Key (length is)) (listed is) (λ r. listed_key is r h) xs)

module _ (n : ℕ) (small : n ≤ 7) where
  pub order_keys : (k q : Row) → Key n k → Key n q → row_order k q ≡ row_order (take n k) (take n q)
  order_keys k q h i =
      ap₂ row_order (h.1 ∙ form k h) (i.1 ∙ form q i)
      ∙ order_append (take n k) (take n q) z z (h.0 ∙ sym i.0) ∙ ap (ordering_then (row_order (take n k) (take n q))) (order_itself z) ∙ then_equal _
    where
      z : Row
      z = take (8 - n) (replicate 8 (pos 0))

      form : (k : Row) → Key n k → padded (take n k) ≡ take n k ++ z
      form k h = take_eight (take n k) (replicate 8 (pos 0)) n h.0 (omega arith)

  pub row_form : (k : Row) (c : ℤ) (w : List ℤ) → Key n k → padded (take n k ++ (c ∷ w)) ≡ take n k ++ (c ∷ take (7 - n) (w ++ replicate 8 (pos 0)))
  row_form k c w h =
      ap (take 8) (append_assoc (take n k) (c ∷ w) (replicate 8 (pos 0)))
      ∙ take_eight (take n k) (c ∷ (w ++ replicate 8 (pos 0))) n h.0 (omega arith)
      ∙ (let e : 8 - n ≡ suc (7 - n) = omega arith in ap (λ j. take n k ++ take j (c ∷ (w ++ replicate 8 (pos 0)))) e)

  pub order_rows : (k q : Row) (c d : ℤ) (w y : List ℤ) → Key n k → Key n q → row_order k q ≡ Less → row_order (padded (take n k ++ (c ∷ w))) (padded (take n q ++ (d ∷ y))) ≡ Less
  order_rows k q c d w y h i l =
      ap₂ row_order (row_form k c w h) (row_form q d y i)
      ∙ order_append (take n k) (take n q) _ _ (h.0 ∙ sym i.0)
      ∙ ap (λ o. ordering_then o (row_order (c ∷ take (7 - n) (w ++ replicate 8 (pos 0))) (d ∷ take (7 - n) (y ++ replicate 8 (pos 0))))) (sym (order_keys k q h i) ∙ l)

  pub order_below_group : (k q : Row) (c : ℤ) (w : List ℤ) → Key n k → Key n q → negsuc 2147483647 <ℤ c → row_order (below_group n k) (padded (take n q ++ (c ∷ w))) ≡ ordering_then (row_order k q) Less
  unfolding row_order
  order_below_group k q c w h i l =
      ap (row_order (below_group n k)) (row_form q c w i)
      ∙ order_append (take n k) (take n q) _ _ (h.0 ∙ sym i.0)
      ∙ ap₂ ordering_then (sym (order_keys k q h i))
      ((let e : 8 - n ≡ suc (7 - n) = omega arith in ap (λ j. row_order (replicate j (negsuc 2147483647)) (c ∷ take (7 - n) (w ++ replicate 8 (pos 0)))) e)
      ∙ ap (λ o. ordering_then o (row_order (replicate (7 - n) (negsuc 2147483647)) (take (7 - n) (w ++ replicate 8 (pos 0))))) (column_less (negsuc 2147483647) c l))

  -- what the row of a key shows
  pub row_key : (k : Row) (c : ℤ) (w : List ℤ) → Key n k → take n (padded (take n k ++ (c ∷ w))) ≡ take n k
  row_key k c w h = ap (take n) (row_form k c w h) ∙ take_at (take n k) _ n h.0

  at_end_of_front : (a t : List ℤ) (c : ℤ) (n : ℕ) → length a ≡ n → get_or (a ++ (c ∷ t)) n (pos 0) ≡ c
  at_end_of_front [] t c zero e = refl
  at_end_of_front [] t c (suc n) e = let z : ◌≡◌ {A = ℕ} 0 1 = omega arith in absurd (omega arith)
  at_end_of_front (x ∷ a) t c zero e = let z : ◌≡◌ {A = ℕ} 0 1 = omega arith in absurd (omega arith)
  at_end_of_front (x ∷ a) t c (suc n) e = at_end_of_front a t c n (omega arith)

  behind_front : (a t : List ℤ) (c : ℤ) (n : ℕ) → length a ≡ n → drop (suc n) (a ++ (c ∷ t)) ≡ t
  behind_front [] t c zero e = refl
  behind_front [] t c (suc n) e = let z : ◌≡◌ {A = ℕ} 0 1 = omega arith in absurd (omega arith)
  behind_front (x ∷ a) t c zero e = let z : ◌≡◌ {A = ℕ} 0 1 = omega arith in absurd (omega arith)
  behind_front (x ∷ a) t c (suc n) e = behind_front a t c n (omega arith)

  pub row_copies : (k : Row) (c : ℤ) (w : List ℤ) → Key n k → column_of (padded (take n k ++ (c ∷ w))) n ≡ c
  row_copies k c w h = ap (λ r. get_or r n (pos 0)) (row_form k c w h) ∙ at_end_of_front (take n k) _ c n h.0

  pub row_shown : (k : Row) (c : ℤ) (w : List ℤ) (m : ℕ) → Key n k → length w ≡ m → m ≤ 7 - n → take m (drop (suc n) (padded (take n k ++ (c ∷ w)))) ≡ w
  row_shown k c w m h e l =
      ap (λ r. take m (drop (suc n) r)) (row_form k c w h) ∙ ap (take m) (behind_front (take n k) _ c n h.0)
      ∙ take-take m (7 - n) (w ++ replicate 8 (pos 0)) l ∙ take_at w (replicate 8 (pos 0)) m e
