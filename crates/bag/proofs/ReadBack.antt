-- What a total's own bag says of a group: its rows are those of the groups in order, and each says its copies and its value. Assumes nothing.
--     total_is_rows       a total is the rows of its groups
--     count_total         a row is there exactly if it is the row of its group and the group has copies
--     read_group_is       copies and value of a group, read back from the total
--     own_total_is        so the change worked out from the total's own rows is the change worked out from the bag below
use Rattle.std.proofs.Common.{◌≡◌, ℕ, suc, ◌+◌, ◌≤◌, Bool, true, false, cond, List, [], ◌∷◌, ◌++◌, length, take, drop, ℤ, pos, negsuc, ◌+ℤ◌, ◌≤ℤ◌, ◌<ℤ◌, Some, Ordering, Less, Equal, Greater, sym, refl, ap, ◌∙◌, subst, ap₂, arith}
use lib.IntN.{+ℤ_idl, +ℤ_idr}
use Rattle.std.proofs.lemmas.Int.{ints}
use Rattle.std.specs.Ordering.{ordering_then, is_eq}
use Rattle.bag.specs.Order.{Row, row_order}
use Rattle.bag.specs.Columns.{column_of, padded, listed}
use Rattle.bag.specs.Bag.{Line, Lines, is_zero, is_positive, if_equal, copies_at, count, collect, Before, Canonical, Positive, IsBag, EachRow, every_line, if_less, next}
use Rattle.bag.specs.Group.{Group, GroupLaws, AddsUp, sum_over}
use Rattle.bag.specs.Measure.{Measure, ShowingLaws}
use Rattle.bag.specs.Operators.{map_rows, project, pick, support, group_copies, worth_if_equal, group_value, map_groups, aggregate, group_key, total_copies, column_worth, total_value, total_row, total, all_groups_fit}
use Rattle.bag.specs.Propagation.{exchanged, touched_groups, exchange_groups, change_of_aggregate, below_group, group_of, change_of_total, read_row, read_group, change_of_own_total}
use Rattle.bag.proofs.Numbers.{zero_is, positive_above}
use Rattle.bag.specs.RowOrder.{order_itself, order_equal, greater_less, less_greater}
use Rattle.bag.proofs.CanonicalForm.{count_before, count_head, canonical_collect}
use Rattle.bag.proofs.Moves.{collect_canonical, canonical_project, project_copies}
use Rattle.bag.proofs.GroupMoves.{group_value_ok}
use Rattle.bag.proofs.OperatorBags.{count_low, positive_map_rows, bag_project}
use Rattle.bag.proofs.GroupKeys.{Key, keys_project, order_keys, order_rows, order_below_group, row_key, row_copies, row_shown}

module _ {V : Type 0} (M : Measure V) (n : ℕ) (small : n ≤ 7) (val : Row → V) where
  abbrev row_here : Row → ℤ → Row
  row_here k c = total_row M n k c (val k)

  before_map_groups : (k : Row) (c : ℤ) (gs : Lines) → Key n k → EachRow (Key n) gs → Before k gs → Before (row_here k c) (map_groups row_here gs)
  unfolding map_groups
  before_map_groups k c [] h ks b = tt
  before_map_groups k c (e ∷ gs) h ks b = order_rows n small k e.0 c e.1 (M.columns (val k)) (M.columns (val e.0)) h ks.0 b

  -- the rows of groups in order are in order
  pub canonical_map_groups : (gs : Lines) → EachRow (Key n) gs → Canonical gs → Canonical (map_groups row_here gs)
  unfolding map_groups
  canonical_map_groups [] ks c = tt
  canonical_map_groups (e ∷ gs) ks c = (refl, before_map_groups e.0 e.1 gs ks.0 ks.1 c.1, canonical_map_groups gs ks.1 c.2)

  -- a row that is not the row of a group with copies is not there
  apart : (q : Row) (e : Line) (o : Ordering) → Key n e.0 → row_order e.0 (group_key n q) ≡ o → (o ≡ Equal → ⊥) → copies_at q (row_here e.0 e.1) (pos 1) ≡ pos 0
  apart q e o h p never = by (row_order (row_here e.0 e.1) q) refl
    where
      own_key : row_here e.0 e.1 ≡ q → group_key n q ≡ e.0
      own_key r = ap (group_key n) (sym r) ∙ ap padded (row_key n small e.0 e.1 (M.columns (val e.0)) h) ∙ sym h.1

      by : (k : Ordering) → row_order (row_here e.0 e.1) q ≡ k → if_equal k (pos 1) ≡ pos 0
      by Less r = refl
      by Equal r = absurd (never (sym p ∙ ap (row_order e.0) (own_key (order_equal _ q r)) ∙ order_itself e.0))
      by Greater r = refl

  pub count_rows_of_groups : (q : Row) (gs : Lines) → EachRow (Key n) gs → Canonical gs →
      count (map_groups row_here gs) q ≡ cond (is_zero (count gs (group_key n q))) (pos 0) (copies_at q (row_here (group_key n q) (count gs (group_key n q))) (pos 1))
  unfolding map_groups count
  count_rows_of_groups q [] ks c = refl
  count_rows_of_groups q (e ∷ gs) ks c = by (row_order e.0 (group_key n q)) refl (count_rows_of_groups q gs ks.1 c.2)
    where
      shown : ℤ → ℤ
      shown m = cond (is_zero m) (pos 0) (copies_at q (row_here (group_key n q) m) (pos 1))

      by : (o : Ordering) → row_order e.0 (group_key n q) ≡ o → count (map_groups row_here gs) q ≡ shown (count gs (group_key n q)) →
          copies_at q (row_here e.0 e.1) (pos 1) +ℤ count (map_groups row_here gs) q ≡ shown (if_equal o e.1 +ℤ count gs (group_key n q))
      by Less p ih = ap₂ (λ a b. a +ℤ b) (apart q e Less ks.0 p (λ z. let y : ◌≡◌ {A = ℕ} 0 1 = cc in omega arith)) ih ∙ +ℤ_idl (shown (count gs (group_key n q))) ∙ ap shown (sym (+ℤ_idl (count gs (group_key n q))))
      by Equal p ih =
          let k : e.0 ≡ group_key n q = order_equal e.0 (group_key n q) p in
          let none : count gs (group_key n q) ≡ pos 0 = count_before (group_key n q) gs c.2 (subst (λ (a : Row). Before a gs) k c.1) in
          ap₂ (λ a b. a +ℤ b) (ap (λ a. copies_at q (row_here a e.1) (pos 1)) k) (ih ∙ ap shown none) ∙ +ℤ_idr (copies_at q (row_here (group_key n q) e.1) (pos 1))
          ∙ sym (ap (λ m. shown (e.1 +ℤ m)) none ∙ ap shown (+ℤ_idr e.1) ∙ ap (λ t. cond t (pos 0) (copies_at q (row_here (group_key n q) e.1) (pos 1))) c.0)
      by Greater p ih = ap₂ (λ a b. a +ℤ b) (apart q e Greater ks.0 p (λ z. let y : ◌≡◌ {A = ℕ} 0 1 = cc in omega arith)) ih ∙ +ℤ_idl (shown (count gs (group_key n q))) ∙ ap shown (sym (+ℤ_idl (count gs (group_key n q))))

module _ {V : Type 0} {ok : V → Type 0} (M : Measure V) (S : ShowingLaws ok M) (n : ℕ) (room : n + 1 + M.shows ≤ 8) (val : Row → V) (val_ok : (k : Row) → ok (val k)) where
  abbrev row_of_group : Row → ℤ → Row
  row_of_group k c = total_row M n k c (val k)

  -- every group's value fits
  abbrev pub Fit : Lines → Type 0
  Fit [] = Unit {0}
  Fit (e ∷ gs) = (M.fits (val e.0) ≡ true) × Fit gs

  -- the group's copies and value, or none
  abbrev group_shown : Row → ℤ → ℤ × V
  group_shown k c = (c, cond (is_zero c) M.group.zero (val k))

  low_lt : (c : ℤ) → is_positive c ≡ true → negsuc 2147483647 <ℤ c
  low_lt c h = let a = positive_above c h in omega (arith, ints)

  found : (gs : Lines) → EachRow (Key n) gs → Canonical gs → Positive gs → Fit gs → (k : Row) → Key n k → read_group M n (map_groups row_of_group gs) k ≡ group_shown k (count gs k)
  unfolding map_groups next count
  found [] ks c p f k h = refl
  found (e ∷ gs) ks c p f k h = by (row_order k e.0) refl (found gs ks.1 c.2 p.1 f.1 k h)
    where
      small : n ≤ 7
      small = omega arith

      r : Row
      r = row_of_group e.0 e.1

      at : (o : Ordering) → row_order k e.0 ≡ o → row_order (below_group n k) r ≡ ordering_then o Less
      at o q = order_below_group n small k e.0 e.1 (M.columns (val e.0)) h ks.0 (low_lt e.1 p.0) ∙ ap (λ x. ordering_then x Less) q

      -- the test that the row is the group's
      test : is_eq (row_order (take n r) (take n k)) ≡ is_eq (row_order e.0 k)
      test = ap (λ x. is_eq (row_order x (take n k))) (row_key n small e.0 e.1 (M.columns (val e.0)) ks.0) ∙ ap is_eq (sym (order_keys n small e.0 k ks.0 h))

      pass : (t : Bool) → is_eq (row_order e.0 k) ≡ t → read_row M n k (Some (r, pos 1)) ≡ cond t (column_of r n, M.reads (take M.shows (drop (suc n) r))) (pos 0, M.group.zero)
      pass t q = ap (λ b. cond b (column_of r n, M.reads (take M.shows (drop (suc n) r))) (pos 0, M.group.zero)) (test ∙ q)

      read : ◌≡◌ {A = ℤ × V} (column_of r n, M.reads (take M.shows (drop (suc n) r))) (e.1, val e.0)
      read =
          let w = S.as_many (val e.0) (val_ok e.0) f.0 in
          ap₂ {C = ℤ × V} (λ x y. (x, y)) (row_copies n small e.0 e.1 (M.columns (val e.0)) ks.0)
          (ap M.reads (row_shown n small e.0 e.1 (M.columns (val e.0)) M.shows ks.0 w (omega arith)) ∙ S.read_back (val e.0) (val_ok e.0) f.0)

      by : (o : Ordering) → row_order k e.0 ≡ o → read_row M n k (next (map_groups row_of_group gs) (below_group n k)) ≡ group_shown k (count gs k) →
          read_row M n k (if_less (row_order (below_group n k) r) (Some (r, pos 1)) (next (map_groups row_of_group gs) (below_group n k))) ≡ group_shown k (if_equal (row_order e.0 k) e.1 +ℤ count gs k)
      by Less q ih =
          ap (λ o. read_row M n k (if_less o (Some (r, pos 1)) (next (map_groups row_of_group gs) (below_group n k)))) (at Less q)
          ∙ pass false (ap is_eq (less_greater k e.0 q))
          ∙ ap (group_shown k) (sym (count_before k (e ∷ gs) c q))
      by Equal q ih =
          let i : k ≡ e.0 = order_equal k e.0 q in
          ap (λ o. read_row M n k (if_less o (Some (r, pos 1)) (next (map_groups row_of_group gs) (below_group n k)))) (at Equal q)
          ∙ pass true (ap is_eq (ap (row_order e.0) i ∙ order_itself e.0))
          ∙ read
          ∙ ap (λ b. (e.1, cond b M.group.zero (val e.0))) (sym c.0)
          ∙ ap₂ group_shown (sym i) (sym (count_head e gs c) ∙ ap (count (e ∷ gs)) (sym i))
      by Greater q ih =
          ap (λ o. read_row M n k (if_less o (Some (r, pos 1)) (next (map_groups row_of_group gs) (below_group n k)))) (at Greater q)
          ∙ ih
          ∙ ap (group_shown k) (sym (ap (λ o. if_equal o e.1 +ℤ count gs k) (greater_less k e.0 q) ∙ +ℤ_idl (count gs k)))

-- a group of no copies in a bag has the value zero
module _ {V : Type 0} {ok : V → Type 0} (G : Group V) (L : GroupLaws ok G) (key : Row → Row) (worth : Row → ℤ → V) (C : AddsUp ok G worth) where
  absent : (xs : Lines) → Positive xs → (k : Row) → group_copies key xs k ≡ pos 0 → group_value G key worth xs k ≡ G.zero
  unfolding group_copies group_value sum_over count map_rows
  absent [] p k h = refl
  absent (e ∷ xs) p k h = by (row_order (key e.0) k) h (absent xs p.1 k) (low xs p.1)
    where
      low : (xs : Lines) → Positive xs → pos 0 ≤ℤ group_copies key xs k
      low xs p = count_low (map_rows key xs) (positive_map_rows key xs p) k

      never : (m n : ℤ) → is_positive m ≡ true → pos 0 ≤ℤ n → m +ℤ n ≡ pos 0 → ⊥
      never m n a b c = let d = positive_above m a in omega (arith, ints)

      by : (o : Ordering) → if_equal o e.1 +ℤ group_copies key xs k ≡ pos 0 → (group_copies key xs k ≡ pos 0 → group_value G key worth xs k ≡ G.zero) → pos 0 ≤ℤ group_copies key xs k → G.plus (worth_if_equal G o (worth e.0 e.1)) (group_value G key worth xs k) ≡ G.zero
      by Less q ih l = L.neutral _ (group_value_ok G L key worth C xs k) ∙ ih (sym (+ℤ_idl (group_copies key xs k)) ∙ q)
      by Equal q ih l = let z : ⊥ = never e.1 (group_copies key xs k) p.0 l q in absurd z
      by Greater q ih l = L.neutral _ (group_value_ok G L key worth C xs k) ∙ ih (sym (+ℤ_idl (group_copies key xs k)) ∙ q)

module _ {V : Type 0} {ok : V → Type 0} (M : Measure V) (C : AddsUp ok M.group M.worth) (j : ℕ) where
  pub column_worth_adds_up : AddsUp ok M.group (column_worth M j)
  column_worth_adds_up = record { ok_worth = λ r. C.ok_worth (column_of r j); at_zero = λ r. C.at_zero (column_of r j); adds = λ r. C.adds (column_of r j) }

pub total_is_rows : {V : Type 0} (M : Measure V) (j : ℕ) (is : List ℕ) (xs : Lines) → length is ≤ 7 →
    total M j is xs ≡ map_groups (λ k n. total_row M (length is) k n (group_value M.group (listed is) (column_worth M j) xs k)) (pick is xs)
unfolding aggregate project
total_is_rows M j is xs small =
    collect_canonical _ (canonical_map_groups M (length is) small (group_value M.group (listed is) (column_worth M j) xs) (pick is xs) (keys_project is xs (omega arith)) (canonical_collect _))

pub count_total : {V : Type 0} (M : Measure V) (j : ℕ) (is : List ℕ) (xs : Lines) → length is ≤ 7 → (q : Row) → count (total M j is xs) q
    ≡ cond (is_zero (total_copies is xs (group_key (length is) q))) (pos 0)
    (copies_at q (total_row M (length is) (group_key (length is) q) (total_copies is xs (group_key (length is) q)) (total_value M j is xs (group_key (length is) q))) (pos 1))
count_total M j is xs small q =
    ap (λ ys. count ys q) (total_is_rows M j is xs small)
    ∙ count_rows_of_groups M (length is) small (total_value M j is xs) q (pick is xs) (keys_project is xs (omega arith)) (canonical_project (listed is) xs)
    ∙ ap (λ m. cond (is_zero m) (pos 0) (copies_at q (total_row M (length is) (group_key (length is) q) m (total_value M j is xs (group_key (length is) q))) (pos 1))) (project_copies (listed is) xs (group_key (length is) q))

module _ {V : Type 0} {ok : V → Type 0} (M : Measure V) (L : GroupLaws ok M.group) (C : AddsUp ok M.group M.worth) (S : ShowingLaws ok M) (j : ℕ) (is : List ℕ) (room : length is + 1 + M.shows ≤ 8) (xs : Lines) (bag : IsBag xs) where
  abbrev val : Row → V
  val k = group_value M.group (listed is) (column_worth M j) xs k

  val_ok : (k : Row) → ok (val k)
  val_ok k = group_value_ok M.group L (listed is) (column_worth M j) (column_worth_adds_up M C j) xs k

  fit : (gs : Lines) → every_line (λ k n. M.fits (val k)) gs ≡ true → Fit M S (length is) room val val_ok gs
  unfolding every_line
  fit [] h = tt
  fit (e ∷ gs) h = by (M.fits (val e.0)) refl h (fit gs)
    where
      by : (t : Bool) → M.fits (val e.0) ≡ t → cond t (every_line (λ k n. M.fits (val k)) gs) false ≡ true → (every_line (λ k n. M.fits (val k)) gs ≡ true → Fit M S (length is) room val val_ok gs) → Fit M S (length is) room val val_ok (e ∷ gs)
      by true p h ih = (p, ih h)
      by false p h ih = let z : ⊥ = cc in absurd z

  module _ (fits : all_groups_fit M j is xs ≡ true) where
    pub read_group_is : (k : Row) → Key (length is) k → read_group M (length is) (total M j is xs) k ≡ group_of M j is xs k
    read_group_is k h =
        ap (λ b. read_group M (length is) b k) (total_is_rows M j is xs (omega arith))
        ∙ found M S (length is) room val val_ok (pick is xs) (keys_project is xs (omega arith)) (bag_project (listed is) xs bag).0 (bag_project (listed is) xs bag).1 (fit (pick is xs) fits) k h
        ∙ ap (λ c. (c, cond (is_zero c) M.group.zero (val k))) (project_copies (listed is) xs k)
        ∙ ap (λ v. (group_copies (listed is) xs k, v)) (by (is_zero (group_copies (listed is) xs k)) refl)
      where
        by : (t : Bool) → is_zero (group_copies (listed is) xs k) ≡ t → cond t M.group.zero (val k) ≡ val k
        by true e = sym (absent M.group L (listed is) (column_worth M j) (column_worth_adds_up M C j) xs bag.1 k (zero_is (group_copies (listed is) xs k) e))
        by false e = refl

    exchange_read : (d t : Lines) → EachRow (Key (length is)) t →
        exchange_groups M.group (listed is) (column_worth M j) (total_row M (length is)) (read_group M (length is) (total M j is xs)) d t
        ≡ exchange_groups M.group (listed is) (column_worth M j) (total_row M (length is)) (group_of M j is xs) d t
    unfolding exchange_groups
    exchange_read d [] h = refl
    exchange_read d (e ∷ t) h =
        ap₂ (λ (o : ℤ × V) rest. exchanged M.group (total_row M (length is)) e.0 o (group_copies (listed is) d e.0, group_value M.group (listed is) (column_worth M j) d e.0) ++ rest)
        (read_group_is e.0 h.0) (exchange_read d t h.1)

    pub own_total_is : (d : Lines) → change_of_own_total M j is (total M j is xs) d ≡ change_of_total M j is xs d
    unfolding change_of_aggregate
    own_total_is d = ap collect (exchange_read d (touched_groups (listed is) d) (keys_project is (support d) (omega arith)))
