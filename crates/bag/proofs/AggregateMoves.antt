-- How the rows of an aggregate move: only those of touched groups, the old row out and the new row in. Assumes nothing.
--     Exact g xs          each line's number is what g says of its row
--     sum_same_worth      a sum asks no more than what each row is worth
--     count_aggregate     the count of an aggregate, as a sum over any list that covers its groups
--     Touched d gs        gs has the group of each row that d changes
--     aggregate_moves     the exchange of the touched groups' rows leads from the old aggregate to the new
use Rattle.std.proofs.Common.{◌≡◌, Bool, true, false, cond, [], ◌∷◌, ◌++◌, ℤ, pos, ◌+ℤ◌, ◌-ℤ◌, neg_ℤ, Ordering, sym, refl, ap, ◌∙◌, subst, ap₂, arith}
use mathlib.Core.Path.{fun_ext}
use lib.IntN.{+ℤ_comm, +ℤ_idl, +ℤ_idr}
use Rattle.std.proofs.lemmas.Int.{ints}
use Rattle.bag.specs.Order.{Row, row_order}
use Rattle.bag.specs.Bag.{Lines, is_zero, if_equal, count, with_line, collect, Before, Canonical, negated, difference}
use Rattle.bag.specs.Group.{Group, GroupLaws, AddsUp, sum_over, every_integer, integers}
use Rattle.bag.specs.Operators.{map_rows, project, map_counts, one_if_any, support, group_copies, group_value, map_groups, aggregate}
use Rattle.bag.specs.Changes.{Moves}
use Rattle.bag.specs.Propagation.{row_if_any}
use Rattle.bag.proofs.Numbers.{one_if_not_zero, one_if_either}
use Rattle.bag.specs.Integers.{integer_laws, if_equal_adds, if_equal_zero, count_collect, count-++, count_negated}
use Rattle.bag.proofs.CanonicalForm.{before_transitive, count_head, canonical_collect}
use Rattle.bag.proofs.Moves.{difference_moves, canonical_difference, sum_moves, canonical_project, project_copies}
use Rattle.bag.proofs.RowByRow.{count_support, canonical_support}
use Rattle.bag.proofs.JoinMoves.{sum_plus}
use Rattle.bag.proofs.GroupMoves.{group_value_ok, group_value_moves, group_copies_moves}

-- each line's number is what g says of its row
abbrev Exact : (Row → ℤ) → Lines → Type 0
Exact g [] = Unit {0}
Exact g (e ∷ xs) = (g e.0 ≡ e.1) × (is_zero e.1 ≡ false) × Exact g xs

exact_cons : (a : Row) (n : ℤ) (g : Row → ℤ) (xs : Lines) → Before a xs → Canonical xs → Exact g xs → Exact (λ q. if_equal (row_order a q) n +ℤ g q) xs
exact_cons a n g [] b c x = tt
exact_cons a n g (e ∷ xs) b c x = (ap (λ o. if_equal o n +ℤ g e.0) b ∙ +ℤ_idl (g e.0) ∙ x.0, x.1, exact_cons a n g xs (before_transitive a e.0 xs b c.1) c.2 x.2)

exact_self : (xs : Lines) → Canonical xs → Exact (count xs) xs
unfolding count
exact_self [] c = tt
exact_self (e ∷ xs) c = (head, c.0, exact_cons e.0 e.1 (count xs) xs c.1 c.2 (exact_self xs c.2))
  where
    head : if_equal (row_order e.0 e.0) e.1 +ℤ count xs e.0 ≡ e.1
    head = count_head e xs c

sum_nothing : (f : Row → ℤ → ℤ) (g : Row → ℤ) (xs : Lines) → Exact g xs → ((k : Row) → f k (g k) ≡ pos 0) → sum_over integers f xs ≡ pos 0
unfolding sum_over
sum_nothing f g [] x h = refl
sum_nothing f g (e ∷ xs) x h = ap₂ (λ a b. a +ℤ b) (ap (f e.0) (sym x.0) ∙ h e.0) (sum_nothing f g xs x.2 h)

-- a sum asks no more than what each row is worth
pub sum_same_worth : (f : Row → ℤ → ℤ) → AddsUp every_integer integers f → (xs ys : Lines) → ((k : Row) → f k (count xs k) ≡ f k (count ys k)) → sum_over integers f xs ≡ sum_over integers f ys
sum_same_worth f C xs ys h =
    sum_moves integers integer_laws f C ys (difference ys xs) xs (difference_moves ys xs)
    ∙ ap (λ k. sum_over integers f ys +ℤ k) (sum_nothing f (count (difference ys xs)) (difference ys xs) (exact_self (difference ys xs) (canonical_difference ys xs)) each_none)
    ∙ +ℤ_idr _
  where
    each_none : (k : Row) → f k (count (difference ys xs) k) ≡ pos 0
    each_none k = let a = h k in let b = ap (f k) (difference_moves ys xs k) ∙ C.adds k (count ys k) (count (difference ys xs) k) in omega (arith, ints)

-- m copies of the row r of a group of n copies, as counted at q
abbrev shown_at : Row → ℤ → Row → ℤ → ℤ
shown_at q n r m = cond (is_zero n) (pos 0) (if_equal (row_order r q) m)

shown_at_adds_up : (q : Row) (n : Row → ℤ) (r : Row → Row) → AddsUp every_integer integers (λ k m. shown_at q (n k) (r k) m)
shown_at_adds_up q n r = record { ok_worth = λ a n. tt; at_zero = λ k. at_zero (is_zero (n k)) (row_order (r k) q); adds = λ k. adds (is_zero (n k)) (row_order (r k) q) }
  where
    at_zero : (t : Bool) (o : Ordering) → cond t (pos 0) (if_equal o (pos 0)) ≡ pos 0
    at_zero true o = refl
    at_zero false o = if_equal_zero o

    adds : (t : Bool) (o : Ordering) (a b : ℤ) → cond t (pos 0) (if_equal o (a +ℤ b)) ≡ cond t (pos 0) (if_equal o a) +ℤ cond t (pos 0) (if_equal o b)
    adds true o a b = refl
    adds false o a b = if_equal_adds o a b

pub with_line_one : (r : Row) (n : ℤ) (xs : Lines) → is_zero n ≡ false → with_line r (one_if_any n) xs ≡ (r, pos 1) ∷ xs
with_line_one r n xs h = ap (λ k. with_line r k xs) (one_if_not_zero n h)

count_map_groups : (q : Row) (row : Row → ℤ → Row) (n : Row → ℤ) (gs : Lines) → Exact n gs → count (map_groups row gs) q ≡ sum_over integers (λ k m. shown_at q (n k) (row k (n k)) m) (support gs)
unfolding count map_groups sum_over support map_counts
count_map_groups q row n [] x = refl
count_map_groups q row n (e ∷ gs) x =
    ap₂ (λ a b. a +ℤ b) here (count_map_groups q row n gs x.2)
    ∙ sym (ap (sum_over integers (λ k m. shown_at q (n k) (row k (n k)) m)) (with_line_one e.0 e.1 (map_counts (λ q n. one_if_any n) gs) x.1))
  where
    here : if_equal (row_order (row e.0 e.1) q) (pos 1) ≡ shown_at q (n e.0) (row e.0 (n e.0)) (pos 1)
    here = rw (x.0, x.1)

-- u has 1 at each row that has copies
abbrev Covers : Lines → (Row → ℤ) → Type 0
Covers u n = (k : Row) → is_zero (n k) ≡ false → count u k ≡ pos 1

-- the rows of either
abbrev union : Lines → Lines → Lines
union a b = support (collect (support a ++ support b))

count_union : (a b : Lines) → Canonical a → Canonical b → (k : Row) → count (union a b) k ≡ one_if_any (one_if_any (count a k) +ℤ one_if_any (count b k))
count_union a b c d k = count_support (collect (support a ++ support b)) (canonical_collect _) k ∙ ap one_if_any (count_collect (support a ++ support b) k ∙ count-++ (support a) (support b) k ∙ ap₂ (λ x y. x +ℤ y) (count_support a c k) (count_support b d k))

covers_left : (a b : Lines) → Canonical a → Canonical b → Covers (union a b) (count a)
covers_left a b c d k h = count_union a b c d k ∙ one_if_either (count a k) (count b k) h

covers_right : (a b : Lines) → Canonical a → Canonical b → Covers (union a b) (count b)
covers_right a b c d k h = count_union a b c d k ∙ ap one_if_any (+ℤ_comm (one_if_any (count a k)) (one_if_any (count b k))) ∙ one_if_either (count b k) (count a k) h

module _ {V : Type 0} {ok : V → Type 0} (G : Group V) (L : GroupLaws ok G) (key : Row → Row) (worth : Row → ℤ → V) (C : AddsUp ok G worth) (row-for : Row → ℤ → V → Row) where
  abbrev row_of : Lines → Row → Row
  row_of xs k = row-for k (group_copies key xs k) (group_value G key worth xs k)

  abbrev group_at : Lines → Row → Row → ℤ → ℤ
  group_at xs q k m = shown_at q (group_copies key xs k) (row_of xs k) m

  at_cover : (xs u : Lines) (q : Row) → Covers u (group_copies key xs) → sum_over integers (group_at xs q) (support (project key xs)) ≡ sum_over integers (group_at xs q) u
  unfolding project group_copies
  at_cover xs u q h = sum_same_worth (group_at xs q) (shown_at_adds_up q (group_copies key xs) (row_of xs)) (support (project key xs)) u λ k. by k (is_zero (group_copies key xs k)) refl
    where
      by : (k : Row) (t : Bool) → is_zero (group_copies key xs k) ≡ t → cond t (pos 0) (if_equal (row_order (row_of xs k) q) (count (support (project key xs)) k)) ≡ cond t (pos 0) (if_equal (row_order (row_of xs k) q) (count u k))
      by k true e = refl
      by k false e = ap (if_equal (row_order (row_of xs k) q)) (count_support (project key xs) (canonical_collect _) k ∙ ap one_if_any (count_collect (map_rows key xs) k) ∙ one_if_not_zero (group_copies key xs k) e ∙ sym (h k e))

  exact_project : (xs : Lines) → Exact (group_copies key xs) (project key xs)
  unfolding project group_copies
  exact_project xs = exact_at (collect (map_rows key xs)) (count (collect (map_rows key xs))) (λ k. count_collect (map_rows key xs) k) (exact_self (collect (map_rows key xs)) (canonical_collect _))
    where
      exact_at : (ys : Lines) (g : Row → ℤ) → ((k : Row) → g k ≡ count (map_rows key xs) k) → Exact g ys → Exact (count (map_rows key xs)) ys
      exact_at ys g h x = subst (λ (f : Row → ℤ). Exact f ys) (fun_ext h) x

  -- the count of an aggregate: a sum over any list that covers its groups
  pub count_aggregate : (xs u : Lines) (q : Row) → Covers u (group_copies key xs) → count (aggregate G key worth row-for xs) q ≡ sum_over integers (group_at xs q) u
  unfolding aggregate
  count_aggregate xs u q h =
      count_collect _ q
      ∙ count_map_groups q (λ k n. row-for k n (group_value G key worth xs k)) (group_copies key xs) (project key xs) (exact_project xs)
      ∙ at_cover xs u q h

  abbrev group_row : Lines → Row → Lines
  group_row xs k = row_if_any (group_copies key xs k) (row_of xs k)

  -- the old rows of the touched groups out, the new ones in
  unfoldable pub exchange : Lines → Lines → Lines → Lines
  exchange old new [] = []
  exchange old new (e ∷ t) = (negated (group_row old e.0) ++ group_row new e.0) ++ exchange old new t

  count_row : (xs : Lines) (q k : Row) → count (group_row xs k) q ≡ group_at xs q k (pos 1)
  unfolding count
  count_row xs q k = by (is_zero (group_copies key xs k))
    where
      by : (t : Bool) → count (cond t [] ((row_of xs k, pos 1) ∷ [])) q ≡ cond t (pos 0) (if_equal (row_order (row_of xs k) q) (pos 1))
      by true = refl
      by false = +ℤ_idr _

  abbrev step : Lines → Lines → Row → Row → ℤ → ℤ
  step old new q k m = group_at new q k m -ℤ group_at old q k m

  step_adds_up : (old new : Lines) (q : Row) → AddsUp every_integer integers (step old new q)
  step_adds_up old new q = record { ok_worth = λ a n. tt; at_zero = λ k. ap₂ (λ a b. a -ℤ b) (N.at_zero k) (O.at_zero k); adds = λ k m n. adds k m n (N.adds k m n) (O.adds k m n) }
    where
      N : AddsUp every_integer integers (group_at new q)
      N = shown_at_adds_up q (group_copies key new) (row_of new)

      O : AddsUp every_integer integers (group_at old q)
      O = shown_at_adds_up q (group_copies key old) (row_of old)

      adds : (k : Row) (m n : ℤ) → group_at new q k (m +ℤ n) ≡ group_at new q k m +ℤ group_at new q k n → group_at old q k (m +ℤ n) ≡ group_at old q k m +ℤ group_at old q k n → step old new q k (m +ℤ n) ≡ step old new q k m +ℤ step old new q k n
      adds k m n a b = sums (group_at new q k (m +ℤ n)) (group_at old q k (m +ℤ n)) (group_at new q k m) (group_at old q k m) (group_at new q k n) (group_at old q k n) a b
        where
          sums : (x y a b c d : ℤ) → x ≡ a +ℤ c → y ≡ b +ℤ d → x -ℤ y ≡ (a -ℤ b) +ℤ (c -ℤ d)
          sums x y a b c d p r = omega (arith, ints)

  count_exchange : (old new : Lines) (q : Row) (t : Lines) → Canonical t → count (exchange old new t) q ≡ sum_over integers (step old new q) (support t)
  unfolding exchange sum_over support map_counts count
  count_exchange old new q [] c = refl
  count_exchange old new q (e ∷ t) c =
      sums (group_at old q e.0 (pos 1)) (count-++ (negated (group_row old e.0) ++ group_row new e.0) (exchange old new t) q) (count-++ (negated (group_row old e.0)) (group_row new e.0) q) (count_negated (group_row old e.0) q ∙ ap neg_ℤ (count_row old q e.0)) (count_row new q e.0) (count_exchange old new q t c.2)
      ∙ sym (ap (sum_over integers (step old new q)) (with_line_one e.0 e.1 (map_counts (λ q n. one_if_any n) t) c.0))
    where
      sums : {all front r o n S g : ℤ} (w : ℤ) → all ≡ front +ℤ r → front ≡ o +ℤ n → o ≡ neg_ℤ w → n ≡ g → r ≡ S → all ≡ (g -ℤ w) +ℤ S
      sums w a b c d e = omega (arith, ints)

  -- t has the key of each row that d changes
  pub record Touched (d t : Lines) : Type 0 where
    pub in_order : Canonical t
    pub no_copies : (k : Row) → is_zero (count t k) ≡ true → group_copies key d k ≡ pos 0
    pub no_value : (k : Row) → is_zero (count t k) ≡ true → group_value G key worth d k ≡ G.zero

  pub aggregate_moves : (old d new t : Lines) → Moves old d new → Touched d t → Moves (aggregate G key worth row-for old) (exchange old new t) (aggregate G key worth row-for new)
  aggregate_moves old d new t m T q =
      count_aggregate new u q (λ k h. covers_left (union a b) t canon_ab T.in_order k (rw (covers_right a b (canonical_project key old) (canonical_project key new) k (rw (project_copies key new k) h))))
      ∙ sum_plus (group_at new q) (group_at old q) (step old new q) (λ k n. apart (group_at new q k n) (group_at old q k n)) u
      ∙ sym (ap₂ (λ x y. x +ℤ y)
      (count_aggregate old u q (λ k h. covers_left (union a b) t canon_ab T.in_order k (rw (covers_left a b (canonical_project key old) (canonical_project key new) k (rw (project_copies key old k) h)))))
      (count_exchange old new q t T.in_order ∙ sum_same_worth (step old new q) (step_adds_up old new q) (support t) u (λ k. by k (is_zero (count t k)) refl)))
    where
      a : Lines
      a = project key old

      b : Lines
      b = project key new

      canon_ab : Canonical (union a b)
      canon_ab = canonical_support _ (canonical_collect _)

      u : Lines
      u = union (union a b) t

      apart : (x y : ℤ) → x ≡ y +ℤ (x -ℤ y)
      apart x y = omega (arith, ints)

      gone : (x y : ℤ) → x ≡ y → x -ℤ y ≡ pos 0
      gone x y e = omega (arith, ints)

      still : (k : Row) → is_zero (count t k) ≡ true → (n : ℤ) → step old new q k n ≡ pos 0
      still k e n = gone (group_at new q k n) (group_at old q k n) (ap₂ (λ c r. shown_at q c r n) c (ap₂ (row-for k) c v))
        where
          c : group_copies key new k ≡ group_copies key old k
          c = group_copies_moves G L key worth C old d new m k ∙ ap (λ x. group_copies key old k +ℤ x) (T.no_copies k e) ∙ +ℤ_idr _

          v : group_value G key worth new k ≡ group_value G key worth old k
          v = group_value_moves G L key worth C old d new m k ∙ ap (G.plus (group_value G key worth old k)) (T.no_value k e) ∙ L.commutative _ _ (group_value_ok G L key worth C old k) L.ok_zero ∙ L.neutral _ (group_value_ok G L key worth C old k)

      by : (k : Row) (s : Bool) → is_zero (count t k) ≡ s → step old new q k (count (support t) k) ≡ step old new q k (count u k)
      by k true e = still k e _ ∙ sym (still k e _)
      by k false e = ap (step old new q k) (count_support t T.in_order k ∙ one_if_not_zero (count t k) e ∙ sym (covers_right (union a b) t canon_ab T.in_order k e))
