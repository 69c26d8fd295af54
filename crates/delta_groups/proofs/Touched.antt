-- The rows that were gathered are the groups that the change touches. Assumes nothing.
--     has_row q xs         some line of xs is of the row q
--     ones xs              each line of xs with one copy
--     touched_rows         the gathered lines and the touched groups list the same rows
--     rows_gathered        what holds of each image holds of each gathered row
--     count_at             a line of ascending rows has the count of its row
use Rattle.std.proofs.Common.{◌≡◌, ℕ, zero, suc, ◌<◌, Bool, true, false, cond, not, ◌||◌, [], ◌∷◌, length, get_or, ℤ, pos, negsuc, ◌+ℤ◌, ◌≤ℤ◌, Ordering, Less, Equal, Greater, sym, refl, ap, ◌∙◌, subst, ap₂, arith}
use lib.IntN.{+ℤ_idl, +ℤ_idr}
use Rattle.std.proofs.lemmas.Int.{ints}
use Rattle.std.specs.Ordering.{is_eq}
use Rattle.bag.specs.Order.{Row, row_order}
use Rattle.bag.specs.Bag.{Line, Lines, is_zero, is_positive, if_equal, count, Before, Canonical, Positive, EachRow}
use Rattle.bag.specs.Operators.{map_rows, support, map_counts, one_if_any, group_copies}
use Rattle.bag.specs.Propagation.{touched_groups}
use Rattle.bag.proofs.Numbers.{positive_above}
use Rattle.bag.specs.RowOrder.{order_itself, order_equal}
use Rattle.bag.proofs.CanonicalForm.{before_transitive, equal_counts}
use Rattle.bag.proofs.Moves.{project_copies}
use Rattle.bag.proofs.OperatorBags.{count_low, positive_map_rows, positive_map_counts, bag_project}
use Rattle.bag.proofs.RowByRow.{canonical_support}
use Rattle.bag.proofs.AggregateMoves.{with_line_one}
use Rattle.table.specs.Order.{by_order}
use Rattle.delta.proofs.Counts.{not_zero_is}
use Rattle.delta_groups.specs.Nets.{Ascends, added, gathered_onto, gathered}
use Rattle.delta_groups.proofs.Gathered.{count_absent, ascends_gathered}

-- ---- which rows are listed

unfoldable has_row : Row → Lines → Bool
has_row q [] = false
has_row q (e ∷ xs) = is_eq (row_order e.0 q) || has_row q xs

swap : (a b c : Bool) → a || (b || c) ≡ b || (a || c)
swap true true c = refl
swap true false c = refl
swap false true c = refl
swap false false c = refl

twice : (a b : Bool) → a || b ≡ a || (a || b)
twice true b = refl
twice false b = refl

turn : (a b c : Bool) → (a || b) || c ≡ b || (a || c)
turn true true c = refl
turn true false c = refl
turn false true c = refl
turn false false c = refl

has_added : (q r : Row) (n : ℤ) (xs : Lines) → has_row q (added r n xs) ≡ is_eq (row_order r q) || has_row q xs
unfolding has_row added
has_added q r n [] = refl
has_added q r n (e ∷ xs) = by (row_order r e.0) refl (has_added q r n xs)
  where
    by : (o : Ordering) → row_order r e.0 ≡ o → has_row q (added r n xs) ≡ is_eq (row_order r q) || has_row q xs →
        has_row q (by_order o ((r, n) ∷ (e ∷ xs)) ((r, e.1 +ℤ n) ∷ xs) (e ∷ added r n xs)) ≡ is_eq (row_order r q) || (is_eq (row_order e.0 q) || has_row q xs)
    by Less p ih = refl
    by Equal p ih = twice (is_eq (row_order r q)) (has_row q xs) ∙ ap (λ x. is_eq (row_order r q) || (is_eq (row_order x q) || has_row q xs)) (order_equal r e.0 p)
    by Greater p ih = ap (λ t. is_eq (row_order e.0 q) || t) ih ∙ swap (is_eq (row_order e.0 q)) (is_eq (row_order r q)) (has_row q xs)

has_gathered : (q : Row) (xs ys : Lines) → has_row q (gathered_onto xs ys) ≡ has_row q xs || has_row q ys
unfolding has_row gathered_onto
has_gathered q xs [] = last (has_row q xs)
  where
    last : (a : Bool) → a ≡ a || false
    last true = refl
    last false = refl
has_gathered q xs (y ∷ ys) =
    has_gathered q (added y.0 y.1 xs) ys ∙ ap (λ t. t || has_row q ys) (has_added q y.0 y.1 xs)
    ∙ turn (is_eq (row_order y.0 q)) (has_row q xs) (has_row q ys)

has_positive : (q : Row) (ys : Lines) → Positive ys → has_row q ys ≡ not (is_zero (count ys q))
unfolding has_row count
has_positive q [] p = refl
has_positive q (e ∷ ys) p = by (row_order e.0 q) (has_positive q ys p.1) (count_low ys p.1 q)
  where
    above : (m n : ℤ) → is_positive m ≡ true → pos 0 ≤ℤ n → m +ℤ n ≡ pos 0 → ⊥
    above m n a b e = let d = positive_above m a in omega (arith, ints)

    by : (o : Ordering) → has_row q ys ≡ not (is_zero (count ys q)) → pos 0 ≤ℤ count ys q → is_eq o || has_row q ys ≡ not (is_zero (if_equal o e.1 +ℤ count ys q))
    by Less ih low = ih ∙ ap (λ z. not (is_zero z)) (sym (+ℤ_idl (count ys q)))
    by Equal ih low = sym (ap not (not_zero_is (e.1 +ℤ count ys q) (above e.1 (count ys q) p.0 low)))
    by Greater ih low = ih ∙ ap (λ z. not (is_zero z)) (sym (+ℤ_idl (count ys q)))

has_support : (key : Row → Row) (q : Row) (d : Lines) → Canonical d → has_row q (map_rows key (support d)) ≡ has_row q (map_rows key d)
unfolding has_row map_rows support map_counts
has_support key q [] c = refl
has_support key q (e ∷ d) c =
    ap (λ (t : Lines). has_row q (map_rows key t)) (with_line_one e.0 e.1 (support d) c.0) ∙ ap (λ t. is_eq (row_order (key e.0) q) || t) (has_support key q d c.2)

positive_support : (d : Lines) → Positive (support d)
unfolding support
positive_support d = positive_map_counts (λ q n. one_if_any n) (λ q n. low n) d
  where
    low : (n : ℤ) → pos 0 ≤ℤ one_if_any n
    low (pos zero) = omega (arith, ints)
    low (pos (suc n)) = omega (arith, ints)
    low (negsuc n) = omega (arith, ints)

has_touched : (key : Row → Row) (q : Row) (d : Lines) → Canonical d → has_row q (touched_groups key d) ≡ has_row q (gathered (map_rows key d))
unfolding has_row group_copies
has_touched key q d c =
    has_positive q (touched_groups key d) (bag_project key (support d) (canonical_support d c, positive_support d)).1
    ∙ ap (λ z. not (is_zero z)) (project_copies key (support d) q)
    ∙ sym (has_positive q (map_rows key (support d)) (positive_map_rows key (support d) (positive_support d)))
    ∙ has_support key q d c
    ∙ sym (has_gathered q [] (map_rows key d))

-- ---- one copy of each

unfoldable pub ones : Lines → Lines
ones [] = []
ones (e ∷ xs) = (e.0, pos 1) ∷ ones xs

before_ones : (r : Row) (xs : Lines) → Before r xs → Before r (ones xs)
unfolding ones
before_ones r [] b = tt
before_ones r (e ∷ xs) b = b

canonical_ones : (xs : Lines) → Ascends xs → Canonical (ones xs)
unfolding ones
canonical_ones [] a = tt
canonical_ones (e ∷ xs) a = (refl, before_ones e.0 xs a.0, canonical_ones xs a.1)

has_absent : (r : Row) (xs : Lines) → Ascends xs → Before r xs → count (ones xs) r ≡ pos 0
unfolding ones
has_absent r xs a b = count_absent r (ones xs) (up xs a) (before_ones r xs b)
  where
    up : (xs : Lines) → Ascends xs → Ascends (ones xs)
    up [] a = tt
    up (e ∷ xs) a = (before_ones e.0 xs a.0, up xs a.1)

count_ones : (q : Row) (xs : Lines) → Ascends xs → count (ones xs) q ≡ cond (has_row q xs) (pos 1) (pos 0)
unfolding ones count has_row
count_ones q [] a = refl
count_ones q (e ∷ xs) a = by (row_order e.0 q) refl (count_ones q xs a.1)
  where
    by : (o : Ordering) → row_order e.0 q ≡ o → count (ones xs) q ≡ cond (has_row q xs) (pos 1) (pos 0) → if_equal o (pos 1) +ℤ count (ones xs) q ≡ cond (is_eq o || has_row q xs) (pos 1) (pos 0)
    by Less p ih = +ℤ_idl (count (ones xs) q) ∙ ih
    by Equal p ih = ap (λ z. pos 1 +ℤ z) (has_absent q xs a.1 (subst (λ (r : Row). Before r xs) (order_equal e.0 q p) a.0))
    by Greater p ih = +ℤ_idl (count (ones xs) q) ∙ ih

pub ascends_canonical : (xs : Lines) → Canonical xs → Ascends xs
ascends_canonical [] c = tt
ascends_canonical (e ∷ xs) c = (c.1, ascends_canonical xs c.2)

pub touched_rows : (key : Row → Row) (d : Lines) → Canonical d → ones (touched_groups key d) ≡ ones (gathered (map_rows key d))
touched_rows key d c =
    let t = touched_groups key d in
    let xs = gathered (map_rows key d) in
    let a = ascends_canonical t (bag_project key (support d) (canonical_support d c, positive_support d)).0 in
    let b = ascends_gathered [] (map_rows key d) tt in
    equal_counts (ones t) (ones xs) (canonical_ones t a) (canonical_ones xs b) (λ q.
    count_ones q t a ∙ ap (λ h. cond h (pos 1) (pos 0)) (has_touched key q d c) ∙ sym (count_ones q xs b))

-- ---- rows one by one

module _ (Q : Row → Type 0) where
  rows_added : (r : Row) (n : ℤ) (xs : Lines) → Q r → EachRow Q xs → EachRow Q (added r n xs)
  unfolding added
  rows_added r n [] h a = (h, tt)
  rows_added r n (e ∷ xs) h a = by (row_order r e.0) (rows_added r n xs h a.1)
    where
      by : (o : Ordering) → EachRow Q (added r n xs) → EachRow Q (by_order o ((r, n) ∷ (e ∷ xs)) ((r, e.1 +ℤ n) ∷ xs) (e ∷ added r n xs))
      by Less ih = (h, a)
      by Equal ih = (h, a.1)
      by Greater ih = (a.0, ih)

  pub rows_gathered : (xs ys : Lines) → EachRow Q xs → EachRow Q ys → EachRow Q (gathered_onto xs ys)
  unfolding gathered_onto
  rows_gathered xs [] a b = a
  rows_gathered xs (y ∷ ys) a b = rows_gathered (added y.0 y.1 xs) ys (rows_added y.0 y.1 xs b.0 a) b.1

  pub row_at : (xs : Lines) (i : ℕ) (e : Line) → i < length xs → EachRow Q xs → Q (get_or xs i e).0
  row_at [] i e h a = absurd (let z : ⊥ = omega arith in z)
  row_at (x ∷ xs) zero e h a = a.0
  row_at (x ∷ xs) (suc i) e h a = row_at xs i e (omega arith) a.1

pub count_at : (xs : Lines) (i : ℕ) (e : Line) → Ascends xs → i < length xs → count xs (get_or xs i e).0 ≡ (get_or xs i e).1
unfolding count
count_at [] i e a h = absurd (let z : ⊥ = omega arith in z)
count_at (x ∷ xs) zero e a h = ap₂ (λ m n. if_equal m x.1 +ℤ n) (order_itself x.0) (count_absent x.0 xs a.1 a.0) ∙ +ℤ_idr x.1
count_at (x ∷ xs) (suc i) e a h = ap (λ m. if_equal m x.1 +ℤ count xs (get_or xs i e).0) (lower xs i a.1 a.0 (omega arith)) ∙ +ℤ_idl (count xs (get_or xs i e).0) ∙ count_at xs i e a.1 (omega arith)
  where
    lower : (ys : Lines) (i : ℕ) → Ascends ys → Before x.0 ys → i < length ys → row_order x.0 (get_or ys i e).0 ≡ Less
    lower [] i a b h = absurd (let z : ⊥ = omega arith in z)
    lower (y ∷ ys) zero a b h = b
    lower (y ∷ ys) (suc i) a b h = lower ys i a.1 (before_transitive x.0 y.0 ys b a.0) (omega arith)
