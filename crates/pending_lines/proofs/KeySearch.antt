-- Where a key belongs among ascending ones, and that a binary search finds it. Assumes nothing.
--     ordered_places      keys ascend by place
--     rank_is             the rank, from what stands at each place
--     searched            a binary search by shelf and row answers where the key stands or would go in
use Rattle.std.proofs.Common.{◌≡◌, ℕ, zero, suc, ◌<◌, ◌≤◌, List, [], ◌∷◌, length, get_or, Result, Ok, Err, Ordering, Less, Equal, Greater, sym, refl, ap, ◌∙◌, subst, ⊎_elim, arith}
use Rattle.std.specs.Ordering.{ordering_index}
use Rattle.std.specs.List.Sorted.{IsSearchInRange, IsBinarySearchResult, IsNonDecreasingBy}
use Rattle.std.proofs.lemmas.List.Sorted.{IsNonDecreasingBy-from_default}
use Rattle.std.proofs.lemmas.List.{get_or-map, length-map}
use Rattle.std.proofs.lemmas.Bool.{cases_lt, cases_eq, lt-ltb, le-ltb, eq-eqb, ne_eqb}
use Rattle.bag.specs.declared.lines.ChangeLine.{ChangeLine}
use Rattle.bag.specs.Lines.{blank_change_line}
use Rattle.bag.specs.Order.{Row, row_order, key_order}
use Rattle.bag.specs.RowOrder.{order_equal, order_transitive}
use Rattle.bag.specs.Bag.{Line, Lines, if_less, Before, Canonical}
use Rattle.bag.proofs.CanonicalForm.{before_transitive}
use Rattle.settling.specs.Keys.{key, keyed, changes}
use Rattle.settling.proofs.KeyOrder.{key_less, key_greater, key_same}
use Rattle.pending_lines.specs.ChangeLists.{no_line, rank, found_at}
use Rattle.pending_lines.proofs.PendingPlaces.{present, absent}

first_less : (d e : Line) (xs : Lines) (j : ℕ) → Before e.0 xs → Canonical xs → j < length xs → row_order e.0 (get_or xs j d).0 ≡ Less
first_less d e [] j b c l = absurd (let z : ⊥ = omega arith in z)
first_less d e (f ∷ xs) zero b c l = b
first_less d e (f ∷ xs) (suc j) b c l = first_less d e xs j (before_transitive e.0 f.0 xs b c.1) c.2 (omega arith)

pub ordered_places : (d : Line) (xs : Lines) → Canonical xs → (i j : ℕ) → i < j → j < length xs → row_order (get_or xs i d).0 (get_or xs j d).0 ≡ Less
ordered_places d [] c i j l m = absurd (let z : ⊥ = omega arith in z)
ordered_places d (e ∷ xs) c i zero l m = absurd (let z : ⊥ = omega arith in z)
ordered_places d (e ∷ xs) c zero (suc j) l m = first_less d e xs j c.1 c.2 (omega arith)
ordered_places d (e ∷ xs) c (suc i) (suc j) l m = ordered_places d xs c.2 i j (omega arith) (omega arith)

pub rank_is : (d : Line) (k : Row) (xs : Lines) (i : ℕ) → i ≤ length xs → ((j : ℕ) → j < i → row_order (get_or xs j d).0 k ≡ Less) → (i < length xs → row_order (get_or xs i d).0 k ≡ Less → ⊥) → rank xs k ≡ i
unfolding rank
rank_is d k [] i l h n = omega arith
rank_is d k (e ∷ xs) zero l h n = by (row_order e.0 k) (n (omega arith))
  where
    by : (o : Ordering) → (o ≡ Less → ⊥) → if_less o (suc (rank xs k)) 0 ≡ 0
    by Less n = absurd (n refl)
    by Equal n = refl
    by Greater n = refl
rank_is d k (e ∷ xs) (suc i) l h n =
    let first : row_order e.0 k ≡ Less = h 0 (omega arith) in
    rw first (ap suc (rank_is d k xs i (omega arith) (λ j m. h (suc j) (omega arith)) (λ m. n (omega arith))))

pub key_orders : (m n : ℕ) (a b : Row) → row_order (key m a) (key n b) ≡ key_order m a n b
key_orders m n a b =
    ⊎_elim (λ (l : m < n). rw (lt-ltb m n l) (key_less m n a b l))
    (λ (l : n ≤ m). ⊎_elim (λ (e : m ≡ n). rw (le-ltb m n l, eq-eqb m n e) (ap (λ i. row_order (key m a) (key i b)) (sym e) ∙ key_same m a b))
    (λ (d : m ≡ n → ⊥). rw (le-ltb m n l, ne_eqb m n d) (key_greater m n a b (omega (arith, d))))
    (cases_eq m n))
    (cases_lt m n)

-- a key's comparison with k is no greater than that of a later key
rises : (a b k : Row) → row_order a b ≡ Less → ordering_index (row_order a k) ≤ ordering_index (row_order b k)
rises a b k l = by (row_order a k) (row_order b k) refl refl
  where
    not_less : (o : Ordering) → row_order a k ≡ o → (o ≡ Less → ⊥) → row_order a k ≡ Less → ⊥
    not_less o e n h = n (sym e ∙ h)

    by : (o p : Ordering) → row_order a k ≡ o → row_order b k ≡ p → ordering_index o ≤ ordering_index p
    by Less p e f = omega arith
    by Equal Less e f = absurd (not_less Equal e (λ h. let z : ⊥ = cc in z) (order_transitive a b k l f))
    by Equal Equal e f = omega arith
    by Equal Greater e f = omega arith
    by Greater Less e f = absurd (not_less Greater e (λ h. let z : ⊥ = cc in z) (order_transitive a b k l f))
    by Greater Equal e f = absurd (not_less Greater e (λ h. let z : ⊥ = cc in z) (subst (λ q. row_order a q ≡ Less) (order_equal b k f) l))
    by Greater Greater e f = omega arith

module _ (ls : List ChangeLine) (c : Canonical (changes ls)) (s : ℕ) (r : Row) where
  abbrev order : ChangeLine → Ordering
  order l = key_order l.node l.row s r

  long : length (changes ls) ≡ length ls
  long = length-map ls keyed

  at : (i : ℕ) → i < length ls → row_order (get_or (changes ls) i no_line).0 (key s r) ≡ order (get_or ls i blank_change_line)
  at i l =
      let p = get_or ls i blank_change_line in
      ap (λ (e : Line). row_order e.0 (key s r)) (get_or-map keyed ls i blank_change_line no_line l) ∙ key_orders p.node s p.row r

  comparisons_rise : IsNonDecreasingBy (λ l. ordering_index (order l)) ls
  comparisons_rise = IsNonDecreasingBy-from_default (λ l. ordering_index (order l)) ls blank_change_line (λ i j le in_range.
      ⊎_elim (λ (lt : i < j).
      let m = rises (get_or (changes ls) i no_line).0 (get_or (changes ls) j no_line).0 (key s r) (ordered_places no_line (changes ls) c i j lt (omega (arith, long, in_range))) in
      subst (λ o. ordering_index o ≤ ordering_index (order (get_or ls j blank_change_line))) (at i (omega arith)) (subst (λ o. ordering_index (row_order (get_or (changes ls) i no_line).0 (key s r)) ≤ ordering_index o) (at j in_range) m))
      (λ (ge : j ≤ i). let same : i ≡ j = omega arith in subst (λ n. ordering_index (order (get_or ls i blank_change_line)) ≤ ordering_index (order (get_or ls n blank_change_line))) same (omega arith))
      (cases_lt i j))

  pub searched : (found : Result ℕ ℕ) → IsSearchInRange found (length ls) → IsBinarySearchResult order ls found → found ≡ found_at (changes ls) (key s r)
  searched (Ok i) in_range equal =
      let here : row_order (get_or (changes ls) i no_line).0 (key s r) ≡ Equal = at i in_range ∙ equal blank_change_line in
      let is : rank (changes ls) (key s r) ≡ i =
      rank_is no_line (key s r) (changes ls) i (omega (arith, long, in_range))
      (λ j m. subst (λ q. row_order (get_or (changes ls) j no_line).0 q ≡ Less) (order_equal (get_or (changes ls) i no_line).0 (key s r) here) (ordered_places no_line (changes ls) c j i m (omega (arith, long, in_range))))
      (λ m h. let z : ⊥ = cc in z) in
      let p = present (key s r) (changes ls) c (omega (arith, long, in_range, is)) (ap (λ j. row_order (get_or (changes ls) j no_line).0 (key s r)) is ∙ here) in
      rw p.some (ap Ok (sym is))
  searched (Err i) in_range parted =
      let split = parted comparisons_rise in
      let is : rank (changes ls) (key s r) ≡ i =
      rank_is no_line (key s r) (changes ls) i (omega (arith, long, in_range))
      (λ j m. at j (omega arith) ∙ split.0 j blank_change_line (omega arith) m)
      (λ m h. let g = sym (at i (omega (arith, long, m))) ∙ h in let t = split.1 i blank_change_line (omega arith) (omega (arith, long, m)) in let z : ⊥ = cc in z) in
      let a = absent (key s r) (changes ls) c (λ m h.
      let g = sym (at i (omega (arith, long, m, is))) ∙ ap (λ j. row_order (get_or (changes ls) j no_line).0 (key s r)) (sym is) ∙ h in
      let t = split.1 i blank_change_line (omega arith) (omega (arith, long, m, is)) in let z : ⊥ = cc in z) in
      rw a.none (ap Err (sym is))
