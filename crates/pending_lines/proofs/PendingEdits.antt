-- The lines in use after one was put in or taken out by place. Assumes nothing.
--     front_opened, front_closed      of a run that is `opened` or `closed`
--     take_set_inside                 a line written in place
--     changed_gone, changed_kept      what a change made anew makes of the changes
--     map_inserted, map_removed       what that makes of what is read off the lines
--     canonical_changed               a change made anew leaves a canonical list
--     read                            what stands at a place of the run and at that of the lines
--     sum_made                        a change made anew in 32 bits, where it fits them
--     kept, gone, kept_canonical, gone_canonical      the lines of a run after a line was written back, or left
--     some_bits, some_number          a number is 0 exactly if its bits are
--     added_none                      no copies more change nothing
use Rattle.std.proofs.Common.{Fits, SFits, w32, of_z, to_z, Bool, cond, subst, pos, neg_ℤ, ◌-ℤ◌, ◌≡◌, ℕ, zero, suc, ◌+◌, ◌-◌, ◌<◌, ◌≤◌, true, false, List, [], ◌∷◌, ◌++◌, map, length, get_or, take, drop, set, ℤ, ◌+ℤ◌, sym, refl, ap, ◌∙◌, ap₂, arith}
use Rattle.std.proofs.lemmas.List.{length-map, get_or-map, get_or-take, map-set, length-append, length-take, length-drop, take_at, take-take, map-append, take-map, drop-map, set_split}
use Rattle.std.proofs.Math.Facts.{of_z-to_z}
use lib.IntN.{+ℤ_idl}
use Rattle.bag.specs.Order.{Row, row_order}
use Rattle.bag.specs.Integers.{count_add_copies, if_equal_zero}
use Rattle.bag.proofs.Numbers.{zero_is}
use Rattle.bag.specs.declared.lines.ChangeLine.{ChangeLine}
use Rattle.bag.specs.Bag.{Line, Lines, is_zero, count, add_copies, Before, Canonical}
use Rattle.bag.proofs.CanonicalForm.{before_transitive, canonical_add_copies, equal_counts}
use Rattle.settling.specs.Keys.{keyed, changes}
use Rattle.std.specs.Int.{int_wrapping_add}
use Rattle.std.proofs.lemmas.Int.{ints, wrapping_add_is, int_wrap_fits}
use Rattle.pending_lines.specs.ChangeLists.{no_line, changed_at}
use Rattle.table.specs.Runs.{opened, closed}

module _ {E : Type 0} (run : List E) (i n : ℕ) where
  pub front_opened : (e : E) → i ≤ n → n < length run → take (n + 1) (opened run i n e) ≡ take i (take n run) ++ (e ∷ drop i (take n run))
  front_opened e l m =
      take_at (take i run ++ (e ∷ drop i (take n run))) (drop (suc n) run) (n + 1) (simp (length-append, length-take, length-drop) (omega arith))
      ∙ ap (λ t. t ++ (e ∷ drop i (take n run))) (sym (take-take i n run l))

  pub front_closed : (e : E) → i < n → n ≤ length run → take (n - 1) (closed run i n e) ≡ take i (take n run) ++ drop (suc i) (take n run)
  front_closed e l m =
      take_at (take i run ++ drop (suc i) (take n run)) (e ∷ drop n run) (n - 1) (simp (length-append, length-take, length-drop) (omega arith))
      ∙ ap (λ t. t ++ drop (suc i) (take n run)) (sym (take-take i n run (omega arith)))

module _ {E F : Type 0} (f : E → F) where
  pub map_inserted : (xs : List E) (i : ℕ) (e : E) → map f (take i xs ++ (e ∷ drop i xs)) ≡ take i (map f xs) ++ (f e ∷ drop i (map f xs))
  map_inserted xs i e = map-append f (take i xs) (e ∷ drop i xs) ∙ ap₂ (λ a b. a ++ (f e ∷ b)) (sym (take-map f i xs)) (sym (drop-map f i xs))

  pub map_removed : (xs : List E) (i : ℕ) → map f (take i xs ++ drop (suc i) xs) ≡ take i (map f xs) ++ drop (suc i) (map f xs)
  map_removed xs i = map-append f (take i xs) (drop (suc i) xs) ∙ ap₂ (λ a b. a ++ b) (sym (take-map f i xs)) (sym (drop-map f (suc i) xs))

pub take_set_inside : {E : Type 0} (n : ℕ) (xs : List E) (i : ℕ) (a : E) → i < n → take n (set xs i a) ≡ set (take n xs) i a
take_set_inside zero xs i a l = absurd (let z : ⊥ = omega arith in z)
take_set_inside (suc n) [] i a l = refl
take_set_inside (suc n) (x ∷ xs) zero a l = refl
take_set_inside (suc n) (x ∷ xs) (suc i) a l = ap (λ ys. x ∷ ys) (take_set_inside n xs i a (omega arith))

-- a line of which the change was made anew leaves, or is written back
module _ (xs : Lines) (i : ℕ) (n : ℤ) where
  pub changed_gone : is_zero (n +ℤ (get_or xs i no_line).1) ≡ true → take i xs ++ drop (suc i) xs ≡ changed_at xs i n
  changed_gone z = rw z

  pub changed_kept : (e : Line) → i < length xs → e.0 ≡ (get_or xs i no_line).0 → e.1 ≡ n +ℤ (get_or xs i no_line).1 → is_zero e.1 ≡ false → set xs i e ≡ changed_at xs i n
  changed_kept e l k q z =
      let z' : is_zero (n +ℤ (get_or xs i no_line).1) ≡ false = ap is_zero (sym q) ∙ z in
      set_split xs i e l ∙ rw z' (ap₂ (λ (r : Row) (m : ℤ). take i xs ++ ((r, m) ∷ drop (suc i) xs)) k q)

before_changed : (r : Row) (xs : Lines) (i : ℕ) (n : ℤ) → i < length xs → Before r xs → Canonical xs → Before r (changed_at xs i n)
before_changed r [] i n l b c = absurd (let z : ⊥ = omega arith in z)
before_changed r (e ∷ xs) zero n l b c = by (is_zero (n +ℤ e.1))
  where
    by : (z : Bool) → Before r (cond z xs ((e.0, n +ℤ e.1) ∷ xs))
    by true = before_transitive r e.0 xs b c.1
    by false = b
before_changed r (e ∷ xs) (suc i) n l b c = b

pub canonical_changed : (xs : Lines) (i : ℕ) (n : ℤ) → i < length xs → Canonical xs → Canonical (changed_at xs i n)
canonical_changed [] i n l c = absurd (let z : ⊥ = omega arith in z)
canonical_changed (e ∷ xs) zero n l c = by (is_zero (n +ℤ e.1)) refl
  where
    by : (z : Bool) → is_zero (n +ℤ e.1) ≡ z → Canonical (cond z xs ((e.0, n +ℤ e.1) ∷ xs))
    by true q = c.2
    by false q = (q, c.1, c.2)
canonical_changed (e ∷ xs) (suc i) n l c = (c.0, before_changed e.0 xs i n (omega arith) c.1 c.2, canonical_changed xs i n (omega arith) c.2)

-- the lines in the first n places of a run, after an edit at place i
module _ (run : List ChangeLine) (n i : ℕ) (d : ChangeLine) (l : i < n) (room : n ≤ length run) where
  abbrev pub xs : Lines
  xs = changes (take n run)

  long : length xs ≡ n
  long = length-map (take n run) keyed ∙ simp length-take (omega arith)

  pub read : get_or xs i no_line ≡ keyed (get_or run i d)
  read = get_or-map keyed (take n run) i d no_line (simp length-take (omega arith)) ∙ ap keyed (get_or-take n run i d l)

  pub sum_made : (more : ℤ) → SFits w32 more → SFits w32 (get_or run i d).change → SFits w32 (more +ℤ (get_or xs i no_line).1) → int_wrapping_add w32 more (get_or run i d).change ≡ more +ℤ (get_or xs i no_line).1
  sum_made more f g h =
      let same = ap (λ (e : Line). e.1) read in
      wrapping_add_is w32 more _ f g ∙ int_wrap_fits w32 _ (subst (λ z. SFits w32 (more +ℤ z)) same h) ∙ ap (λ z. more +ℤ z) (sym same)

  abbrev pub rewritten : ℤ → ChangeLine
  rewritten w = record { node = (get_or run i d).node; row = (get_or run i d).row; change = w }

  pub kept : (more w : ℤ) → w ≡ more +ℤ (get_or xs i no_line).1 → is_zero w ≡ false → changes (take n (set run i (rewritten w))) ≡ changed_at xs i more
  kept more w q z =
      ap changes (take_set_inside n run i (rewritten w) l) ∙ map-set keyed (take n run) i (rewritten w)
      ∙ changed_kept xs i more (keyed (rewritten w)) (omega (arith, long)) (ap (λ (e : Line). e.0) (sym read)) q z

  pub kept_canonical : (w : ℤ) → is_zero w ≡ false → Canonical xs → Canonical (changes (take n (set run i (rewritten w))))
  kept_canonical w z c =
      let old = (get_or xs i no_line).1 in
      let more = w -ℤ old in
      subst Canonical (sym (kept more w (omega (arith, ints)) z)) (canonical_changed xs i more (omega (arith, long)) c)

  pub gone : (left : List ChangeLine) → left ≡ take i (take n run) ++ drop (suc i) (take n run) → (more : ℤ) → is_zero (more +ℤ (get_or xs i no_line).1) ≡ true → changes left ≡ changed_at xs i more
  gone left e more z = ap changes e ∙ map_removed keyed (take n run) i ∙ changed_gone xs i more z

  pub gone_canonical : (left : List ChangeLine) → left ≡ take i (take n run) ++ drop (suc i) (take n run) → Canonical xs → Canonical (changes left)
  gone_canonical left e c =
      let old = (get_or xs i no_line).1 in
      subst Canonical (sym (gone left e (neg_ℤ old) (ap is_zero (let q : neg_ℤ old +ℤ old ≡ pos 0 = omega (arith, ints) in q)))) (canonical_changed xs i (neg_ℤ old) (omega (arith, long)) c)

-- a number is 0 exactly if its bits are
pub some_bits : (b : ℕ) → Fits w32 b → (b ≡ 0 → ⊥) → is_zero (to_z w32 b) ≡ false
some_bits b f n = by (is_zero (to_z w32 b)) refl
  where
    by : (z : Bool) → is_zero (to_z w32 b) ≡ z → z ≡ false
    by true q = absurd (n (sym (of_z-to_z f) ∙ ap (of_z w32) (zero_is (to_z w32 b) q)))
    by false q = refl

pub some_number : (z : ℤ) → (of_z w32 z ≡ 0 → ⊥) → is_zero z ≡ false
some_number z n = by (is_zero z) refl
  where
    by : (b : Bool) → is_zero z ≡ b → b ≡ false
    by true q = absurd (n (ap (of_z w32) (zero_is z q)))
    by false q = refl

-- no copies more change nothing
pub added_none : (k : Row) (xs : Lines) → Canonical xs → add_copies k (pos 0) xs ≡ xs
added_none k xs c =
    equal_counts (add_copies k (pos 0) xs) xs (canonical_add_copies k (pos 0) xs c) c
    (λ q. count_add_copies k (pos 0) xs q ∙ ap (λ z. z +ℤ count xs q) (if_equal_zero (row_order k q)) ∙ +ℤ_idl (count xs q))
