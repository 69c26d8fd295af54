-- Two changes merged row by row: the lines that come of it have the counts wanted. Assumes nothing.
--     Taken q xs n rest           the row q is taken from xs: it is the first, n copies of it, and `rest` is behind it; or it comes
--                                 before all of xs, which stays, and n is 0
--     Turned q m xs xs' n ys ys'  the same of two lists at once
--     taken_is, taken_rest, taken_before, taken_order      what the taking of a row leaves of a canonical list
--     Partly f dl dr out xs ys      of dl and dr, xs and ys are left; `out` has the counts that f makes of those of the rest
--     partly_none, partly_more      nothing is done; one row more is
--     partly_all                    all is done: `out` is the canonical list of these counts
--     each_turn                     what holds behind the last turn, and of one turn before, holds of all turns
--     turn_line, turn_lines         the line that f makes of a turn, and the lines of several
--     merged                        the lines of all turns, without those of 0, are that canonical list
--     Fitting a b t                 the counts of the row of a turn in a and b fit a line, before and after their changes
--     Counted a d                   what is known of the counts of a bag a under its change d
--     all_fit                       then the counts of all turns fit
use Rattle.std.proofs.Common.{◌≡◌, ℕ, ◌⊎◌, List, [], ◌∷◌, ◌++◌, map, ℤ, pos, ◌+ℤ◌, Ordering, Less, Equal, Greater, sym, refl, ap, ◌∙◌, subst, ap₂, inl, inr}
use lib.IntN.{+ℤ_idl, +ℤ_idr}
use Rattle.std.specs.List.{AllByRecursion}
use Rattle.std.proofs.lemmas.List.{append_assoc, append-nil}
use Rattle.bag.specs.declared.lines.ChangeLine.{ChangeLine}
use Rattle.bag.specs.Order.{Row, row_order}
use Rattle.bag.specs.Bag.{Line, Lines, if_equal, count, with_line, Before, Canonical, EachRow}
use Rattle.bag.specs.RowOrder.{order_equal, greater_less}
use Rattle.bag.proofs.CanonicalForm.{before_transitive, count_before, count_head, equal_counts}
use Rattle.sheet.specs.Sheets.{of_node}
use Rattle.delta.specs.Writing.{without_zeros}
use Rattle.delta.proofs.Appended.{each_row_too, canonical_more, each_row_more, count_more}
use Rattle.delta.proofs.Zeros.{without_next}
use Rattle.delta_rows.specs.declared.merge.Turn.{Turn}
use Rattle.delta_rows.specs.Merges.{at_order, left_turn, right_turn, both_turn, turns_from, turns}
use Rattle.delta_rows.specs.Less.{IsCount}

abbrev pub Taken : Row → Lines → ℤ → Lines → Type 0
Taken q xs n rest = (xs ≡ (q, n) ∷ rest) ⊎ (Before q xs × (n ≡ pos 0) × (rest ≡ xs))

pub record Turned (q : Row) (m : ℤ) (xs xs' : Lines) (n : ℤ) (ys ys' : Lines) : Type 0 where
  pub left : Taken q xs m xs'
  pub right : Taken q ys n ys'

abbrev pub turn_line : (Row → ℤ → ℤ → ℤ) → Turn → Line
turn_line f t = (t.row, f t.row t.left t.right)

abbrev pub turn_lines : (Row → ℤ → ℤ → ℤ) → List Turn → Lines
turn_lines f ts = map (turn_line f) ts

module _ (q : Row) (n : ℤ) (rest : Lines) where
  pub taken_order : (xs : Lines) → Taken q xs n rest → Canonical xs → Canonical rest
  taken_order xs (inl e) c = (subst Canonical e c).2
  taken_order xs (inr h) c = subst Canonical (sym h.2) c

  pub taken_before : (xs : Lines) → Taken q xs n rest → Canonical xs → Before q rest
  taken_before xs (inl e) c = (subst Canonical e c).1
  taken_before xs (inr h) c = subst (Before q) (sym h.2) h.0

  pub taken_is : (xs : Lines) → Taken q xs n rest → Canonical xs → count xs q ≡ n
  taken_is xs (inl e) c = ap (λ t. count t q) e ∙ count_head (q, n) rest (subst Canonical e c)
  taken_is xs (inr h) c = count_before q xs c h.0 ∙ sym h.1

  -- what comes before all of the list comes before what is left of it
  taken_ahead : (xs : Lines) (p : Row) → Taken q xs n rest → Canonical xs → Before p xs → Before p rest
  taken_ahead xs p (inl e) c b = before_transitive p q rest (subst (Before p) e b) (taken_before xs (inl e) c)
  taken_ahead xs p (inr h) c b = subst (Before p) (sym h.2) b

  -- the row is gone, and no other count is changed
  pub taken_gone : (xs : Lines) → Taken q xs n rest → Canonical xs → count rest q ≡ pos 0
  taken_gone xs t c = count_before q rest (taken_order xs t c) (taken_before xs t c)

  pub taken_rest : (xs : Lines) (p : Row) → Taken q xs n rest → if_equal (row_order q p) n ≡ pos 0 → count rest p ≡ count xs p
  unfolding count
  taken_rest xs p (inl e) z = sym (+ℤ_idl (count rest p)) ∙ ap (λ k. k +ℤ count rest p) (sym z) ∙ sym (ap (λ t. count t p) e)
  taken_rest xs p (inr h) z = ap (λ t. count t p) h.2

nothing : without_zeros [] ≡ []
unfolding without_zeros
nothing = refl

-- what is left of a side has each row as often as the side, or no more
abbrev pub LeftOf : Lines → Lines → Type 0
LeftOf d xs = (p : Row) → (count xs p ≡ count d p) ⊎ (count xs p ≡ pos 0)

left_of_more : (d zs zs' : Lines) (q : Row) (k : ℤ) → LeftOf d zs → Canonical zs → Taken q zs k zs' → LeftOf d zs'
left_of_more d zs zs' q k was c t p = by (row_order q p) refl (was p)
  where
    by : (o : Ordering) → row_order q p ≡ o → (count zs p ≡ count d p) ⊎ (count zs p ≡ pos 0) → (count zs' p ≡ count d p) ⊎ (count zs' p ≡ pos 0)
    by Less e (inl w) = inl (taken_rest q k zs' zs p t (ap (λ o. if_equal o k) e) ∙ w)
    by Less e (inr w) = inr (taken_rest q k zs' zs p t (ap (λ o. if_equal o k) e) ∙ w)
    by Equal e w = inr (ap (count zs') (sym (order_equal q p e)) ∙ taken_gone q k zs' zs t c)
    by Greater e (inl w) = inl (taken_rest q k zs' zs p t (ap (λ o. if_equal o k) e) ∙ w)
    by Greater e (inr w) = inr (taken_rest q k zs' zs p t (ap (λ o. if_equal o k) e) ∙ w)

-- the next turn takes a row from both sides
module _ (i j : ℕ) (P : Lines → Lines → List Turn → Type 0) (end : P [] [] [])
    (step : (q : Row) (m n : ℤ) (xs xs' ys ys' : Lines) (ts : List Turn) → Turned q m xs xs' n ys ys' → P xs' ys' ts → P xs ys (record { row = q; left = m; right = n } ∷ ts)) where
  no_left : (ys : Lines) → P [] ys (map right_turn (of_node j ys))
  no_left [] = end
  no_left (d ∷ ys) = step d.0 (pos 0) d.1 [] [] (d ∷ ys) ys (map right_turn (of_node j ys)) (record { left = inr (tt, refl, refl); right = inl refl }) (no_left ys)

  next_left : (e : Line) (xs : Lines) (more : List ChangeLine → List Turn) → ((ys : Lines) → P xs ys (more (of_node j ys))) → (ys : Lines) → P (e ∷ xs) ys (turns_from (record { node = i; row = e.0; change = e.1 }) more (of_node j ys))
  unfolding turns_from
  next_left e xs more ih [] = step e.0 e.1 (pos 0) (e ∷ xs) xs [] [] (more []) (record { left = inl refl; right = inr (tt, refl, refl) }) (ih [])
  next_left e xs more ih (d ∷ ys) = by (row_order e.0 d.0) refl (next_left e xs more ih ys)
    where
      l : ChangeLine
      l = record { node = i; row = e.0; change = e.1 }

      r : ChangeLine
      r = record { node = j; row = d.0; change = d.1 }

      by : (o : Ordering) → row_order e.0 d.0 ≡ o → P (e ∷ xs) ys (turns_from l more (of_node j ys)) →
          P (e ∷ xs) (d ∷ ys) (at_order o (left_turn l ∷ more (r ∷ of_node j ys)) (both_turn l r ∷ more (of_node j ys)) (right_turn r ∷ turns_from l more (of_node j ys)))
      by Less is again = step e.0 e.1 (pos 0) (e ∷ xs) xs (d ∷ ys) (d ∷ ys) (more (r ∷ of_node j ys)) (record { left = inl refl; right = inr (is, refl, refl) }) (ih (d ∷ ys))
      by Equal is again = step e.0 e.1 d.1 (e ∷ xs) xs (d ∷ ys) ys (more (of_node j ys)) (record { left = inl refl; right = inl (ap (λ (q : Row). (q, d.1) ∷ ys) (sym (order_equal e.0 d.0 is))) }) (ih ys)
      by Greater is again = step d.0 (pos 0) d.1 (e ∷ xs) (e ∷ xs) (d ∷ ys) ys (turns_from l more (of_node j ys)) (record { left = inr (greater_less e.0 d.0 is, refl, refl); right = inl refl }) again

  pub each_turn : (xs ys : Lines) → P xs ys (turns (of_node i xs) (of_node j ys))
  unfolding turns
  each_turn [] ys = no_left ys
  each_turn (e ∷ xs) ys = next_left e xs (turns (of_node i xs)) (each_turn xs) ys

module _ (f : Row → ℤ → ℤ → ℤ) (none : (p : Row) → f p (pos 0) (pos 0) ≡ pos 0) (dl dr : Lines) where
  pub record Partly (out xs ys : Lines) : Type 0 where
    pub in_order : Canonical out
    pub left_order : Canonical xs
    pub right_order : Canonical ys
    pub ahead : EachRow (λ p. Before p xs × Before p ys) out
    pub left_of : LeftOf dl xs
    pub right_of : LeftOf dr ys
    pub counts : (p : Row) → f p (count dl p) (count dr p) ≡ count out p +ℤ f p (count xs p) (count ys p)

  pub partly_none : Canonical dl → Canonical dr → Partly [] dl dr
  unfolding count
  partly_none cl cr =
      record {
        in_order = tt;
        left_order = cl;
        right_order = cr;
        ahead = tt;
        left_of = λ p. inl refl;
        right_of = λ p. inl refl;
        counts = λ p. sym (+ℤ_idl (f p (count dl p) (count dr p)));
      }

  pub partly_all : (out : Lines) → Partly out [] [] → (all : Lines) → Canonical all → ((p : Row) → count all p ≡ f p (count dl p) (count dr p)) → out ≡ all
  unfolding count
  partly_all out h all c is = equal_counts out all h.in_order c (λ p. sym (is p ∙ h.counts p ∙ ap (λ k. count out p +ℤ k) (none p) ∙ +ℤ_idr (count out p)))

  module _ (out xs ys xs' ys' : Lines) (q : Row) (m n : ℤ) (h : Partly out xs ys) (t : Turned q m xs xs' n ys ys') where
    -- each row that is done comes before q, unless q is on neither side, and then no line is appended
    out_order : Canonical (out ++ with_line q (f q m n) [])
    out_order = by t.left t.right
      where
        by : Taken q xs m xs' → Taken q ys n ys' → Canonical (out ++ with_line q (f q m n) [])
        by (inl e) b = canonical_more q (f q m n) out h.in_order (each_row_too (λ p. Before p xs × Before p ys) (λ p. row_order p q ≡ Less) (λ p k. subst (Before p) e k.0) out h.ahead)
        by (inr a) (inl e) = canonical_more q (f q m n) out h.in_order (each_row_too (λ p. Before p xs × Before p ys) (λ p. row_order p q ≡ Less) (λ p k. subst (Before p) e k.1) out h.ahead)
        by (inr a) (inr b) = subst Canonical (sym (ap (λ k. out ++ with_line q k []) (ap₂ (f q) a.1 b.1 ∙ none q) ∙ append-nil out)) h.in_order

    counts_more : (p : Row) → f p (count dl p) (count dr p) ≡ count (out ++ with_line q (f q m n) []) p +ℤ f p (count xs' p) (count ys' p)
    counts_more p = h.counts p ∙ by (row_order q p) refl ∙ sym (ap (λ k. k +ℤ f p (count xs' p) (count ys' p)) (count_more q (f q m n) out p))
      where
        other : (o : Ordering) → row_order q p ≡ o → ((k : ℤ) → if_equal o k ≡ pos 0) → count out p +ℤ f p (count xs p) (count ys p) ≡ (count out p +ℤ if_equal (row_order q p) (f q m n)) +ℤ f p (count xs' p) (count ys' p)
        other o e z =
            let one = ap (λ o. if_equal o (f q m n)) e ∙ z (f q m n) in
            let a = taken_rest q m xs' xs p t.left (ap (λ o. if_equal o m) e ∙ z m) in
            let b = taken_rest q n ys' ys p t.right (ap (λ o. if_equal o n) e ∙ z n) in
            ap₂ (λ k j. k +ℤ j) (sym (ap (λ k. count out p +ℤ k) one ∙ +ℤ_idr (count out p))) (sym (ap₂ (f p) a b))

        by : (o : Ordering) → row_order q p ≡ o → count out p +ℤ f p (count xs p) (count ys p) ≡ (count out p +ℤ if_equal (row_order q p) (f q m n)) +ℤ f p (count xs' p) (count ys' p)
        by Less e = other Less e (λ k. refl)
        by Equal e =
            let same = order_equal q p e in
            let here : f p (count xs p) (count ys p) ≡ f q m n = sym (ap (λ r. f r (count xs r) (count ys r)) same) ∙ ap₂ (f q) (taken_is q m xs' xs t.left h.left_order) (taken_is q n ys' ys t.right h.right_order) in
            let gone : f p (count xs' p) (count ys' p) ≡ pos 0 = sym (ap (λ r. f r (count xs' r) (count ys' r)) same) ∙ ap₂ (f q) (taken_gone q m xs' xs t.left h.left_order) (taken_gone q n ys' ys t.right h.right_order) ∙ none q in
            ap (λ k. count out p +ℤ k) here ∙ sym (ap₂ (λ k j. (count out p +ℤ k) +ℤ j) (ap (λ o. if_equal o (f q m n)) e) gone ∙ +ℤ_idr (count out p +ℤ f q m n))
        by Greater e = other Greater e (λ k. refl)

    pub partly_more : Partly (out ++ with_line q (f q m n) []) xs' ys'
    partly_more =
        let a = taken_before q m xs' xs t.left h.left_order in
        let b = taken_before q n ys' ys t.right h.right_order in
        record {
          in_order = out_order;
          left_order = taken_order q m xs' xs t.left h.left_order;
          right_order = taken_order q n ys' ys t.right h.right_order;
          ahead = each_row_more q (f q m n) (λ p. Before p xs' × Before p ys') out (each_row_too (λ p. Before p xs × Before p ys) (λ p. Before p xs' × Before p ys') (λ p k. (taken_ahead q m xs' xs p t.left h.left_order k.0, taken_ahead q n ys' ys p t.right h.right_order k.1)) out h.ahead) (a, b);
          left_of = left_of_more dl xs xs' q m h.left_of h.left_order t.left;
          right_of = left_of_more dr ys ys' q n h.right_of h.right_order t.right;
          counts = counts_more;
        }

  -- what is done, and the lines of the turns that are left
  partly_turns : (i j : ℕ) (xs ys out : Lines) → Partly out xs ys → Partly (out ++ without_zeros (turn_lines f (turns (of_node i xs) (of_node j ys)))) [] []
  partly_turns i j xs ys = each_turn i j (λ es gs ts. (out : Lines) → Partly out es gs → Partly (out ++ without_zeros (turn_lines f ts)) [] [])
      (λ out h. subst (λ t. Partly t [] []) (sym (ap (λ t. out ++ t) nothing ∙ append-nil out)) h)
      (λ q m n es es' gs gs' ts t ih out h.
      subst (λ z. Partly z [] []) (append_assoc out (with_line q (f q m n) []) (without_zeros (turn_lines f ts)) ∙ ap (λ z. out ++ z) (sym (without_next (q, f q m n) (turn_lines f ts))))
      (ih (out ++ with_line q (f q m n) []) (partly_more out es gs es' gs' q m n h t)))
      xs ys

  pub merged : (i j : ℕ) → Canonical dl → Canonical dr → (all : Lines) → Canonical all → ((p : Row) → count all p ≡ f p (count dl p) (count dr p)) →
      without_zeros (turn_lines f (turns (of_node i dl) (of_node j dr))) ≡ all
  merged i j cl cr all c is = partly_all (without_zeros (turn_lines f (turns (of_node i dl) (of_node j dr)))) (partly_turns i j dl dr [] (partly_none cl cr)) all c is

pub record Fitting (a b : Lines) (t : Turn) : Type 0 where
  pub old_left : IsCount (count a t.row)
  pub old_right : IsCount (count b t.row)
  pub new_left : IsCount (count a t.row +ℤ t.left)
  pub new_right : IsCount (count b t.row +ℤ t.right)

pub record Counted (a d : Lines) : Type 0 where
  pub in_order : Canonical d
  pub old : (q : Row) → IsCount (count a q)
  pub new : (q : Row) → IsCount (count a q +ℤ count d q)

taken_fits : (a d xs xs' : Lines) (q : Row) (m : ℤ) → Counted a d → Canonical xs → LeftOf d xs → Taken q xs m xs' → IsCount (count a q +ℤ m)
taken_fits a d xs xs' q m side o left t = by (left q)
  where
    is : count xs q ≡ m
    is = taken_is q m xs' xs t o

    by : (count xs q ≡ count d q) ⊎ (count xs q ≡ pos 0) → IsCount (count a q +ℤ m)
    by (inl e) = subst (λ (z : ℤ). IsCount (count a q +ℤ z)) (sym e ∙ is) (side.new q)
    by (inr e) = subst (λ (z : ℤ). IsCount z) (sym (ap (λ (z : ℤ). count a q +ℤ z) (sym is ∙ e) ∙ +ℤ_idr (count a q))) (side.old q)

pub all_fit : (a b dl dr : Lines) (i j : ℕ) → Counted a dl → Counted b dr → AllByRecursion (Fitting a b) (turns (of_node i dl) (of_node j dr))
all_fit a b dl dr i j l r =
    each_turn i j (λ xs ys ts. Canonical xs → Canonical ys → LeftOf dl xs → LeftOf dr ys → AllByRecursion (Fitting a b) ts) (λ cx cy lx ly. tt)
    (λ q m n xs xs' ys ys' ts t ih cx cy lx ly. (
      record { old_left = l.old q; old_right = r.old q; new_left = taken_fits a dl xs xs' q m l cx lx t.left; new_right = taken_fits b dr ys ys' q n r cy ly t.right },
      ih (taken_order q m xs' xs t.left cx) (taken_order q n ys' ys t.right cy) (left_of_more dl xs xs' q m lx cx t.left) (left_of_more dr ys ys' q n ly cy t.right),
    ))
    dl dr l.in_order r.in_order (λ p. inl refl) (λ p. inl refl)
