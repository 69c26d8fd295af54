-- How many lines are in use once lines are settled. Assumes nothing.
--     all_lines h           the lines of all shelves, by keys
--     lines_lead            lines in use and rows that appear are the lines then in use and the rows that vanish
--     one_if_bit, one_if_most, one_if_none      tests as numbers
--     appearing_more, vanishing_more      one line after another
use Rattle.std.proofs.Common.{◌≡◌, ℕ, zero, suc, ◌+◌, ◌<◌, ◌≤◌, Bool, true, false, eqb, List, [], ◌∷◌, ◌++◌, length, get_or, take, pos, negsuc, ◌+ℤ◌, sym, refl, ap, ◌∙◌, ap₂, ⊎_elim, arith}
use mir.Val.{bool_byte}
use Rattle.std.proofs.lemmas.List.{get_or_past, take_more, map-append}
use Rattle.std.proofs.ByRecursion.{All-from_get_or}
use Rattle.std.proofs.lemmas.Bool.{cases_lt, ne_eqb}
use Rattle.bag.specs.declared.lines.ChangeLine.{ChangeLine}
use Rattle.bag.specs.Order.{Row}
use Rattle.bag.specs.Bag.{Line, Lines, is_zero, count, Canonical}
use Rattle.bag.specs.Propagation.{one_if, appearing, vanishing}
use Rattle.bag.specs.Changes.{Moves}
use Rattle.bag.proofs.LineCounts.{lines_follow_change}
use Rattle.stock.specs.Holding.{Holding, LawfulHolding, shelf_of, lines_of}
use Rattle.sheet.specs.Sheets.{flattened}
use Rattle.settling.specs.Keys.{key, keyed, changes, change_at}
use Rattle.settling.specs.Leading.{LeadsInCounts}
use Rattle.settling.proofs.Flattened.{count_at_none, count_at_negative, count_past, change_flattened, canonical_flattened, length_flattened}

abbrev pub all_lines : Holding → Lines
all_lines h = changes (flattened 0 h.shelves)

pub count_all_lines : (h : Holding) (s : ℕ) (q : Row) → count (all_lines h) (key s q) ≡ count (shelf_of h s) q
count_all_lines h s q = change_flattened 0 h.shelves s s q (omega arith)

canonical_all_lines : (h : Holding) → ((s : ℕ) → Canonical (shelf_of h s)) → Canonical (all_lines h)
canonical_all_lines h c = canonical_flattened 0 h.shelves (All-from_get_or Canonical h.shelves [] (λ s l. c s))

module _ (h aim : Holding) (lines : List ChangeLine) (law : LawfulHolding h) (leads : LeadsInCounts h lines aim) where
  none_past : (k : Holding) → length k.shelves ≡ 16 → (s : ℕ) (q : Row) → 16 ≤ s → count (shelf_of k s) q ≡ pos 0
  unfolding count
  none_past k six s q m = ap (λ (xs : Lines). count xs q) (get_or_past k.shelves s [] (omega (arith, six)))

  at_key : (s : ℕ) (q : Row) → count (shelf_of aim s) q ≡ count (shelf_of h s) q +ℤ change_at lines s q
  at_key s q =
      ⊎_elim (λ (m : s < 16). leads.counts s (omega arith) q)
      (λ (m : 16 ≤ s). none_past aim leads.sixteen s q m ∙ sym (ap₂ (λ x y. x +ℤ y) (none_past h law.sixteen s q m) (count_past lines s q leads.nodes m)))
      (cases_lt s 16)

  moves : Moves (all_lines h) (changes lines) (all_lines aim)
  moves [] = count_at_none (flattened 0 aim.shelves) ∙ sym (ap₂ (λ x y. x +ℤ y) (count_at_none (flattened 0 h.shelves)) (count_at_none lines))
  moves (negsuc n ∷ q) = count_at_negative (flattened 0 aim.shelves) n q ∙ sym (ap₂ (λ x y. x +ℤ y) (count_at_negative (flattened 0 h.shelves) n q) (count_at_negative lines n q))
  moves (pos s ∷ q) = count_all_lines aim s q ∙ at_key s q ∙ ap (λ x. x +ℤ change_at lines s q) (sym (count_all_lines h s q))

  pub lines_lead : lines_of aim + vanishing (all_lines h) (changes lines) ≡ lines_of h + appearing (all_lines h) (changes lines)
  lines_lead =
      let a = lines_follow_change (all_lines h) (changes lines) (all_lines aim) (canonical_all_lines h (λ s. (law.bags s).0)) leads.in_order (canonical_all_lines aim (λ s. (leads.bags s).0)) moves in
      let b = length_flattened 0 h.shelves in
      let c = length_flattened 0 aim.shelves in
      omega (arith, a, b, c)

-- a test, as a number
pub one_if_bit : (b : Bool) → bool_byte b ≡ one_if b
one_if_bit true = refl
one_if_bit false = refl

pub one_if_most : (b : Bool) → one_if b ≤ 1
one_if_most true = omega arith
one_if_most false = omega arith

pub one_if_none : (n : ℕ) → bool_byte (eqb n 0) ≡ one_if (is_zero (pos n))
one_if_none zero = refl
one_if_none (suc n) = ap bool_byte (ne_eqb (suc n) 0 (λ e. omega arith))

-- one more line
appearing-++ : (old xs : Lines) (e : Line) → appearing old (xs ++ (e ∷ [])) ≡ appearing old xs + one_if (is_zero (count old e.0))
unfolding appearing
appearing-++ old [] e = omega arith
appearing-++ old (x ∷ xs) e = let r = appearing-++ old xs e in omega arith

vanishing-++ : (old xs : Lines) (e : Line) → vanishing old (xs ++ (e ∷ [])) ≡ vanishing old xs + one_if (is_zero (count old e.0 +ℤ e.1))
unfolding vanishing
vanishing-++ old [] e = omega arith
vanishing-++ old (x ∷ xs) e = let r = vanishing-++ old xs e in omega arith

changes_more : (ls : List ChangeLine) (i : ℕ) (d : ChangeLine) → i < length ls → changes (take (i + 1) ls) ≡ changes (take i ls) ++ (keyed (get_or ls i d) ∷ [])
changes_more ls i d l = ap changes (take_more ls i d l) ∙ map-append keyed (take i ls) (get_or ls i d ∷ [])

module _ (h : Holding) (ls : List ChangeLine) (i : ℕ) (d : ChangeLine) (l : i < length ls) where
  pub appearing_more : appearing (all_lines h) (changes (take (i + 1) ls)) ≡ appearing (all_lines h) (changes (take i ls)) + one_if (is_zero (count (shelf_of h (get_or ls i d).node) (get_or ls i d).row))
  appearing_more =
      ap (appearing (all_lines h)) (changes_more ls i d l) ∙ appearing-++ (all_lines h) (changes (take i ls)) (keyed (get_or ls i d))
      ∙ ap (λ z. appearing (all_lines h) (changes (take i ls)) + one_if (is_zero z)) (count_all_lines h (get_or ls i d).node (get_or ls i d).row)

  pub vanishing_more : vanishing (all_lines h) (changes (take (i + 1) ls)) ≡ vanishing (all_lines h) (changes (take i ls)) + one_if (is_zero (count (shelf_of h (get_or ls i d).node) (get_or ls i d).row +ℤ (get_or ls i d).change))
  vanishing_more =
      ap (vanishing (all_lines h)) (changes_more ls i d l) ∙ vanishing-++ (all_lines h) (changes (take i ls)) (keyed (get_or ls i d))
      ∙ ap (λ z. vanishing (all_lines h) (changes (take i ls)) + one_if (is_zero (z +ℤ (get_or ls i d).change))) (count_all_lines h (get_or ls i d).node (get_or ls i d).row)
