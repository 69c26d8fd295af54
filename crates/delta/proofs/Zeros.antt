-- Lines written one by one, without those of 0. Assumes nothing.
--     line_at                a line of a node's change
--     without-++             of two lists, one behind the other
--     without_canonical      a canonical list has no line of 0
--     without_next, without_last      the first line of a list, and the last
--     without_more           one line more of a list, behind what is written
--     without_whole          behind the last line all is written
--     without_rest           what is written before is a front of what is to be written
use Rattle.std.proofs.Common.{◌≡◌, ℕ, ◌+◌, ◌<◌, ◌≤◌, Bool, true, false, cond, List, [], ◌∷◌, ◌++◌, length, get_or, take, drop, ℤ, pos, sym, refl, ap, ◌∙◌, ap₂, arith}
use Rattle.std.proofs.lemmas.List.{append_assoc, length-map, take_all, take_more, get_or-map, take-append-drop}
use Rattle.bag.specs.declared.lines.ChangeLine.{ChangeLine}
use Rattle.bag.specs.Order.{Row}
use Rattle.bag.specs.Bag.{Line, Lines, is_zero, with_line, Canonical}
use Rattle.sheet.specs.Sheets.{change_line, of_node}
use Rattle.delta.specs.Writing.{without_zeros}

pub no_line : Line
no_line = ([], pos 0)

pub line_at : (lines : List ChangeLine) (k : ℕ) (d : Lines) (i : ℕ) (none : ChangeLine) → lines ≡ of_node k d → i < length lines → (i < length d) × (get_or lines i none ≡ change_line k (get_or d i no_line))
line_at lines k d i none e h =
    let long = ap length e ∙ length-map d (change_line k) in
    let l : i < length d = omega (arith, h, long) in
    (l, ap (λ t. get_or t i none) e ∙ get_or-map (change_line k) d i no_line none l)

pub without-++ : (xs ys : Lines) → without_zeros (xs ++ ys) ≡ without_zeros xs ++ without_zeros ys
unfolding without_zeros
without-++ [] ys = refl
without-++ (x ∷ xs) ys = by (is_zero x.1) (without-++ xs ys)
  where
    by : (t : Bool) → without_zeros (xs ++ ys) ≡ without_zeros xs ++ without_zeros ys → cond t (without_zeros (xs ++ ys)) (x ∷ without_zeros (xs ++ ys)) ≡ cond t (without_zeros xs) (x ∷ without_zeros xs) ++ without_zeros ys
    by true ih = ih
    by false ih = ap (λ t. x ∷ t) ih

without_one : (e : Line) → without_zeros (e ∷ []) ≡ with_line e.0 e.1 []
without_one e = unfold without_zeros in refl

pub without_next : (e : Line) (xs : Lines) → without_zeros (e ∷ xs) ≡ with_line e.0 e.1 [] ++ without_zeros xs
without_next e xs = without-++ (e ∷ []) xs ∙ ap (λ t. t ++ without_zeros xs) (without_one e)

pub without_last : (xs : Lines) (e : Line) → without_zeros (xs ++ (e ∷ [])) ≡ without_zeros xs ++ with_line e.0 e.1 []
without_last xs e = without-++ xs (e ∷ []) ∙ ap (λ t. without_zeros xs ++ t) (without_one e)

pub without_canonical : (xs : Lines) → Canonical xs → without_zeros xs ≡ xs
unfolding without_zeros
without_canonical [] c = refl
without_canonical (e ∷ xs) c = ap (λ t. cond t (without_zeros xs) (e ∷ without_zeros xs)) c.0 ∙ ap (λ t. e ∷ t) (without_canonical xs c.2)

one_more : (d xs : Lines) (i : ℕ) (x : Line) → i < length xs → (r : Row) (n : ℤ) → r ≡ (get_or xs i x).0 → n ≡ (get_or xs i x).1 →
    (d ++ without_zeros (take i xs)) ++ with_line r n [] ≡ d ++ without_zeros (take (i + 1) xs)
one_more d xs i x h r n e f =
    append_assoc d (without_zeros (take i xs)) (with_line r n [])
    ∙ ap (λ t. d ++ t)
    (ap₂ (λ a b. without_zeros (take i xs) ++ with_line a b []) e f ∙ ap (λ t. without_zeros (take i xs) ++ t) (sym (without_one (get_or xs i x)))
    ∙ sym (ap without_zeros (take_more xs i x h) ∙ without-++ (take i xs) (get_or xs i x ∷ [])))

pub without_more : (lines : List ChangeLine) (k : ℕ) (d xs : Lines) (i : ℕ) (none : ChangeLine) → lines ≡ of_node k xs → i < length lines →
    (n : ℤ) → n ≡ (get_or lines i none).change → (d ++ without_zeros (take i xs)) ++ with_line (get_or lines i none).row n [] ≡ d ++ without_zeros (take (i + 1) xs)
without_more lines k d xs i none e h n f =
    let at = line_at lines k xs i none e h in
    one_more d xs i no_line at.0 (get_or lines i none).row n (ap (λ (y : ChangeLine). y.row) at.1) (f ∙ ap (λ (y : ChangeLine). y.change) at.1)

pub without_whole : (lines : List ChangeLine) (k : ℕ) (xs : Lines) (i : ℕ) → lines ≡ of_node k xs → length lines ≤ i → without_zeros (take i xs) ≡ without_zeros xs
without_whole lines k xs i e h = let long = ap length e ∙ length-map xs (change_line k) in ap without_zeros (take_all i xs (omega (arith, h, long)))

pub without_rest : (d xs : Lines) (i : ℕ) → (d ++ without_zeros (take i xs)) ++ without_zeros (drop i xs) ≡ d ++ without_zeros xs
without_rest d xs i =
    append_assoc d (without_zeros (take i xs)) (without_zeros (drop i xs)) ∙ ap (λ t. d ++ t) (sym (without-++ (take i xs) (drop i xs)) ∙ ap without_zeros (take-append-drop i xs))
