-- Lines written one by one, up to the first that brings its row to too many copies. Assumes nothing.
--     told_over, told_within     what an answer tells of the lines to be written
--     over_line, over_next       the test of a count behind and before some lines
--     up_to_here                 the first line with too many copies is the last that is written
--     up_to_end                  where no line has too many copies all are written
--     over_on                    too many copies at a line are too many in all
--     lines_more, stops_here     lines of a node behind others, and the last of them that is written
use Rattle.std.proofs.Common.{◌≡◌, ℕ, zero, suc, ◌<◌, Bool, true, false, cond, ◌||◌, not, List, [], ◌∷◌, ◌++◌, length, get_or, take, drop, ℤ, ◌+ℤ◌, Ok, Err, Result, sym, refl, ap, ◌∙◌, ap₂, arith}
use Rattle.std.proofs.lemmas.List.{append-nil, append_assoc, map-append}
use Rattle.bag.specs.declared.lines.ChangeLine.{ChangeLine}
use Rattle.bag.specs.Order.{Row}
use Rattle.bag.specs.Bag.{Line, Lines, is_zero, count, with_line, every_line}
use Rattle.sheet.specs.Sheets.{change_line, of_node}
use Rattle.delta.specs.declared.fault.NodeFault.{NodeFault}
use Rattle.delta.specs.declared.fault.NodeFault.TheVariants.{Over}
use Rattle.delta.specs.NodeChange.{within_count, over_at}
use Rattle.delta.specs.Writing.{without_zeros, up_to_over}
use Rattle.delta.proofs.Steps.{over_more, over_front, one_over}
use Rattle.delta.proofs.Zeros.{no_line, line_at, without_rest}

absurd_told : {A : Type 0} → true ≡ false → A
absurd_told e = let z : ◌≡◌ {A = ℕ} 0 1 = cc in absurd (let t : ⊥ = omega arith in t)

pub told_over : (t : Bool) (f : NodeFault) → ◌≡◌ {A = Result (Unit {0}) NodeFault} (Err f) (cond t (Err Over) (Ok tt)) → (f ≡ Over) × (t ≡ true)
told_over true f e = (cc, refl)
told_over false f e = let z : ◌≡◌ {A = ℕ} 0 1 = cc in absurd (let t : ⊥ = omega arith in t)

pub told_within : (t : Bool) (u : Unit {0}) → ◌≡◌ {A = Result (Unit {0}) NodeFault} (Ok u) (cond t (Err Over) (Ok tt)) → t ≡ false
told_within true u e = let z : ◌≡◌ {A = ℕ} 0 1 = cc in absurd (let t : ⊥ = omega arith in t)
told_within false u e = refl

or_false : (a : Bool) → a || false ≡ a
or_false true = refl
or_false false = refl

pub over_line : (old a : Lines) (r : Row) (n : ℤ) → over_at old (a ++ with_line r n []) ≡ over_at old a || over_at old (with_line r n [])
unfolding every_line
over_line old a r n = by (is_zero n) refl
  where
    by : (t : Bool) → is_zero n ≡ t → over_at old (a ++ with_line r n []) ≡ over_at old a || over_at old (with_line r n [])
    by true z =
        let none : with_line r n [] ≡ [] = ap (λ t. cond t [] ((r, n) ∷ [])) z in
        ap (λ d. over_at old (a ++ d)) none ∙ ap (over_at old) (append-nil a) ∙ sym (or_false (over_at old a)) ∙ ap (λ d. over_at old a || over_at old d) (sym none)
    by false z =
        let line : with_line r n [] ≡ (r, n) ∷ [] = ap (λ t. cond t [] ((r, n) ∷ [])) z in
        ap (λ d. over_at old (a ++ d)) line ∙ over_more old a (r, n) ∙ ap (λ t. over_at old a || t) (sym (one_over old r n z))

-- of a line and the lines behind it
over_next : (old d : Lines) (r : Row) (n : ℤ) → over_at old (with_line r n d) ≡ false → (over_at old (with_line r n []) ≡ false) × (over_at old d ≡ false)
unfolding every_line
over_next old d r n = by (is_zero n)
  where
    by : (t : Bool) → over_at old (cond t d ((r, n) ∷ d)) ≡ false → (over_at old (cond t [] ((r, n) ∷ [])) ≡ false) × (over_at old d ≡ false)
    by true h = (refl, h)
    by false h = both (within_count (count old r +ℤ n)) h
      where
        both : (b : Bool) → not (cond b (every_line (λ q m. within_count (count old q +ℤ m)) d) false) ≡ false → (not (cond b true false) ≡ false) × (over_at old d ≡ false)
        both true k = (refl, k)
        both false k = absurd_told k

pub up_to_here : (old xs : Lines) (i : ℕ) (none : Line) → i < length xs → over_at old (without_zeros (take i xs)) ≡ false →
    over_at old (with_line (get_or xs i none).0 (get_or xs i none).1 []) ≡ true → up_to_over old xs ≡ without_zeros (take i xs) ++ with_line (get_or xs i none).0 (get_or xs i none).1 []
unfolding up_to_over without_zeros
up_to_here old [] i none h few many = absurd (let z : ⊥ = omega arith in z)
up_to_here old (e ∷ xs) zero none h few many = ap (λ t. with_line e.0 e.1 (cond t [] (up_to_over old xs))) many
up_to_here old (e ∷ xs) (suc i) none h few many =
    let parts = over_next old (without_zeros (take i xs)) e.0 e.1 few in
    ap (λ t. with_line e.0 e.1 (cond t [] (up_to_over old xs))) parts.0
    ∙ ap (with_line e.0 e.1) (up_to_here old xs i none (omega (arith, h)) parts.1 many)
    ∙ front (is_zero e.1) (without_zeros (take i xs)) (with_line (get_or xs i none).0 (get_or xs i none).1 [])
  where
    front : (t : Bool) (a b : Lines) → cond t (a ++ b) (e ∷ (a ++ b)) ≡ cond t a (e ∷ a) ++ b
    front true a b = refl
    front false a b = refl

pub up_to_end : (old xs : Lines) → over_at old (without_zeros xs) ≡ false → up_to_over old xs ≡ without_zeros xs
unfolding up_to_over without_zeros
up_to_end old [] few = refl
up_to_end old (e ∷ xs) few =
    let parts = over_next old (without_zeros xs) e.0 e.1 few in
    ap (λ t. with_line e.0 e.1 (cond t [] (up_to_over old xs))) parts.0 ∙ ap (with_line e.0 e.1) (up_to_end old xs parts.1)

pub over_on : (old xs : Lines) (i : ℕ) → over_at old (without_zeros (take i xs)) ≡ true → over_at old (without_zeros xs) ≡ true
over_on old xs i h = sym (ap (over_at old) (without_rest [] xs i)) ∙ over_front old (without_zeros (take i xs)) (without_zeros (drop i xs)) h

pub lines_more : (m k : ℕ) (es : List ChangeLine) (a b c : Lines) → m ≡ k → a ++ b ≡ c → (es ++ of_node k a) ++ of_node m b ≡ es ++ of_node k c
lines_more m k es a b c e is =
    append_assoc es (of_node k a) (of_node m b)
    ∙ ap (λ t. es ++ t) (ap (λ j. of_node k a ++ of_node j b) e ∙ sym (map-append (change_line k) a b) ∙ ap (of_node k) is)

pub stops_here : (old : Lines) (lines : List ChangeLine) (k : ℕ) (xs : Lines) (i : ℕ) (none : ChangeLine) → lines ≡ of_node k xs → i < length lines → (n : ℤ) → n ≡ (get_or lines i none).change →
    over_at old (without_zeros (take i xs)) ≡ false → over_at old (with_line (get_or lines i none).row n []) ≡ true → without_zeros (take i xs) ++ with_line (get_or lines i none).row n [] ≡ up_to_over old xs
stops_here old lines k xs i none e h n f few many =
    let at = line_at lines k xs i none e h in
    let row = ap (λ (y : ChangeLine). y.row) at.1 in
    let change = f ∙ ap (λ (y : ChangeLine). y.change) at.1 in
    ap₂ (λ a b. without_zeros (take i xs) ++ with_line a b []) row change
    ∙ sym (up_to_here old xs i no_line at.0 few (ap₂ (λ a b. over_at old (with_line a b [])) (sym row) (sym change) ∙ many))
