-- Sorting ascending lines onto shelves and laying the shelves out again gives the lines. Assumes nothing.
--     laid_out_again       it does, for the n shelves from s on that hold all lines
--     length_laid_out      as many lines are laid out as the bags have
use Rattle.std.proofs.Common.{◌≡◌, ℕ, zero, suc, ◌+◌, ◌<◌, ◌≤◌, Bool, true, false, cond, eqb, List, [], ◌∷◌, ◌++◌, length, sym, refl, ap, ◌∙◌, ap₂, arith}
use Rattle.std.specs.List.{AllByRecursion}
use Rattle.std.specs.List.Sorted.{IsStrictlySortedBy}
use Rattle.std.proofs.lemmas.List.{length-append}
use Rattle.std.proofs.lemmas.Bool.{eqb-true, eqb-false, ne_eqb}
use Rattle.bag.specs.declared.lines.StockLine.{StockLine}
use Rattle.bag.specs.Order.{stock_line_order}
use Rattle.bag.specs.Bag.{Lines}
use Rattle.stock.specs.Holding.{lines_on}
use Rattle.ordered_stock.specs.OnTable.{as_line, on_shelf, shelves_from, lines_of_bag, laid_out}
use Rattle.ordered_stock.proofs.OnShelf.{none_on_shelf, shelves_ascend}

-- all lines stand on the n shelves from s on
abbrev pub Within : ℕ → ℕ → StockLine → Type 0
Within s n l = (s ≤ l.shelf) × (l.shelf < s + n)

-- a line on a lower shelf is not among the shelves from s on
skipped : (s n : ℕ) (x : StockLine) (xs : List StockLine) → x.shelf < s → shelves_from s n (x ∷ xs) ≡ shelves_from s n xs
unfolding shelves_from on_shelf
skipped s zero x xs l = refl
skipped s (suc n) x xs l =
    ap₂ (λ (b : Lines) (bs : List Lines). b ∷ bs) (rw (ne_eqb x.shelf s (λ e. let z : ⊥ = omega arith in z)) refl) (skipped (suc s) n x xs (omega arith))

raised : (s n : ℕ) (xs : List StockLine) → AllByRecursion (Within s (suc n)) xs → AllByRecursion (λ y. s < y.shelf) xs → AllByRecursion (Within (suc s) n) xs
raised s n [] all above = tt
raised s n (x ∷ xs) all above = (let w = all.0 in let a = above.0 in (omega arith, omega arith), raised s n xs all.1 above.1)

nothing_laid : (s n : ℕ) → laid_out s (shelves_from s n []) ≡ []
unfolding shelves_from on_shelf laid_out lines_of_bag
nothing_laid s zero = refl
nothing_laid s (suc n) = nothing_laid (suc s) n

pub laid_out_again : (n s : ℕ) (xs : List StockLine) → IsStrictlySortedBy stock_line_order xs → AllByRecursion (Within s n) xs → laid_out s (shelves_from s n xs) ≡ xs
unfolding shelves_from on_shelf laid_out lines_of_bag IsStrictlySortedBy
laid_out_again n s [] up all = nothing_laid s n
laid_out_again zero s (x ∷ xs) up all = let w = all.0 in absurd (let z : ⊥ = omega arith in z)
laid_out_again (suc n) s (x ∷ xs) up all = by (eqb x.shelf s) refl (laid_out_again (suc n) s xs up.1 all.1) (λ a. laid_out_again n (suc s) (x ∷ xs) up (raised s n (x ∷ xs) all a))
  where
    by : (b : Bool) → eqb x.shelf s ≡ b
        → lines_of_bag s (on_shelf s xs) ++ laid_out (suc s) (shelves_from (suc s) n xs) ≡ xs
        → (AllByRecursion (λ y. s < y.shelf) (x ∷ xs) → laid_out (suc s) (shelves_from (suc s) n (x ∷ xs)) ≡ x ∷ xs)
        → lines_of_bag s (cond b (as_line x ∷ on_shelf s xs) (on_shelf s xs)) ++ laid_out (suc s) (shelves_from (suc s) n (x ∷ xs)) ≡ x ∷ xs
    by true e rest higher =
        let here = eqb-true x.shelf s e in
        let first : record { shelf = s; row = x.row; count = x.count } ≡ x = ap (λ m. record { shelf = m; row = x.row; count = x.count }) (sym here) in
        let lower : x.shelf < suc s = omega arith in
        ap₂ (λ (l : StockLine) (ls : List StockLine). l ∷ ls) first (ap (λ bs. lines_of_bag s (on_shelf s xs) ++ laid_out (suc s) bs) (skipped (suc s) n x xs lower) ∙ rest)
    by false e rest higher =
        let ne = eqb-false x.shelf s e in
        let w = all.0.0 in
        let l : s < x.shelf = omega arith in
        let above = shelves_ascend s x xs l up.0 in
        ap (λ b. lines_of_bag s b ++ laid_out (suc s) (shelves_from (suc s) n (x ∷ xs))) (none_on_shelf s xs above) ∙ higher (l, above)

length_of_bag : (s : ℕ) (xs : Lines) → length (lines_of_bag s xs) ≡ length xs
unfolding lines_of_bag
length_of_bag s [] = refl
length_of_bag s (e ∷ xs) = ap suc (length_of_bag s xs)

pub length_laid_out : (s : ℕ) (bags : List Lines) → length (laid_out s bags) ≡ lines_on bags
unfolding laid_out lines_on
length_laid_out s [] = refl
length_laid_out s (b ∷ bags) = length-append (lines_of_bag s b) (laid_out (suc s) bags) ∙ ap₂ ◌+◌ (length_of_bag s b) (length_laid_out (suc s) bags)
