-- The bytes of columns, one behind the other, as a loop over a row writes them. Assumes nothing.
--     length_columns      four bytes for each column
--     columns_step        one column more
use Rattle.std.proofs.Common.{◌≡◌, ℕ, ◌+◌, ◌*◌, ◌<◌, ◌≤◌, List, [], ◌∷◌, ◌++◌, length, get_or, take, ℤ, sym, refl, ap, ◌∙◌, arith, length-append}
use Rattle.std.specs.List.{flat_map}
use Rattle.std.proofs.lemmas.List.{flat_map_more, take_more, length-take-le}
use Rattle.bag.specs.Bytes.{in_four}

pub length_columns : (r : List ℤ) → length (flat_map in_four r) ≡ 4 * length r
length_columns [] = refl
length_columns (z ∷ r) = let h = length_columns r in let k = length-append (in_four z) (flat_map in_four r) in omega arith

pub length_first_columns : (r : List ℤ) (k : ℕ) → k ≤ length r → length (flat_map in_four (take k r)) ≡ 4 * k
length_first_columns r k h = length_columns (take k r) ∙ ap (λ n. 4 * n) (length-take-le k r h)

pub columns_step : (r : List ℤ) (k : ℕ) (d : ℤ) → k < length r → flat_map in_four (take (k + 1) r) ≡ flat_map in_four (take k r) ++ in_four (get_or r k d)
columns_step r k d h = ap (flat_map in_four) (take_more r k d h) ∙ sym (flat_map_more in_four [] (take k r) (get_or r k d))
