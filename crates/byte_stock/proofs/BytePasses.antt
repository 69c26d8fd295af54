-- What the two passes over the lines find, in words of the lines. Assumes nothing.
--     place_is_position     the first line of a row on a shelf stands at its place
--     kept_then_read        the lines after a row may be kept before they are read
--     nearer_yet o l        the nearer of the nearest line so far, if there is one, and the next line
--     fold_is_reduce        a pass that begins with no line and keeps the nearer of each two ends with the nearest
use Rattle.std.proofs.Common.{◌≡◌, ℕ, suc, ◌+◌, Bool, true, false, cond, List, [], ◌∷◌, map, Some, None, Option, refl, ap, ◌∙◌, arith}
use Rattle.std.specs.List.{position, position_from, fold, filter, reduce}
use Rattle.std.specs.Option.{option_map, option_map_or}
use Rattle.std.proofs.lemmas.Iterator.Adapters.{position_from-zero}
use Rattle.bag.specs.Order.{Row}
use Rattle.bag.specs.declared.lines.StockLine.{StockLine}
use Rattle.byte_stock.specs.ByteLines.{line_in}
use Rattle.byte_stock.specs.ByteStored.{Stored, has_key, comes_after, place_of, nearer}

later : (i : ℕ) (o : Option ℕ) → option_map (λ n. i + 1 + n) o ≡ option_map (λ n. i + n) (option_map suc o)
later i None = refl
later i (Some n) = ap Some (omega arith)

module _ (s : ℕ) (r : Row) where
  place_from : (i : ℕ) (cs : List (List ℕ)) → position_from (λ c. has_key s r (line_in c)) i cs ≡ option_map (λ n. i + n) (place_of s r (map line_in cs))
  unfolding place_of
  place_from i [] = refl
  place_from i (c ∷ cs) = by (has_key s r (line_in c)) (place_from (i + 1) cs)
    where
      by : (b : Bool) → position_from (λ c. has_key s r (line_in c)) (i + 1) cs ≡ option_map (λ n. i + 1 + n) (place_of s r (map line_in cs)) →
          cond b (Some i) (position_from (λ c. has_key s r (line_in c)) (i + 1) cs) ≡ option_map (λ n. i + n) (cond b (Some 0) (option_map suc (place_of s r (map line_in cs))))
      by true ih = ap Some (let z : i ≡ i + 0 = omega arith in z)
      by false ih = ih ∙ later i (place_of s r (map line_in cs))

  from_start : (o : Option ℕ) → option_map (λ n. 0 + n) o ≡ o
  from_start None = refl
  from_start (Some n) = ap Some (omega arith)

  pub place_is_position : (cs : List (List ℕ)) → position (λ c. has_key s r (line_in c)) cs ≡ place_of s r (map line_in cs)
  place_is_position cs = position_from-zero (λ c. has_key s r (line_in c)) cs ∙ place_from 0 cs ∙ from_start (place_of s r (map line_in cs))

  pub kept_then_read : (cs : List (List ℕ)) → map line_in (filter (λ c. comes_after s r (line_in c)) cs) ≡ filter (comes_after s r) (map line_in cs)
  kept_then_read [] = refl
  kept_then_read (c ∷ cs) = by (comes_after s r (line_in c)) (kept_then_read cs)
    where
      on : List (List ℕ)
      on = filter (λ c. comes_after s r (line_in c)) cs

      by : (b : Bool) → map line_in on ≡ filter (comes_after s r) (map line_in cs) → map line_in (cond b (c ∷ on) on) ≡ cond b (line_in c ∷ filter (comes_after s r) (map line_in cs)) (filter (comes_after s r) (map line_in cs))
      by true ih = ap (λ ls. line_in c ∷ ls) ih
      by false ih = ih

abbrev pub nearer_yet : Option StockLine → StockLine → StockLine
nearer_yet o l = option_map_or (λ k. nearer k l) o l

begun : (k : StockLine) (ls : Stored) → fold (λ o l. Some (nearer_yet o l)) (Some k) ls ≡ Some (fold nearer k ls)
begun k [] = refl
begun k (l ∷ ls) = begun (nearer k l) ls

pub fold_is_reduce : (ls : Stored) → fold (λ o l. Some (nearer_yet o l)) None ls ≡ reduce nearer ls
fold_is_reduce [] = refl
fold_is_reduce (l ∷ ls) = begun l ls
