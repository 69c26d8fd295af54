-- The images of a run's lines added up one by one. Assumes nothing.
--     images_none, images_more      none, and one line more
--     image_fits                    the sum that a line leads to fits 32 bits
--     images_room                   there is room for it
use Rattle.std.proofs.Common.{◌≡◌, ℕ, ◌+◌, ◌*◌, ◌<◌, ◌≤◌, [], ◌∷◌, ◌++◌, length, get_or, take, ℤ, ◌+ℤ◌, nat_abs, sym, refl, ap, ◌∙◌, subst, ap₂, arith, w32, SFits}
use lib.IntN.{+ℤ_idl}
use Rattle.std.proofs.lemmas.List.{take_more, length-take}
use Rattle.std.proofs.ByRecursion.{All-get_or, All-take}
use Rattle.bag.specs.Order.{Row}
use Rattle.bag.specs.Bag.{Line, Lines, count}
use Rattle.bag.specs.Operators.{map_rows}
use Rattle.delta_groups.specs.Nets.{added, gathered_onto, gathered, SmallLines}
use Rattle.delta_groups.proofs.Gathered.{gathered_more, count_gathered, length_gathered, count_small, sum_fits}

abbrev small : Line → Type 0
small e = nat_abs e.1 ≤ 65535

module _ (g : Row → Row) where
  map-rows-++ : (xs : Lines) (e : Line) → map_rows g (xs ++ (e ∷ [])) ≡ map_rows g xs ++ ((g e.0, e.1) ∷ [])
  unfolding map_rows
  map-rows-++ [] e = refl
  map-rows-++ (x ∷ xs) e = ap (λ t. (g x.0, x.1) ∷ t) (map-rows-++ xs e)

  pub length_map_rows : (xs : Lines) → length (map_rows g xs) ≡ length xs
  unfolding map_rows
  length_map_rows [] = refl
  length_map_rows (x ∷ xs) = let h = length_map_rows xs in omega arith

  small_map_rows : (xs : Lines) → SmallLines xs → SmallLines (map_rows g xs)
  unfolding map_rows
  small_map_rows [] s = tt
  small_map_rows (x ∷ xs) s = (s.0, small_map_rows xs s.1)

  pub images_none : [] ≡ gathered (map_rows g [])
  unfolding map_rows gathered_onto
  images_none = refl

  module _ (d : Lines) (i : ℕ) (e : Line) (h : i < length d) where
    pub images_more : (r : Row) (n : ℤ) → r ≡ g (get_or d i e).0 → n ≡ (get_or d i e).1 → added r n (gathered (map_rows g (take i d))) ≡ gathered (map_rows g (take (i + 1) d))
    images_more r n p q =
        ap₂ (λ x m. added x m (gathered (map_rows g (take i d)))) p q
        ∙ sym (ap (λ t. gathered (map_rows g t)) (take_more d i e h) ∙ ap gathered (map-rows-++ (take i d) (get_or d i e)) ∙ gathered_more [] (map_rows g (take i d)) (g (get_or d i e).0, (get_or d i e).1))

    long : length (map_rows g (take i d)) ≡ i
    long = let t = length-take i d in length_map_rows (take i d) ∙ omega arith

    pub image_fits : (r : Row) (n : ℤ) → n ≡ (get_or d i e).1 → SmallLines d → length d ≤ 8192 → SFits w32 (count (gathered (map_rows g (take i d))) r +ℤ n)
    unfolding count
    image_fits r n q s l =
        let ys = map_rows g (take i d) in
        let is : count (gathered ys) r ≡ count ys r = count_gathered [] ys r ∙ +ℤ_idl (count ys r) in
        let b = count_small ys (small_map_rows (take i d) (All-take small i d s)) r in
        let k : nat_abs n ≤ 65535 = subst (λ (z : ℤ). nat_abs z ≤ 65535) (sym q) (All-get_or small d i e h s) in
        subst (λ (z : ℤ). SFits w32 (z +ℤ n)) (sym is) (sum_fits (count ys r) n i (subst (λ (m : ℕ). nat_abs (count ys r) ≤ 65535 * m) long b) (omega arith) k)

    pub images_room : (m : ℕ) → length d ≤ m → length (gathered (map_rows g (take i d))) < m
    images_room m l = let a = length_gathered [] (map_rows g (take i d)) in let b = long in omega arith
