-- Bytes laid into bytes, one run behind the other. Assumes nothing.
use Rattle.std.proofs.Common.{◌≡◌, ℕ, ◌+◌, ◌-◌, ◌≤◌, List, ◌++◌, length, take, drop, sym, refl, ap, ◌∙◌, append_assoc, arith, length-append}
use borrow.Rule.Slice.PartMut.{put_mid}
use Rattle.std.proofs.lemmas.List.{drop-drop, length-take-le, take_at, drop_at}
use Rattle.byte_stock.specs.ByteLines.{laid}

-- what a copy into a part of a buffer leaves
pub laid_by_copy : (buffer bytes copied : List ℕ) (at : ℕ) → copied ≡ bytes → put_mid at ((at + length bytes) - at) buffer copied ≡ laid buffer at bytes
unfolding laid
laid_by_copy buffer bytes copied at e =
    let k : (at + length bytes) - at ≡ length bytes = omega arith in
    rw (e, k, drop-drop) refl

module _ (buffer : List ℕ) (at : ℕ) (xs : List ℕ) (room : at + length xs ≤ length buffer) where
  front : length (take at buffer ++ xs) ≡ at + length xs
  front = length-append (take at buffer) xs ∙ ap (λ n. n + length xs) (length-take-le at buffer (omega arith))

  split : laid buffer at xs ≡ (take at buffer ++ xs) ++ drop (at + length xs) buffer
  unfolding laid
  split = sym (append_assoc (take at buffer) xs (drop (at + length xs) buffer))

  pub laid_more : (ys : List ℕ) → laid (laid buffer at xs) (at + length xs) ys ≡ laid buffer at (xs ++ ys)
  unfolding laid
  laid_more ys =
      let t : take (at + length xs) (laid buffer at xs) ≡ take at buffer ++ xs = ap (take (at + length xs)) split ∙ take_at (take at buffer ++ xs) (drop (at + length xs) buffer) (at + length xs) front in
      let d : drop (at + length xs) (laid buffer at xs) ≡ drop (at + length xs) buffer = ap (drop (at + length xs)) split ∙ drop_at (take at buffer ++ xs) (drop (at + length xs) buffer) (at + length xs) front in
      let g : drop ((at + length xs) + length ys) (laid buffer at xs) ≡ drop (at + length (xs ++ ys)) buffer =
      sym (drop-drop (length ys) (at + length xs) (laid buffer at xs)) ∙ (ap (drop (length ys)) d ∙ (drop-drop (length ys) (at + length xs) buffer ∙ ap (λ n. drop n buffer) (omega (arith, length-append xs ys)))) in
      ap (λ (l : List ℕ). l ++ (ys ++ drop ((at + length xs) + length ys) (laid buffer at xs))) t
      ∙ (ap (λ (l : List ℕ). (take at buffer ++ xs) ++ (ys ++ l)) g
      ∙ (append_assoc (take at buffer) xs (ys ++ drop (at + length (xs ++ ys)) buffer)
      ∙ ap (λ (l : List ℕ). take at buffer ++ l) (sym (append_assoc xs ys (drop (at + length (xs ++ ys)) buffer)))))
