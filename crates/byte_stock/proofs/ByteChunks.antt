-- Bytes taken in chunks of equal length, and a list that is made by its places. Assumes nothing.
--     made_at_place            what `from_fn` makes with a closure that computes h
--     chunk_at                 the chunk at a place
--     take_chunks              the first chunks
--     line_in_chunk, lines_in_chunks      the lines that the chunks of 35 bytes hold are the lines that the bytes store
use Rattle.std.proofs.Common.{◌≡◌, ℕ, zero, suc, ◌+◌, ◌*◌, ◌<◌, ◌≤◌, ◌⊎◌, List, [], ◌∷◌, length, get_or, map, take, drop, inl, inr, sym, refl, ap, ◌∙◌, subst, mul-suc, arith}
use Rattle.std.specs.Fn.{Called}
use Rattle.std.specs.Simd.{first_chunks}
use Rattle.std.specs.Array.{IsFromFnResultFrom, IsFromFnResult}
use Rattle.std.proofs.lemmas.Bool.{cases_eq}
use Rattle.std.proofs.lemmas.List.{drop-drop, get_or-drop, get_or-take, get_or-map, length-map}
use Rattle.std.proofs.lemmas.List.FromFn.{fill_by_all}
use denote.Param.Members.{Mut}
use Rattle.bag.specs.Lines.{blank_stock_line}
use Rattle.byte_stock.specs.ByteLines.{four_at, two_at, row_at, line_at, line_in, stored_in}
use Rattle.byte_stock.proofs.ByteCodec.{same_line, row_shift, two_shift}

module _ {F B : Type 0} {g : Mut F (ℕ × Unit {0}) B} {f : F} (h : ℕ → B) (each : (i : ℕ) (r : B) (q : F) → Called g f (i, tt) r q → (q ≡ f) × (r ≡ h i)) (d : B) (ys : List B) where
  made_from : (n i : ℕ) (p : F) → p ≡ f → IsFromFnResultFrom g p ys i n → (k : ℕ) → i ≤ k → k < i + n → get_or ys k d ≡ h k
  made_from zero i p e m k a b = absurd (omega arith)
  made_from (suc n) i p e m k a b =
      let told : (m.0 ≡ f) × (m.1 ≡ h i) = each i m.1 m.0 (subst (λ x. Called g x (i, tt) m.1 m.0) e m.3) in
      by told.1 (made_from n (i + 1) m.0 told.0 m.4 k) (cases_eq k i)
    where
      by : m.1 ≡ h i → (i + 1 ≤ k → k < i + 1 + n → get_or ys k d ≡ h k) → (k ≡ i) ⊎ (k ≡ i → ⊥) → get_or ys k d ≡ h k
      by t later (inl q) = ap (λ j. get_or ys j d) q ∙ m.2.1 d ∙ t ∙ ap h (sym q)
      by t later (inr q) = later (omega arith) (omega arith)

  pub made_at_place : (n : ℕ) → IsFromFnResult g f ys n → (k : ℕ) → k < n → get_or ys k d ≡ h k
  made_at_place n m k l = made_from n 0 f refl m.each k (omega arith) (omega arith)

pub chunk_at : {X : Type 0} (n k : ℕ) (xs : List X) (i : ℕ) (d : List X) → i < k → get_or (first_chunks n k xs) i d ≡ take n (drop (n * i) xs)
chunk_at n zero xs i d h = absurd (omega arith)
chunk_at n (suc k) xs zero d h = ap (λ m. take n (drop m xs)) (let z : 0 ≡ n * 0 = omega arith in z)
chunk_at n (suc k) xs (suc i) d h = chunk_at n k (drop n xs) i d (omega arith) ∙ ap (take n) (drop-drop (n * i) n xs ∙ ap (λ m. drop m xs) (let z : n + n * i ≡ n * suc i = omega (arith, mul-suc n i) in z))

pub take_chunks : {X : Type 0} (n j k : ℕ) (xs : List X) → j ≤ k → take j (first_chunks n k xs) ≡ first_chunks n j xs
take_chunks n zero k xs h = refl
take_chunks n (suc j) zero xs h = absurd (omega arith)
take_chunks n (suc j) (suc k) xs h = ap (λ l. take n xs ∷ l) (take_chunks n j k (drop n xs) (omega arith))

length_chunks : {X : Type 0} (n k : ℕ) (xs : List X) → length (first_chunks n k xs) ≡ k
length_chunks n zero xs = refl
length_chunks n (suc k) xs = ap suc (length_chunks n k (drop n xs))

module _ (a b : List ℕ) (same : (j : ℕ) → j < 35 → get_or a j 0 ≡ get_or b j 0) where
  four_same : (p : ℕ) → p + 3 < 35 → four_at a p ≡ four_at b p
  four_same p h =
      let e = same p (omega arith) in
      let f = same (p + 1) (omega arith) in
      let g = same (p + 2) (omega arith) in
      let i = same (p + 3) h in
      cc

  row_same : row_at a 1 ≡ row_at b 1
  unfolding row_at
  row_same =
      let c = four_same 1 (omega arith) in
      let d = four_same 5 (omega arith) in
      let e = four_same 9 (omega arith) in
      let f = four_same 13 (omega arith) in
      let g = four_same 17 (omega arith) in
      let h = four_same 21 (omega arith) in
      let i = four_same 25 (omega arith) in
      let j = four_same 29 (omega arith) in
      cc

  line_same : line_in a ≡ line_in b
  unfolding line_at
  line_same =
      let e = same 33 (omega arith) in
      let f = same 34 (omega arith) in
      let count : two_at a 33 ≡ two_at b 33 = cc in
      same_line (line_in a) (line_in b) (same 0 (omega arith)) row_same count

line_dropped : (b : List ℕ) (k : ℕ) → line_in (drop (35 * k) b) ≡ line_at b k
unfolding line_at
line_dropped b k =
    let p = 35 * k in
    let shelf : get_or (drop p b) 0 0 ≡ get_or b p 0 = get_or-drop p b 0 0 ∙ ap (λ j. get_or b j 0) (let z : p + 0 ≡ p = omega arith in z) in
    same_line (line_in (drop p b)) (line_at b k) shelf (sym (row_shift b p 1)) (sym (two_shift b p 33))

pub line_in_chunk : (b : List ℕ) (n k : ℕ) → k < n → line_in (get_or (first_chunks 35 n b) k []) ≡ line_at b k
line_in_chunk b n k h =
    ap line_in (chunk_at 35 n b k [] h)
    ∙ line_same (take 35 (drop (35 * k) b)) (drop (35 * k) b) (λ j l. get_or-take 35 (drop (35 * k) b) j 0 l)
    ∙ line_dropped b k

pub lines_in_chunks : (b : List ℕ) (n : ℕ) → map line_in (first_chunks 35 n b) ≡ stored_in n b
lines_in_chunks b n =
    let long = length_chunks 35 n b in
    fill_by_all (line_at b) (map line_in (first_chunks 35 n b)) n blank_stock_line (length-map (first_chunks 35 n b) line_in ∙ long)
    (λ k h. get_or-map line_in (first_chunks 35 n b) k [] blank_stock_line (omega arith) ∙ line_in_chunk b n k h)
