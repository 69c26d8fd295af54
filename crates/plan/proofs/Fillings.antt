-- Places that are filled one by one by what a reader reads.
use Rattle.std.proofs.Common.{◌≡◌, ℕ, suc, ◌+◌, ◌-◌, ◌<◌, ◌≤◌, List, [], ◌∷◌, ◌++◌, length, take, drop, set, replicate, Ok, Err, sym, refl, ap, ◌∙◌, append_assoc, append-nil, arith}
use Rattle.std.proofs.lemmas.List.{take_more_set, take_all, drop-replicate, length-take-le, length-replicate}
use Rattle.plan.specs.Fields.{Read, then, items, listed}

abbrev pub before : {X : Type 0} → List X → Read (List X) → Read (List X)
before xs (Ok l) = Ok (xs ++ l.0, l.1)
before xs (Err e) = Err e

before_none : {X : Type 0} (o : Read (List X)) → before [] o ≡ o
before_none (Ok l) = refl
before_none (Err e) = refl

before_more : {X : Type 0} (xs : List X) (x : X) (o : Read (List X)) → before (xs ++ x ∷ []) o ≡ before xs (before (x ∷ []) o)
before_more xs x (Ok l) = ap (λ ys. Ok (ys, l.1)) (append_assoc xs (x ∷ []) l.0)
before_more xs x (Err e) = refl

module _ {X : Type 0} (reader : List ℕ → Read X) where
  items_more : (n : ℕ) (bytes : List ℕ) (x : X) (left : List ℕ) → reader bytes ≡ Ok (x, left) → items reader (suc n) bytes ≡ before (x ∷ []) (items reader n left)
  unfolding items
  items_more n bytes x left e = rw e (on (items reader n left))
    where
      on : (o : Read (List X)) → then o (λ xs. Ok (x ∷ xs.0, xs.1)) ≡ before (x ∷ []) o
      on (Ok l) = refl
      on (Err e) = refl

  items_stop : (n : ℕ) (bytes : List ℕ) (e : ℕ) → reader bytes ≡ Err e → items reader (suc n) bytes ≡ Err e
  unfolding items
  items_stop n bytes e f = rw f refl

  items_none : (bytes : List ℕ) → items reader 0 bytes ≡ Ok ([], bytes)
  unfolding items
  items_none bytes = refl

  -- the first i of n places are filled, and what is left fills the others
  abbrev pub Filling : ℕ → List ℕ → ℕ → List X → List ℕ → Type 0
  Filling n bytes i places rest = before (take i places) (items reader (n - i) rest) ≡ items reader n bytes

  module _ (n : ℕ) (bytes : List ℕ) where
    pub filling_none : (places : List X) → Filling n bytes 0 places bytes
    filling_none places = let z : n - 0 ≡ n = omega arith in before_none (items reader (n - 0) bytes) ∙ ap (λ m. items reader m bytes) z

    module _ (i : ℕ) (places : List X) (rest : List ℕ) (f : Filling n bytes i places rest) where
      pub filling_more : (x : X) (left : List ℕ) → length places ≡ n → i < n → reader rest ≡ Ok (x, left) → Filling n bytes (i + 1) (set places i x) left
      filling_more x left l h e =
          let s : n - i ≡ suc (n - (i + 1)) = omega arith in
          let g : items reader (n - i) rest ≡ before (x ∷ []) (items reader (n - (i + 1)) left) = ap (λ k. items reader k rest) s ∙ items_more (n - (i + 1)) rest x left e in
          ap (λ ys. before ys (items reader (n - (i + 1)) left)) (take_more_set places i x (omega arith)) ∙ (before_more (take i places) x (items reader (n - (i + 1)) left) ∙ (ap (before (take i places)) (sym g) ∙ f))

      pub filling_stop : (e : ℕ) → i < n → reader rest ≡ Err e → items reader n bytes ≡ Err e
      filling_stop e h g =
          let s : n - i ≡ suc (n - (i + 1)) = omega arith in
          let o : items reader (n - i) rest ≡ Err e = ap (λ k. items reader k rest) s ∙ items_stop (n - (i + 1)) rest e g in
          sym f ∙ ap (before (take i places)) o

      pub filling_all : length places ≡ n → n ≤ i → items reader n bytes ≡ Ok (places, rest)
      filling_all l h =
          let z : n - i ≡ 0 = omega arith in
          let o : items reader (n - i) rest ≡ Ok ([], rest) = ap (λ k. items reader k rest) z ∙ items_none rest in
          let t : take i places ≡ places = take_all i places (omega arith) in
          sym f ∙ (ap (before (take i places)) o ∙ ap (λ ys. Ok (ys, rest)) (append-nil (take i places) ∙ t))

  -- the first n of blank places are filled
  pub filled : (size : ℕ) (blank : X) (n : ℕ) (bytes : List ℕ) (xs : List X) (left : List ℕ) → n ≤ size → length xs ≡ length (take n (replicate size blank)) → items reader (length (take n (replicate size blank))) bytes ≡ Ok (xs, left) → listed size blank (items reader n bytes) ≡ Ok (xs ++ drop n (replicate size blank), left)
  filled size blank n bytes xs left h l e =
      let m : length (take n (replicate size blank)) ≡ n = length-take-le n (replicate size blank) (omega (arith, length-replicate size blank)) in
      ap (λ k. listed size blank (items reader k bytes)) (sym m) ∙ (ap (listed size blank) e ∙ ap (λ ys. Ok (xs ++ ys, left)) (ap (λ k. replicate (size - k) blank) (l ∙ m) ∙ sym (drop-replicate n size blank)))
