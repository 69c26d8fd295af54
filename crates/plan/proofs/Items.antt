-- Fields of one kind, read from bytes that were written, and bytes that were read.
use Rattle.std.proofs.Common.{◌≡◌, ℕ, zero, suc, ◌-◌, ◌≤◌, Bool, true, false, eqb, List, [], ◌∷◌, ◌++◌, length, take, drop, replicate, Ok, Err, Result, sym, refl, ap, ◌∙◌, subst, append_assoc, arith, length-append}
use Rattle.std.specs.List.{flat_map}
use Rattle.std.proofs.lemmas.List.{length-replicate, length-take-le, length-drop, take_at, drop_at, take-append-drop}
use Rattle.std.proofs.lemmas.Bool.{and_parts, and_from, eqb-true, eq-eqb}
use Rattle.plan.specs.Lawful.{every, list_fits}
use Rattle.plan.specs.Fields.{Read, then, when, items, padded, listed}

-- what was read before a good answer
pub then_ok : {X Y : Type 0} (r : Result X ℕ) (f : X → Result Y ℕ) (y : Y) → then r f ≡ Ok y → (x : X) × (r ≡ Ok x) × (f x ≡ Ok y)
then_ok (Ok x) f y e = (x, refl, e)
then_ok (Err c) f y e = cc

pub when_ok : {X : Type 0} (b : Bool) (c : ℕ) (x y : X) → when b c x ≡ Ok y → (b ≡ true) × (x ≡ y)
when_ok true c x y e = (refl, cc)
when_ok false c x y e = cc

pub ok_same : {X : Type 0} (x y : X) → ◌≡◌ {A = Result X ℕ} (Ok x) (Ok y) → x ≡ y
ok_same x y e = cc

every_blank : {X : Type 0} (blank : X → Bool) (b : X) → blank b ≡ true → (n : ℕ) → every blank (replicate n b) ≡ true
unfolding every
every_blank blank b e zero = refl
every_blank blank b e (suc n) = and_from (blank b) (every blank (replicate n b)) e (every_blank blank b e n)

blank_every : {X : Type 0} (blank : X → Bool) (b : X) → ((x : X) → blank x ≡ true → x ≡ b) → (xs : List X) → every blank xs ≡ true → xs ≡ replicate (length xs) b
unfolding every
blank_every blank b same [] e = refl
blank_every blank b same (x ∷ xs) e =
    let p = and_parts (blank x) (every blank xs) e in
    let f = same x p.0 in
    let g = blank_every blank b same xs p.1 in
    ap (λ y. y ∷ xs) f ∙ ap (λ ys. b ∷ ys) g

module _ {X : Type 0} (reader : List ℕ → Read X) (code : X → List ℕ) (test : X → Bool) where
  items_was : ((bytes : List ℕ) (p : X × List ℕ) → reader bytes ≡ Ok p → (bytes ≡ code p.0 ++ p.1) × (test p.0 ≡ true)) →
      (n : ℕ) (bytes : List ℕ) (l : List X × List ℕ) → items reader n bytes ≡ Ok l → (bytes ≡ flat_map code l.0 ++ l.1) × (every test l.0 ≡ true) × (length l.0 ≡ n)
  unfolding items every
  items_was each zero bytes l e =
      let s = ok_same ([], bytes) l e in
      subst (λ (m : List X × List ℕ). (bytes ≡ flat_map code m.0 ++ m.1) × (every test m.0 ≡ true) × (length m.0 ≡ 0)) s (refl, refl, refl)
  items_was each (suc n) bytes l e =
      let a = then_ok (reader bytes) _ l e in
      let b = then_ok (items reader n a.0.1) _ l a.2 in
      let g = each bytes a.0 a.1 in
      let h = items_was each n a.0.1 b.0 b.1 in
      let s = ok_same (a.0.0 ∷ b.0.0, b.0.1) l b.2 in
      let q : bytes ≡ (code a.0.0 ++ flat_map code b.0.0) ++ b.0.1 = g.0 ∙ (ap (λ ys. code a.0.0 ++ ys) h.0 ∙ sym (append_assoc (code a.0.0) (flat_map code b.0.0) b.0.1)) in
      subst (λ (m : List X × List ℕ). (bytes ≡ flat_map code m.0 ++ m.1) × (every test m.0 ≡ true) × (length m.0 ≡ suc n)) s (q, and_from (test a.0.0) (every test b.0.0) g.1 h.1, ap suc h.2)

  items_read : ((x : X) (rest : List ℕ) → test x ≡ true → reader (code x ++ rest) ≡ Ok (x, rest)) →
      (xs : List X) (rest : List ℕ) → every test xs ≡ true → items reader (length xs) (flat_map code xs ++ rest) ≡ Ok (xs, rest)
  unfolding items every
  items_read each [] rest e = refl
  items_read each (x ∷ xs) rest e =
      let p = and_parts (test x) (every test xs) e in
      rw (append_assoc (code x) (flat_map code xs) rest, each x (flat_map code xs ++ rest) p.0, items_read each xs rest p.1) refl

  module _ (size : ℕ) (blank : X → Bool) (b : X) where
    pub listed_was : ((bytes : List ℕ) (p : X × List ℕ) → reader bytes ≡ Ok p → (bytes ≡ code p.0 ++ p.1) × (test p.0 ≡ true)) → blank b ≡ true →
        (n : ℕ) (bytes : List ℕ) (l : List X × List ℕ) → n ≤ size → listed size b (items reader n bytes) ≡ Ok l → (bytes ≡ flat_map code (take n l.0) ++ l.1) × (list_fits size test blank n l.0 ≡ true)
    listed_was each is-blank n bytes l h e = on (items reader n bytes) refl e
      where
        on : (o : Read (List X)) → items reader n bytes ≡ o → listed size b o ≡ Ok l → (bytes ≡ flat_map code (take n l.0) ++ l.1) × (list_fits size test blank n l.0 ≡ true)
        on (Err c) f e = cc
        on (Ok xs) f e =
            let w = items_was each n bytes xs f in
            let s = ok_same (padded size b xs.0, xs.1) l e in
            let pad = replicate (size - length xs.0) b in
            let t : take n (padded size b xs.0) ≡ xs.0 = take_at xs.0 pad n w.2 in
            let d : drop n (padded size b xs.0) ≡ pad = drop_at xs.0 pad n w.2 in
            let n' = w.2 in
            let long : length (padded size b xs.0) ≡ size = length-append xs.0 pad ∙ omega (arith, length-replicate (size - length xs.0) b) in
            let fit : list_fits size test blank n (padded size b xs.0) ≡ true =
            and_from (eqb (length (padded size b xs.0)) size) _ (eq-eqb (length (padded size b xs.0)) size long)
            (and_from (every test (take n (padded size b xs.0))) (every blank (drop n (padded size b xs.0))) (ap (every test) t ∙ w.1) (ap (every blank) d ∙ every_blank blank b is-blank (size - length xs.0))) in
            subst (λ (m : List X × List ℕ). (bytes ≡ flat_map code (take n m.0) ++ m.1) × (list_fits size test blank n m.0 ≡ true)) s (w.0 ∙ ap (λ ys. flat_map code ys ++ xs.1) (sym t), fit)

    pub listed_read : ((x : X) (rest : List ℕ) → test x ≡ true → reader (code x ++ rest) ≡ Ok (x, rest)) → ((x : X) → blank x ≡ true → x ≡ b) →
        (n : ℕ) (xs : List X) (rest : List ℕ) → n ≤ size → list_fits size test blank n xs ≡ true → listed size b (items reader n (flat_map code (take n xs) ++ rest)) ≡ Ok (xs, rest)
    listed_read each same n xs rest h e =
        let p = and_parts (eqb (length xs) size) _ e in
        let q = and_parts (every test (take n xs)) (every blank (drop n xs)) p.1 in
        let long : length xs ≡ size = eqb-true (length xs) size p.0 in
        let lt : length (take n xs) ≡ n = length-take-le n xs (omega arith) in
        let r : items reader n (flat_map code (take n xs) ++ rest) ≡ Ok (take n xs, rest) = subst (λ m. items reader m (flat_map code (take n xs) ++ rest) ≡ Ok (take n xs, rest)) lt (items_read each (take n xs) rest q.0) in
        let ld : length (drop n xs) ≡ size - length (take n xs) = length-drop n xs ∙ omega arith in
        let d : drop n xs ≡ replicate (size - length (take n xs)) b = blank_every blank b same (drop n xs) q.1 ∙ ap (λ m. replicate m b) ld in
        let w : padded size b (take n xs) ≡ xs = ap (λ ys. take n xs ++ ys) (sym d) ∙ take-append-drop n xs in
        ap (listed size b) r ∙ ap (λ ys. Ok (ys, rest)) w
