-- What a plan's invariant says of its node i.
use Rattle.std.proofs.Common.{◌≡◌, ℕ, zero, suc, ◌+◌, ◌<◌, ◌≤◌, Bool, true, ◌&&◌, eqb, ltb, leb, List, [], ◌∷◌, ◌++◌, length, get_or, take, drop, Option, Some, IfSome, sym, refl, ap, ◌∙◌, subst, ⊎_elim, arith}
use Rattle.std.proofs.lemmas.Bool.{and_parts, leb-true, ltb-true, eqb-true, cases_lt}
use Rattle.std.proofs.lemmas.List.{length-take-le, get_or-take, get_or_push, take_more}
use Rattle.std.proofs.lemmas.Option.{slice_get-get_or, slice_get_past}
use Rattle.std.specs.List.{slice_get}
use Rattle.bag.specs.declared.condition.Operand.{Operand}
use Rattle.bag.specs.declared.condition.Operand.TheVariants.{Constant, Column}
use Rattle.plan.specs.declared.node.Node.{Node}
use Rattle.plan.specs.declared.node.Node.TheVariants.{Base, Keep, Pick, Pair, Both, Less, Total}
use Rattle.plan.specs.Lawful.{width, every, list_fits, columns_fit, pair_fits, pairs_fit, operand_fits, fits, widths, lawful, OneToEight}
use Rattle.plan.specs.Fields.{no_pair}
use Rattle.plan.specs.Sound.{ColumnsBelow, OperandBelow, Sound, Handed}
use Rattle.plan.proofs.Growth.{widths_push, widths_length, lawful_at, widths_take, Narrow, narrow_none, widths_narrow, widths_one_to_eight}

every_at : {X : Type 0} (test : X → Bool) (xs : List X) → every test xs ≡ true → (j : ℕ) (d : X) → j < length xs → test (get_or xs j d) ≡ true
unfolding every
every_at test [] e j d h = absurd (omega arith)
every_at test (x ∷ xs) e zero d h = (and_parts (test x) (every test xs) e).0
every_at test (x ∷ xs) e (suc j) d h = every_at test xs (and_parts (test x) (every test xs) e).1 j d (omega arith)

listed_at : {X : Type 0} (size : ℕ) (test blank : X → Bool) (n : ℕ) (xs : List X) → n ≤ size → list_fits size test blank n xs ≡ true → (j : ℕ) (d : X) → j < n → test (get_or xs j d) ≡ true
listed_at size test blank n xs m e j d h =
    let p = and_parts (eqb (length xs) size) _ e in
    let q = and_parts (every test (take n xs)) (every blank (drop n xs)) p.1 in
    let long : length xs ≡ size = eqb-true (length xs) size p.0 in
    let lt : length (take n xs) ≡ n = length-take-le n xs (omega arith) in
    subst (λ x. test x ≡ true) (get_or-take n xs j d h) (every_at test (take n xs) q.0 j d (omega arith))

listed_long : {X : Type 0} (size : ℕ) (test blank : X → Bool) (n : ℕ) (xs : List X) → list_fits size test blank n xs ≡ true → length xs ≡ size
listed_long size test blank n xs e = eqb-true (length xs) size (and_parts (eqb (length xs) size) _ e).0

columns_long : (n w : ℕ) (cs : List ℕ) → columns_fit n w cs ≡ true → length cs ≡ 8
columns_long n w cs e = listed_long 8 (λ c. ltb c w) (λ c. eqb c 0) n cs e

columns_below : (n w : ℕ) (cs : List ℕ) → n ≤ 8 → columns_fit n w cs ≡ true → ColumnsBelow n cs w
columns_below n w cs m e j h = ltb-true (get_or cs j 0) w (listed_at 8 (λ c. ltb c w) (λ c. eqb c 0) n cs m e j 0 h)

operand_below : (o : Operand) (w : ℕ) → operand_fits w o ≡ true → OperandBelow o w
operand_below (Constant v) w e = tt
operand_below (Column b) w e = ltb-true b w e

module _ (k : ℕ) (ws : List ℕ) (i : ℕ) (inside : i ≤ length ws) where
  lower : (c : ℕ) → ltb c (length (take i ws)) ≡ true → c < i
  lower c e = let l = length-take-le i ws inside in let m = ltb-true c (length (take i ws)) e in omega arith

  at : (c : ℕ) → c < i → get_or (take i ws) c 0 ≡ get_or ws c 0
  at c h = get_or-take i ws c 0 h

  fits_sound : (x : Node) → fits k (take i ws) x ≡ true → Sound k ws i x
  fits_sound (Base w) e =
      let p = and_parts (leb 1 w) (leb w 8) e in
      record { some = leb-true 1 w p.0; narrow = leb-true w 8 p.1 }
  fits_sound (Keep c a r o) e =
      let p = and_parts (ltb c (length (take i ws))) _ e in
      let q = and_parts (ltb a (get_or (take i ws) c 0)) _ p.1 in
      let h = lower c p.0 in
      record {
        lower = h;
        column = subst (λ w. a < w) (at c h) (ltb-true a (get_or (take i ws) c 0) q.0);
        other = subst (OperandBelow o) (at c h) (operand_below o (get_or (take i ws) c 0) q.1);
      }
  fits_sound (Pick c cs) e =
      let p = and_parts (ltb c (length (take i ws))) _ e in
      let q = and_parts (leb 1 cs.count && leb cs.count 8) _ p.1 in
      let s = and_parts (leb 1 cs.count) (leb cs.count 8) q.0 in
      let h = lower c p.0 in
      record {
        lower = h;
        some = leb-true 1 cs.count s.0;
        few = leb-true cs.count 8 s.1;
        below = subst (ColumnsBelow cs.count cs.places) (at c h) (columns_below cs.count (get_or (take i ws) c 0) cs.places (leb-true cs.count 8 s.1) q.1);
      }
  fits_sound (Pair l r ps) e =
      let vs = take i ws in
      let p = and_parts (ltb l (length vs)) _ e in
      let q = and_parts (ltb r (length vs)) _ p.1 in
      let s = and_parts (leb ps.count 4) _ q.1 in
      let t = and_parts (pairs_fit ps.count (get_or vs l 0) (get_or vs r 0) ps.places) _ s.1 in
      let hl = lower l p.0 in
      let hr = lower r q.0 in
      let each : (j : ℕ) → j < ps.count → pair_fits (get_or vs l 0) (get_or vs r 0) (get_or ps.places j no_pair) ≡ true = λ j h. listed_at 4 (pair_fits (get_or vs l 0) (get_or vs r 0)) _ ps.count ps.places (leb-true ps.count 4 s.0) t.0 j no_pair h in
      let el = at l hl in
      let er = at r hr in
      record {
        left = hl;
        right = hr;
        few = leb-true ps.count 4 s.0;
        left_below = λ j h. subst (λ w. (get_or ps.places j no_pair).left < w) el (ltb-true (get_or ps.places j no_pair).left (get_or vs l 0) (and_parts (ltb (get_or ps.places j no_pair).left (get_or vs l 0)) _ (each j h)).0);
        right_below = λ j h. subst (λ w. (get_or ps.places j no_pair).right < w) er (ltb-true (get_or ps.places j no_pair).right (get_or vs r 0) (and_parts (ltb (get_or ps.places j no_pair).left (get_or vs l 0)) _ (each j h)).1);
        narrow = let m = leb-true (get_or vs l 0 + get_or vs r 0) 8 t.1 in omega arith;
      }
  fits_sound (Both l r) e =
      let p = and_parts (ltb l (length (take i ws))) _ e in
      let q = and_parts (ltb r (length (take i ws))) _ p.1 in
      let hl = lower l p.0 in
      let hr = lower r q.0 in
      record { left = hl; right = hr; equal = sym (at l hl) ∙ (eqb-true (get_or (take i ws) l 0) (get_or (take i ws) r 0) q.1 ∙ at r hr) }
  fits_sound (Less l r) e =
      let p = and_parts (ltb l (length (take i ws))) _ e in
      let q = and_parts (ltb r (length (take i ws))) _ p.1 in
      let hl = lower l p.0 in
      let hr = lower r q.0 in
      record { left = hl; right = hr; equal = sym (at l hl) ∙ (eqb-true (get_or (take i ws) l 0) (get_or (take i ws) r 0) q.1 ∙ at r hr) }
  fits_sound (Total c j cs) e =
      let p = and_parts (ltb c (length (take i ws))) _ e in
      let q = and_parts (ltb j (get_or (take i ws) c 0)) _ p.1 in
      let s = and_parts (leb cs.count 7) _ q.1 in
      let t = and_parts (columns_fit cs.count (get_or (take i ws) c 0) cs.places) _ s.1 in
      let h = lower c p.0 in
      let m : cs.count ≤ 7 = leb-true cs.count 7 s.0 in
      record {
        lower = h;
        column = subst (λ w. j < w) (at c h) (ltb-true j (get_or (take i ws) c 0) q.0);
        few = m;
        below = subst (ColumnsBelow cs.count cs.places) (at c h) (columns_below cs.count (get_or (take i ws) c 0) cs.places (omega arith) t.0);
        narrow = leb-true (cs.count + 1 + k) 8 t.1;
      }

  -- what the list of a node that fits has, and how wide the nodes are that it names
  fits_handed : Narrow ws → (x : Node) → fits k (take i ws) x ≡ true → Sound k ws i x → Handed k ws i x
  fits_handed thin (Base w) e s = record { some = s.some; narrow = s.narrow }
  fits_handed thin (Keep c a r o) e s = let h = s.lower in record { wide = thin c (omega arith) }
  fits_handed thin (Pick c cs) e s =
      let p = and_parts (ltb c (length (take i ws))) _ e in
      let q = and_parts (leb 1 cs.count && leb cs.count 8) _ p.1 in
      let h = s.lower in
      record { wide = thin c (omega arith); places = columns_long cs.count (get_or (take i ws) c 0) cs.places q.1 }
  fits_handed thin (Pair l r ps) e s =
      let vs = take i ws in
      let p = and_parts (ltb l (length vs)) _ e in
      let q = and_parts (ltb r (length vs)) _ p.1 in
      let m = and_parts (leb ps.count 4) _ q.1 in
      let t = and_parts (pairs_fit ps.count (get_or vs l 0) (get_or vs r 0) ps.places) _ m.1 in
      let hl = s.left in
      let hr = s.right in
      record {
        left_wide = thin l (omega arith);
        right_wide = thin r (omega arith);
        places = listed_long 4 (pair_fits (get_or vs l 0) (get_or vs r 0)) _ ps.count ps.places t.0;
      }
  fits_handed thin (Both l r) e s = let hl = s.left in let hr = s.right in record { left_wide = thin l (omega arith); right_wide = thin r (omega arith) }
  fits_handed thin (Less l r) e s = let hl = s.left in let hr = s.right in record { left_wide = thin l (omega arith); right_wide = thin r (omega arith) }
  fits_handed thin (Total c j cs) e s =
      let p = and_parts (ltb c (length (take i ws))) _ e in
      let q = and_parts (ltb j (get_or (take i ws) c 0)) _ p.1 in
      let m = and_parts (leb cs.count 7) _ q.1 in
      let t = and_parts (columns_fit cs.count (get_or (take i ws) c 0) cs.places) _ m.1 in
      let h = s.lower in
      record { wide = thin c (omega arith); places = columns_long cs.count (get_or (take i ws) c 0) cs.places t.0 }

  width_same : (x : Node) → Sound k ws i x → width k (take i ws) x ≡ width k ws x
  width_same (Base w) s = refl
  width_same (Keep c a r o) s = at c s.lower
  width_same (Pick c cs) s = refl
  width_same (Pair l r ps) s = let a = at l s.left in let b = at r s.right in omega arith
  width_same (Both l r) s = at l s.left
  width_same (Less l r) s = at l s.left
  width_same (Total c j cs) s = refl

module _ (k : ℕ) (xs : List Node) (law : lawful k [] xs ≡ true) (i : ℕ) (h : i < length xs) (d : Node) where
  long : length (widths k [] xs) ≡ length xs
  long = widths_length k [] xs ∙ omega arith

  first : take i (widths k [] xs) ≡ widths k [] (take i xs)
  first = widths_take k xs i (omega arith)

  fit : fits k (take i (widths k [] xs)) (get_or xs i d) ≡ true
  fit = rw first (lawful_at k [] xs d law i h)

  pub sound_at : Sound k (widths k [] xs) i (get_or xs i d)
  sound_at = let n = long in fits_sound k (widths k [] xs) i (omega arith) (get_or xs i d) fit

  pub handed_at : Handed k (widths k [] xs) i (get_or xs i d)
  handed_at = let n = long in fits_handed k (widths k [] xs) i (omega arith) (widths_narrow k [] xs narrow_none law) (get_or xs i d) fit sound_at

  pub wide_at : slice_get (widths k [] xs) i ≡ Some (width k (widths k [] xs) (get_or xs i d))
  wide_at =
      let n = long in
      let ws = widths k [] xs in
      let x = get_or xs i d in
      let l : length (widths k [] (take i xs)) ≡ i = widths_length k [] (take i xs) ∙ omega (arith, length-take-le i xs (omega arith)) in
      let e : take (i + 1) ws ≡ widths k [] (take i xs) ++ width k (widths k [] (take i xs)) x ∷ [] = widths_take k xs (i + 1) (omega arith) ∙ (ap (widths k []) (take_more xs i d h) ∙ widths_push k [] (take i xs) x) in
      let g : get_or ws i 0 ≡ width k (widths k [] (take i xs)) x = sym (get_or-take (i + 1) ws i 0 (omega arith)) ∙ (ap (λ v. get_or v i 0) e ∙ get_or_push (widths k [] (take i xs)) (width k (widths k [] (take i xs)) x) 0 i l) in
      let s : width k (widths k [] (take i xs)) x ≡ width k ws x = ap (λ v. width k v x) (sym first) ∙ width_same k ws i (omega arith) x sound_at in
      slice_get-get_or ws i 0 (omega arith) ∙ ap Some (g ∙ s)

  pub narrow_at : OneToEight (width k (widths k [] xs) (get_or xs i d))
  narrow_at =
      let n = long in
      let e = sym (slice_get-get_or (widths k [] xs) i 0 (omega arith)) ∙ wide_at in
      let f : get_or (widths k [] xs) i 0 ≡ width k (widths k [] xs) (get_or xs i d) = cc in
      subst OneToEight f (widths_one_to_eight k xs law i h)

-- a plan has as many nodes as widths
pub nodes_long : (k : ℕ) (xs : List Node) (ws : List ℕ) (len : ℕ) → len ≤ length ws → take len ws ≡ widths k [] xs → length xs ≡ len
nodes_long k xs ws len h e = let n = length-take-le len ws h in let m = widths_length k [] xs in let l = ap length e in omega arith

-- what holds of each element holds of one that is asked for by its place
pub asked : {X : Type 0} (P : X → Type 0) (xs : List X) (i : ℕ) (d : X) (o : Option X) → o ≡ slice_get xs i → (i < length xs → P (get_or xs i d)) → IfSome o P
asked P xs i d o e h =
    ⊎_elim
    (λ l. subst (λ v. IfSome v P) (sym (e ∙ slice_get-get_or xs i d l)) (h l))
    (λ l. subst (λ v. IfSome v P) (sym (e ∙ slice_get_past xs i l)) tt)
    (cases_lt i (length xs))
