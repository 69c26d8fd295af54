-- A plan that grows by a node, and what holds of each of its nodes.
use Rattle.std.proofs.Common.{◌≡◌, ℕ, zero, suc, ◌+◌, ◌<◌, ◌≤◌, true, ◌&&◌, ltb, leb, List, [], ◌∷◌, ◌++◌, length, get_or, take, drop, set, sym, refl, ap, ◌∙◌, subst, arith, length-append}
use Rattle.std.proofs.lemmas.Bool.{and_parts, and_from, leb-true, ltb-true}
use Rattle.std.proofs.lemmas.List.{take_more_set, take_all, take-take, take_at, length-take-le, take-append-drop}
use Rattle.plan.specs.declared.node.Node.{Node}
use Rattle.plan.specs.declared.node.Node.TheVariants.{Base, Keep, Pick, Pair, Both, Less, Total}
use Rattle.plan.specs.Lawful.{width, fits, widths, lawful, columns_fit, pairs_fit, OneToEight}
use Rattle.plan.specs.Laws.{WidthsOneToEight}

pub widths_push : (k : ℕ) (ws : List ℕ) (xs : List Node) (x : Node) → widths k ws (xs ++ x ∷ []) ≡ widths k ws xs ++ width k (widths k ws xs) x ∷ []
unfolding widths
widths_push k ws [] x = refl
widths_push k ws (y ∷ ys) x = widths_push k (ws ++ width k ws y ∷ []) ys x

pub widths_length : (k : ℕ) (ws : List ℕ) (xs : List Node) → length (widths k ws xs) ≡ length ws + length xs
unfolding widths
widths_length k ws [] = omega arith
widths_length k ws (y ∷ ys) = widths_length k (ws ++ width k ws y ∷ []) ys ∙ simp length-append (omega arith)

pub lawful_push : (k : ℕ) (ws : List ℕ) (xs : List Node) (x : Node) → lawful k ws xs ≡ true → fits k (widths k ws xs) x ≡ true → lawful k ws (xs ++ x ∷ []) ≡ true
unfolding widths lawful
lawful_push k ws [] x e f = and_from (fits k ws x) true f refl
lawful_push k ws (y ∷ ys) x e f =
    let p = and_parts (fits k ws y) (lawful k (ws ++ width k ws y ∷ []) ys) e in
    and_from (fits k ws y) _ p.0 (lawful_push k (ws ++ width k ws y ∷ []) ys x p.1 f)

pub lawful_at : (k : ℕ) (ws : List ℕ) (xs : List Node) (d : Node) → lawful k ws xs ≡ true → (i : ℕ) → i < length xs → fits k (widths k ws (take i xs)) (get_or xs i d) ≡ true
unfolding widths lawful
lawful_at k ws [] d e i h = absurd (omega arith)
lawful_at k ws (y ∷ ys) d e zero h = (and_parts (fits k ws y) (lawful k (ws ++ width k ws y ∷ []) ys) e).0
lawful_at k ws (y ∷ ys) d e (suc i) h =
    lawful_at k (ws ++ width k ws y ∷ []) ys d (and_parts (fits k ws y) (lawful k (ws ++ width k ws y ∷ []) ys) e).1 i (omega arith)

pub lawful_none : (k : ℕ) → lawful k [] [] ≡ true
unfolding lawful
lawful_none k = refl

pub widths_none : (k : ℕ) → widths k [] [] ≡ []
unfolding widths
widths_none k = refl

module _ (k : ℕ) (nodes : List Node) (ws : List ℕ) (len : ℕ) (x : Node) (w : ℕ) (in-nodes : len < length nodes) (in-ws : len < length ws) (wide : take len ws ≡ widths k [] (take len nodes)) where
  pub grown_lawful : lawful k [] (take len nodes) ≡ true → fits k (take len ws) x ≡ true → lawful k [] (take (len + 1) (set nodes len x)) ≡ true
  grown_lawful e f = rw (take_more_set nodes len x in-nodes) (lawful_push k [] (take len nodes) x e (rw wide at f))

  pub grown_wide : w ≡ width k (take len ws) x → take (len + 1) (set ws len w) ≡ widths k [] (take (len + 1) (set nodes len x))
  grown_wide e =
      let e' : w ≡ width k (widths k [] (take len nodes)) x = e ∙ ap (λ v. width k v x) wide in
      rw (take_more_set nodes len x in-nodes, take_more_set ws len w in-ws, widths_push k [] (take len nodes) x, wide, e') refl

-- every width is 1 to 8
abbrev pub Narrow : List ℕ → Type 0
Narrow ws = (j : ℕ) → j < length ws → OneToEight (get_or ws j 0)

between : (n a b : ℕ) → (leb a n && leb n b) ≡ true → (a ≤ n) × (n ≤ b)
between n a b e = let p = and_parts (leb a n) (leb n b) e in (leb-true a n p.0, leb-true n b p.1)

-- a node that fits over narrow nodes is narrow
pub fit_narrow : (k : ℕ) (ws : List ℕ) (x : Node) → Narrow ws → fits k ws x ≡ true → OneToEight (width k ws x)
fit_narrow k ws (Base w) n e = let b = between w 1 8 e in record { some = b.0; narrow = b.1 }
fit_narrow k ws (Keep c a r o) n e = n c (ltb-true c (length ws) (and_parts (ltb c (length ws)) _ e).0)
fit_narrow k ws (Pick c cs) n e =
    let p = and_parts (ltb c (length ws)) _ e in
    let q = and_parts (leb 1 cs.count && leb cs.count 8) _ p.1 in
    let b = between cs.count 1 8 q.0 in
    record { some = b.0; narrow = b.1 }
fit_narrow k ws (Pair l r ps) n e =
    let p = and_parts (ltb l (length ws)) _ e in
    let q = and_parts (ltb r (length ws)) _ p.1 in
    let s = and_parts (leb ps.count 4) _ q.1 in
    let t = and_parts (pairs_fit ps.count (get_or ws l 0) (get_or ws r 0) ps.places) _ s.1 in
    let left = (n l (ltb-true l (length ws) p.0)).some in
    record { some = omega arith; narrow = leb-true (get_or ws l 0 + get_or ws r 0) 8 t.1 }
fit_narrow k ws (Both l r) n e = n l (ltb-true l (length ws) (and_parts (ltb l (length ws)) _ e).0)
fit_narrow k ws (Less l r) n e = n l (ltb-true l (length ws) (and_parts (ltb l (length ws)) _ e).0)
fit_narrow k ws (Total c j cs) n e =
    let p = and_parts (ltb c (length ws)) _ e in
    let q = and_parts (ltb j (get_or ws c 0)) _ p.1 in
    let s = and_parts (leb cs.count 7) _ q.1 in
    let t = and_parts (columns_fit cs.count (get_or ws c 0) cs.places) _ s.1 in
    record { some = omega arith; narrow = leb-true (cs.count + 1 + k) 8 t.1 }

pub narrow_none : Narrow []
narrow_none j h = absurd (omega arith)

pub narrow_push : (ws : List ℕ) (w : ℕ) → Narrow ws → OneToEight w → Narrow (ws ++ w ∷ [])
narrow_push [] w n h zero l = h
narrow_push [] w n h (suc j) l = absurd (omega arith)
narrow_push (v ∷ ws) w n h zero l = n zero (omega arith)
narrow_push (v ∷ ws) w n h (suc j) l = narrow_push ws w (λ i m. n (suc i) (omega arith)) h j (omega arith)

pub widths_narrow : (k : ℕ) (ws : List ℕ) (xs : List Node) → Narrow ws → lawful k ws xs ≡ true → Narrow (widths k ws xs)
unfolding widths lawful
widths_narrow k ws [] n e = n
widths_narrow k ws (x ∷ xs) n e =
    let p = and_parts (fits k ws x) (lawful k (ws ++ width k ws x ∷ []) xs) e in
    widths_narrow k (ws ++ width k ws x ∷ []) xs (narrow_push ws (width k ws x) n (fit_narrow k ws x n p.0)) p.1

pub widths_one_to_eight : WidthsOneToEight
widths_one_to_eight k xs e i h = let n : length (widths k [] xs) ≡ length xs = widths_length k [] xs ∙ omega arith in widths_narrow k [] xs narrow_none e i (omega arith)

-- the widths of the first nodes come first
pub widths_front : (k : ℕ) (ws : List ℕ) (xs : List Node) → take (length ws) (widths k ws xs) ≡ ws
unfolding widths
widths_front k ws [] = take_all (length ws) ws (omega arith)
widths_front k ws (y ∷ ys) =
    let v = ws ++ width k ws y ∷ [] in
    let w = widths k v ys in
    let l : length ws ≤ length v = simp length-append (omega arith) in
    sym (take-take (length ws) (length v) w l) ∙ ap (take (length ws)) (widths_front k v ys) ∙ take_at ws (width k ws y ∷ []) (length ws) refl

widths_join : (k : ℕ) (ws : List ℕ) (xs ys : List Node) → widths k ws (xs ++ ys) ≡ widths k (widths k ws xs) ys
unfolding widths
widths_join k ws [] ys = refl
widths_join k ws (x ∷ xs) ys = widths_join k (ws ++ width k ws x ∷ []) xs ys

pub widths_take : (k : ℕ) (xs : List Node) (i : ℕ) → i ≤ length xs → take i (widths k [] xs) ≡ widths k [] (take i xs)
widths_take k xs i h =
    let f = take i xs in
    let n : length (widths k [] f) ≡ i = widths_length k [] f ∙ (omega (arith, length-take-le i xs h)) in
    let e : widths k [] xs ≡ widths k (widths k [] f) (drop i xs) = ap (widths k []) (sym (take-append-drop i xs)) ∙ widths_join k [] f (drop i xs) in
    ap (take i) e ∙ subst (λ m. take m (widths k (widths k [] f) (drop i xs)) ≡ widths k [] f) n (widths_front k (widths k [] f) (drop i xs))
