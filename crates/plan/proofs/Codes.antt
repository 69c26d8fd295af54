-- The encoding of a lawful plan is bytes.
use Rattle.std.proofs.Common.{◌≡◌, ℕ, ◌+◌, ◌/◌, ◌%◌, ◌<◌, ◌≤◌, Bool, true, ◌&&◌, eqb, ltb, leb, List, [], ◌∷◌, ◌++◌, length, get_or, take, drop, ℤ, arith, length-append, w32, of_z}
use Rattle.std.specs.List.{flat_map}
use Rattle.std.proofs.lemmas.Bool.{and_parts, leb-true, ltb-true}
use Rattle.bag.specs.Bytes.{in_four, Bytes}
use Rattle.bag.specs.declared.condition.Operand.{Operand}
use Rattle.bag.specs.declared.condition.Operand.TheVariants.{Constant, Column}
use Rattle.bag.specs.declared.condition.Relation.{Relation}
use Rattle.bag.specs.declared.condition.Relation.TheVariants as relations
use Rattle.plan.specs.declared.node.ColumnPair.{ColumnPair}
use Rattle.plan.specs.declared.node.Node.{Node}
use Rattle.plan.specs.declared.node.Node.TheVariants.{Base, Keep, Pick, Pair, Both, Less, Total}
use Rattle.plan.specs.Lawful.{width, every, list_fits, columns_fit, pair_fits, pairs_fit, operand_fits, fits, lawful, LawfulPlan}
use Rattle.plan.specs.Encode.{relation_number, operand_bytes, pair_bytes, encode, encode_all}
use Rattle.plan.proofs.Growth.{Narrow, narrow_none, narrow_push, fit_narrow}

bytes_join : (xs ys : List ℕ) → Bytes xs → Bytes ys → Bytes (xs ++ ys)
bytes_join [] ys a b = b
bytes_join (x ∷ xs) ys a b = (a.0, bytes_join xs ys a.1 b)

four_bytes : (v : ℤ) → Bytes (in_four v)
four_bytes v = let n = of_z w32 v in (below (n / 16777216), (below (n / 65536), (below (n / 256), (below n, tt))))
  where
    below : (n : ℕ) → n % 256 < 256
    below n = omega arith

relation_byte : (r : Relation) → relation_number r < 256
relation_byte relations.Less = omega arith
relation_byte relations.LessOrEqual = omega arith
relation_byte relations.Equal = omega arith
relation_byte relations.NotEqual = omega arith
relation_byte relations.GreaterOrEqual = omega arith
relation_byte relations.Greater = omega arith

operand_is_bytes : (w : ℕ) (o : Operand) → w ≤ 8 → operand_fits w o ≡ true → Bytes (operand_bytes o)
operand_is_bytes w (Constant v) h e = (omega arith, four_bytes v)
operand_is_bytes w (Column b) h e = let l = ltb-true b w e in (omega arith, (omega arith, tt))

columns_bytes : (w : ℕ) (cs : List ℕ) → w ≤ 8 → every (λ c. ltb c w) cs ≡ true → Bytes cs
unfolding every
columns_bytes w [] h e = tt
columns_bytes w (c ∷ cs) h e =
    let p = and_parts (ltb c w) (every (λ c. ltb c w) cs) e in
    let l = ltb-true c w p.0 in
    (omega arith, columns_bytes w cs h p.1)

pairs_bytes : (wl wr : ℕ) (ps : List ColumnPair) → wl ≤ 8 → wr ≤ 8 → every (pair_fits wl wr) ps ≡ true → Bytes (flat_map pair_bytes ps)
unfolding every
pairs_bytes wl wr [] h g e = tt
pairs_bytes wl wr (p ∷ ps) h g e =
    let q = and_parts (pair_fits wl wr p) (every (pair_fits wl wr) ps) e in
    let s = and_parts (ltb p.left wl) (ltb p.right wr) q.0 in
    let a = ltb-true p.left wl s.0 in
    let b = ltb-true p.right wr s.1 in
    (omega arith, (omega arith, pairs_bytes wl wr ps h g q.1))

-- the listed places of a list that fits
listed_fit : {X : Type 0} (size : ℕ) (test blank : X → Bool) (n : ℕ) (xs : List X) → list_fits size test blank n xs ≡ true → every test (take n xs) ≡ true
listed_fit size test blank n xs e = (and_parts (every test (take n xs)) (every blank (drop n xs)) (and_parts (eqb (length xs) size) _ e).1).0

module _ (k : ℕ) (ws : List ℕ) (few : length ws ≤ 16) (thin : Narrow ws) where
  low : (c : ℕ) → ltb c (length ws) ≡ true → c < 256
  low c e = let l = ltb-true c (length ws) e in omega arith

  most : (c : ℕ) → ltb c (length ws) ≡ true → get_or ws c 0 ≤ 8
  most c e = (thin c (ltb-true c (length ws) e)).narrow

  node_bytes : (x : Node) → fits k ws x ≡ true → Bytes (encode x)
  node_bytes (Base w) e = let l = leb-true w 8 (and_parts (leb 1 w) (leb w 8) e).1 in (omega arith, (omega arith, tt))
  node_bytes (Keep c a r o) e =
      let p = and_parts (ltb c (length ws)) _ e in
      let q = and_parts (ltb a (get_or ws c 0)) _ p.1 in
      let m = most c p.0 in
      let l = ltb-true a (get_or ws c 0) q.0 in
      (omega arith, (low c p.0, (omega arith, (relation_byte r, operand_is_bytes (get_or ws c 0) o m q.1))))
  node_bytes (Pick c cs) e =
      let p = and_parts (ltb c (length ws)) _ e in
      let q = and_parts (leb 1 cs.count && leb cs.count 8) _ p.1 in
      let l = leb-true cs.count 8 (and_parts (leb 1 cs.count) (leb cs.count 8) q.0).1 in
      (omega arith, (low c p.0, (omega arith, columns_bytes (get_or ws c 0) (take cs.count cs.places) (most c p.0) (listed_fit 8 (λ a. ltb a (get_or ws c 0)) (λ a. eqb a 0) cs.count cs.places q.1))))
  node_bytes (Pair l r ps) e =
      let p = and_parts (ltb l (length ws)) _ e in
      let q = and_parts (ltb r (length ws)) _ p.1 in
      let s = and_parts (leb ps.count 4) _ q.1 in
      let t = and_parts (pairs_fit ps.count (get_or ws l 0) (get_or ws r 0) ps.places) _ s.1 in
      let h = leb-true ps.count 4 s.0 in
      (omega arith, (low l p.0, (low r q.0, (omega arith, pairs_bytes (get_or ws l 0) (get_or ws r 0) (take ps.count ps.places) (most l p.0) (most r q.0) (listed_fit 4 (pair_fits (get_or ws l 0) (get_or ws r 0)) _ ps.count ps.places t.0)))))
  node_bytes (Both l r) e =
      let p = and_parts (ltb l (length ws)) _ e in
      (omega arith, (low l p.0, (low r (and_parts (ltb r (length ws)) _ p.1).0, tt)))
  node_bytes (Less l r) e =
      let p = and_parts (ltb l (length ws)) _ e in
      (omega arith, (low l p.0, (low r (and_parts (ltb r (length ws)) _ p.1).0, tt)))
  node_bytes (Total c j cs) e =
      let p = and_parts (ltb c (length ws)) _ e in
      let q = and_parts (ltb j (get_or ws c 0)) _ p.1 in
      let s = and_parts (leb cs.count 7) _ q.1 in
      let t = and_parts (columns_fit cs.count (get_or ws c 0) cs.places) _ s.1 in
      let m = most c p.0 in
      let l = ltb-true j (get_or ws c 0) q.0 in
      let h = leb-true cs.count 7 s.0 in
      (omega arith, (low c p.0, (omega arith, (omega arith, columns_bytes (get_or ws c 0) (take cs.count cs.places) m (listed_fit 8 (λ a. ltb a (get_or ws c 0)) (λ a. eqb a 0) cs.count cs.places t.0)))))

nodes_bytes : (k : ℕ) (ws : List ℕ) (xs : List Node) → length ws + length xs ≤ 16 → Narrow ws → lawful k ws xs ≡ true → Bytes (encode_all xs)
unfolding lawful
nodes_bytes k ws [] few thin e = tt
nodes_bytes k ws (x ∷ xs) few thin e =
    let vs = ws ++ width k ws x ∷ [] in
    let p = and_parts (fits k ws x) (lawful k vs xs) e in
    let n : length vs ≡ length ws + 1 = length-append ws (width k ws x ∷ []) in
    bytes_join (encode x) (encode_all xs) (node_bytes k ws (omega arith) thin x p.0) (nodes_bytes k vs xs (omega arith) (narrow_push ws (width k ws x) thin (fit_narrow k ws x thin p.0)) p.1)

pub plan_bytes : (k : ℕ) (xs : List Node) → LawfulPlan k xs → Bytes (encode_all xs)
plan_bytes k xs l = nodes_bytes k [] xs (omega (arith, l.few)) narrow_none l.fit
