-- Lines that stand node by node: those of one node are found by two searches. Assumes nothing.
--     nodes_ascend     the numbers of the nodes ascend
--     start, starts_ascend      how many lines stand before those of a node
--     begins_at        a search finds where the lines of a node begin: behind those of the nodes before it
--     lines_found      from there up to where those of the next node begin stand the node's lines
--     lines_between    the same of two places that are known to be these
use Rattle.std.proofs.Common.{◌≡◌, ℕ, suc, ◌+◌, ◌-◌, ◌<◌, ◌≤◌, true, false, List, [], ◌∷◌, ◌++◌, length, get_or, take, drop, pos, sym, refl, ap, ◌∙◌, ap₂, ⊎_elim, nat_le, arith}
use Rattle.std.specs.List.Sorted.{IsNonDecreasingBy, IsPartitionPoint}
use Rattle.std.proofs.lemmas.Bool.{leb-true, le-leb, cases_lt}
use Rattle.std.proofs.lemmas.List.{length-append, length-map, take_all, drop_all, get_or_append_left, get_or-append_right, get_or-map, take-append-drop, length-take, length-take-le, get_or_past}
use Rattle.bag.specs.declared.lines.ChangeLine.{ChangeLine}
use Rattle.bag.specs.Bag.{Line, Lines}
use Rattle.plan.specs.Afresh.{board}
use Rattle.sheet.specs.Sheets.{change_line, of_node, flattened}
use Rattle.posting.proofs.Runs.{flattened-++, run_at}

no_line : Line
no_line = ([], pos 0)

blank : ChangeLine
blank = record { node = 0; row = []; change = pos 0 }

node_of_line : (n : ℕ) (x : Lines) (i : ℕ) (d : ChangeLine) → i < length (of_node n x) → (get_or (of_node n x) i d).node ≡ n
node_of_line n x i d h = let l = length-map x (change_line n) in ap (λ (e : ChangeLine). e.node) (get_or-map (change_line n) x i no_line d (omega arith))

-- every line is of one of the nodes
of_some_node : (j : ℕ) (ds : List Lines) (i : ℕ) (d : ChangeLine) → i < length (flattened j ds) → (j ≤ (get_or (flattened j ds) i d).node) × ((get_or (flattened j ds) i d).node < j + length ds)
unfolding flattened
of_some_node j [] i d h = absurd (let z : ⊥ = omega arith in z)
of_some_node j (x ∷ ds) i d h = ⊎_elim front (behind (λ m. of_some_node (suc j) ds m d)) (cases_lt i (length (of_node j x)))
  where
    front : i < length (of_node j x) → (j ≤ (get_or (of_node j x ++ flattened (suc j) ds) i d).node) × ((get_or (of_node j x ++ flattened (suc j) ds) i d).node < j + suc (length ds))
    front l =
        let e = ap (λ (c : ChangeLine). c.node) (get_or_append_left (of_node j x) (flattened (suc j) ds) d i l) ∙ node_of_line j x i d l in
        (omega (arith, e), omega (arith, e))

    behind : ((m : ℕ) → m < length (flattened (suc j) ds) → (suc j ≤ (get_or (flattened (suc j) ds) m d).node) × ((get_or (flattened (suc j) ds) m d).node < suc j + length ds))
        → length (of_node j x) ≤ i → (j ≤ (get_or (of_node j x ++ flattened (suc j) ds) i d).node) × ((get_or (of_node j x ++ flattened (suc j) ds) i d).node < j + suc (length ds))
    behind rec l =
        let e = ap (λ (c : ChangeLine). c.node) (get_or-append_right (of_node j x) (flattened (suc j) ds) (length (of_node j x)) i d refl l) in
        let long = length-append (of_node j x) (flattened (suc j) ds) in
        let r = rec (i - length (of_node j x)) (omega (arith, long, h, l)) in
        (omega (arith, e, r.0), omega (arith, e, r.1))

module _ (ds : List Lines) where
  abbrev pub start : ℕ → ℕ
  start k = length (flattened 0 (take k ds))

  split : (k : ℕ) → flattened 0 ds ≡ flattened 0 (take k ds) ++ flattened (length (take k ds)) (drop k ds)
  split k = ap (flattened 0) (sym (take-append-drop k ds)) ∙ flattened-++ 0 (take k ds) (drop k ds) ∙ (let z : 0 + length (take k ds) ≡ length (take k ds) = omega arith in ap (λ n. flattened 0 (take k ds) ++ flattened n (drop k ds)) z)

  start_within : (k : ℕ) → start k ≤ length (flattened 0 ds)
  start_within k = let e = ap length (split k) ∙ length-append (flattened 0 (take k ds)) (flattened (length (take k ds)) (drop k ds)) in omega (arith, e)

  before : (k i : ℕ) (d : ChangeLine) → i < start k → (get_or (flattened 0 ds) i d).node < k
  before k i d h =
      let e = ap (λ (c : ChangeLine). c.node) (ap (λ t. get_or t i d) (split k) ∙ get_or_append_left (flattened 0 (take k ds)) (flattened (length (take k ds)) (drop k ds)) d i h) in
      let r = of_some_node 0 (take k ds) i d h in
      let l = short k in
      omega (arith, e, r.1, l)
    where
      short : (k : ℕ) → length (take k ds) ≤ k
      short k = let e = length-take k ds in omega arith

  behind : (k i : ℕ) (d : ChangeLine) → start k ≤ i → i < length (flattened 0 ds) → k ≤ (get_or (flattened 0 ds) i d).node
  behind k i d h l = ⊎_elim far near (cases_lt (length ds) k)
    where
      far : length ds < k → k ≤ (get_or (flattened 0 ds) i d).node
      far f = let e : start k ≡ length (flattened 0 ds) = ap (λ t. length (flattened 0 t)) (take_all k ds (omega arith)) in absurd (let z : ⊥ = omega (arith, e, h, l) in z)

      near : k ≤ length ds → k ≤ (get_or (flattened 0 ds) i d).node
      near n =
          let m = length-take-le k ds n in
          let rest = flattened (length (take k ds)) (drop k ds) in
          let e = ap (λ (c : ChangeLine). c.node) (ap (λ t. get_or t i d) (split k) ∙ get_or-append_right (flattened 0 (take k ds)) rest (start k) i d refl h) in
          let long = ap length (split k) ∙ length-append (flattened 0 (take k ds)) rest in
          let r = of_some_node (length (take k ds)) (drop k ds) (i - start k) d (omega (arith, long, h, l)) in
          omega (arith, e, r.0, m)

  pub starts_ascend : (k : ℕ) → start k ≤ start (k + 1)
  starts_ascend k = ⊎_elim there past (cases_lt k (length ds))
    where
      there : k < length ds → start k ≤ start (k + 1)
      there h = (run_at ds k h).ascends

      past : length ds ≤ k → start k ≤ start (k + 1)
      past h = let e = take_all k ds h in let f = take_all (k + 1) ds (omega arith) in let g = ap (λ t. length (flattened 0 t)) (e ∙ sym f) in omega (arith, g)

  pub nodes_ascend : IsNonDecreasingBy (λ (y : ChangeLine). suc y.node) (flattened 0 ds)
  nodes_ascend i j d h l =
      let t = (get_or (flattened 0 ds) j d).node in
      ⊎_elim (λ (f : j < start (suc t)). let b = before (suc t) i d (omega arith) in omega (arith, b)) (λ (n : start (suc t) ≤ j). let b = behind (suc t) j d n l in absurd (let z : ⊥ = omega (arith, b) in z))
      (cases_lt j (start (suc t)))

  pub begins_at : (k i : ℕ) → i ≤ length (flattened 0 ds) → IsPartitionPoint (λ (y : ChangeLine). nat_le (suc y.node) k ≡ true) (λ y. nat_le (suc y.node) k ≡ false) (flattened 0 ds) i → i ≡ start k
  begins_at k i b p = ⊎_elim early late (cases_lt i (start k))
    where
      early : i < start k → i ≡ start k
      early f =
          let w = start_within k in
          let no = p.1 i blank (omega arith) (omega arith) in
          let yes = le-leb (suc (get_or (flattened 0 ds) i blank).node) k (before k i blank f) in
          let both : true ≡ false = sym yes ∙ no in
          let z : ◌≡◌ {A = ℕ} 0 1 = cc in absurd (let y : ⊥ = omega arith in y)

      late : start k ≤ i → i ≡ start k
      late f = ⊎_elim (λ (g : start k < i).
          let yes = leb-true (suc (get_or (flattened 0 ds) (start k) blank).node) k (p.0 (start k) blank (omega arith) g) in
          let no = behind k (start k) blank (omega arith) (omega arith) in
          absurd (let z : ⊥ = omega (arith, yes, no) in z)) (λ (g : i ≤ start k). let e : i ≡ start k = omega arith in e) (cases_lt (start k) i)

  pub lines_found : (k : ℕ) → take (start (k + 1) - start k) (drop (start k) (flattened 0 ds)) ≡ of_node k (board ds k)
  lines_found k = ⊎_elim there past (cases_lt k (length ds))
    where
      there : k < length ds → take (start (k + 1) - start k) (drop (start k) (flattened 0 ds)) ≡ of_node k (board ds k)
      there h = (run_at ds k h).holds

      nothing : (n : ℕ) → ◌≡◌ {A = List ChangeLine} (take n []) []
      nothing n = take_all n [] (omega arith)

      past : length ds ≤ k → take (start (k + 1) - start k) (drop (start k) (flattened 0 ds)) ≡ of_node k (board ds k)
      past h =
          let e : start k ≡ length (flattened 0 ds) = ap (λ t. length (flattened 0 t)) (take_all k ds h) in
          let none : drop (start k) (flattened 0 ds) ≡ [] = drop_all (start k) (flattened 0 ds) (omega (arith, e)) in
          ap (take (start (k + 1) - start k)) none ∙ nothing (start (k + 1) - start k) ∙ sym (ap (of_node k) (get_or_past ds k [] h))

  pub lines_between : (k i j : ℕ) (ls : List ChangeLine) → ls ≡ flattened 0 ds → i ≡ start k → j ≡ start (k + 1) → take (j - i) (drop i ls) ≡ of_node k (board ds k)
  lines_between k i j ls are from to = ap₂ (λ n t. take (n - i) (drop i t)) to are ∙ ap (λ n. take (start (k + 1) - n) (drop n (flattened 0 ds))) from ∙ lines_found k
