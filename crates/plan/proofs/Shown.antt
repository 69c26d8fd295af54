-- A measure that shows more than 8 columns leaves no room for a total, and neither does one that shows 8.
use Rattle.std.proofs.Common.{◌≡◌, ℕ, zero, suc, ◌+◌, ◌<◌, ◌≤◌, min, true, ltb, leb, List, [], ◌∷◌, ◌++◌, length, get_or, Ok, Err, Result, sym, refl, ap, ◌∙◌, ⊎_elim, arith}
use Rattle.std.proofs.lemmas.Bool.{and_parts, leb-true, lt-leb, cases_lt}
use Rattle.plan.specs.declared.node.Node.{Node}
use Rattle.plan.specs.declared.node.Node.TheVariants.{Base, Keep, Pick, Pair, Both, Less, Total}
use Rattle.plan.specs.Lawful.{width, fits, columns_fit}
use Rattle.plan.specs.Fields.{Read, then, when, octet, lower, column, within, columns, bad_width}
use Rattle.plan.specs.Check.{total, behind, node, more, next, nodes, checked, kept}
use Rattle.plan.proofs.Nodes.{node_was}

then_same : {X Y : Type 0} (r : Result X ℕ) (f g : X → Result Y ℕ) → ((x : X) → f x ≡ g x) → then r f ≡ then r g
then_same (Ok x) f g e = e x
then_same (Err c) f g e = refl

no_room : (k n : ℕ) → 8 < k → leb (n + 1 + k) 8 ≡ leb (n + 1 + 8) 8
no_room k n h = lt-leb (n + 1 + k) 8 (omega arith) ∙ sym (lt-leb (n + 1 + 8) 8 (omega arith))

module _ (k : ℕ) (many : 8 < k) where
  total_same : (ws bytes : List ℕ) → total k ws bytes ≡ total 8 ws bytes
  total_same ws bytes =
      then_same (lower ws bytes) _ _ (λ c. then_same (column (get_or ws c.0 0) c.1) _ _ (λ j. then_same (within 0 7 j.1) _ _ (λ n. then_same (columns n.0 (get_or ws c.0 0) n.1) _ _ (λ l. ap (λ b. when b bad_width (Total c.0 j.0 (record { count = n.0; places = l.0 }), l.1)) (no_room k n.0 many)))))

  behind_same : (ws : List ℕ) (op : ℕ) (bytes : List ℕ) → behind k ws op bytes ≡ behind 8 ws op bytes
  behind_same ws op bytes = rw (total_same ws bytes) refl

  node_same : (ws bytes : List ℕ) → node k ws bytes ≡ node 8 ws bytes
  node_same ws bytes = then_same (octet bytes) _ _ (λ (op : ℕ × List ℕ). behind_same ws op.0 op.1)

  width_same : (ws : List ℕ) (x : Node) → fits 8 ws x ≡ true → width k ws x ≡ width 8 ws x
  width_same ws (Base w) e = refl
  width_same ws (Keep c a r o) e = refl
  width_same ws (Pick c cs) e = refl
  width_same ws (Pair l r ps) e = refl
  width_same ws (Both l r) e = refl
  width_same ws (Less l r) e = refl
  width_same ws (Total c j cs) e =
      let p = and_parts (ltb c (length ws)) _ e in
      let q = and_parts (ltb j (get_or ws c 0)) _ p.1 in
      let s = and_parts (leb cs.count 7) _ q.1 in
      let t = and_parts (columns_fit cs.count (get_or ws c 0) cs.places) _ s.1 in
      let u : cs.count + 1 + 8 ≤ 8 = leb-true (cs.count + 1 + 8) 8 t.1 in
      absurd (omega arith)

  nodes_same : (s i : ℕ) (ws bytes : List ℕ) → nodes s k i ws bytes ≡ nodes s 8 i ws bytes
  unfolding nodes
  nodes_same zero i ws [] = refl
  nodes_same (suc s) i ws [] = refl
  nodes_same zero i ws (b ∷ bytes) = refl
  nodes_same (suc s) i ws (b ∷ bytes) =
      ap (λ d. next i d (λ x. nodes s k (i + 1) (ws ++ width k ws x.0 ∷ []) x.1)) (node_same ws (b ∷ bytes)) ∙ on (node 8 ws (b ∷ bytes)) refl (λ vs ys. nodes_same s (i + 1) vs ys)
    where
      on : (d : Read Node) → node 8 ws (b ∷ bytes) ≡ d → ((vs ys : List ℕ) → nodes s k (i + 1) vs ys ≡ nodes s 8 (i + 1) vs ys) →
          next i d (λ x. nodes s k (i + 1) (ws ++ width k ws x.0 ∷ []) x.1) ≡ next i d (λ x. nodes s 8 (i + 1) (ws ++ width 8 ws x.0 ∷ []) x.1)
      on (Err c) d again = refl
      on (Ok p) d again =
          let w = width_same ws p.0 (node_was 8 ws (b ∷ bytes) p.0 p.1 d).fit in
          ap (more p.0) (ap (λ v. nodes s k (i + 1) (ws ++ v ∷ []) p.1) w ∙ again (ws ++ width 8 ws p.0 ∷ []) p.1)

  checked_same : (bytes : List ℕ) → checked k bytes ≡ checked 8 bytes
  checked_same [] = refl
  checked_same (b ∷ bytes) = nodes_same 16 0 [] (b ∷ bytes)

pub checked_kept : (k : ℕ) (bytes : List ℕ) → checked (kept k) bytes ≡ checked k bytes
checked_kept k bytes =
    ⊎_elim
    (λ l. let m : min k 8 ≡ 8 = omega arith in ap (λ n. checked n bytes) m ∙ sym (checked_same k l bytes))
    (λ l. let m : min k 8 ≡ k = omega arith in ap (λ n. checked n bytes) m)
    (cases_lt 8 k)
