-- One node, there and back.
use Rattle.std.proofs.Common.{◌≡◌, ℕ, ◌+◌, ◌≤◌, true, ◌&&◌, eqb, ltb, leb, List, ◌∷◌, ◌++◌, length, get_or, Ok, sym, refl, ap, ◌∙◌, subst, arith}
use Rattle.std.proofs.lemmas.Bool.{and_parts, and_from, leb-true, le-leb}
use Rattle.plan.specs.declared.node.Node.{Node}
use Rattle.plan.specs.declared.node.Node.TheVariants.{Base, Keep, Pick, Pair, Both, Less, Total}
use Rattle.plan.specs.Lawful.{fits, columns_fit, pairs_fit, operand_fits, InRange}
use Rattle.plan.specs.Fields.{octet, lower, column, within, relation, operand, columns, pairs, bad_width}
use Rattle.plan.specs.Check.{base, keep, pick, pair, equal_sides, both, less, total, behind, node}
use Rattle.bag.specs.Bytes.{Bytes}
use Rattle.plan.specs.Encode.{relation_number, encode}
use Rattle.plan.proofs.Items.{then_ok, when_ok, ok_same}
use Rattle.plan.proofs.Fields.{octet_was, lower_was, column_was, within_was, relation_was, relation_read, operand_was, operand_read, columns_was, columns_read, pairs_was, pairs_read, by_number}

-- what a node that was read says of the bytes
pub record Was (k : ℕ) (ws bytes : List ℕ) (x : Node) (rest : List ℕ) : Type 0 where
  pub fit : fits k ws x ≡ true
  pub split : Bytes bytes → bytes ≡ encode x ++ rest
  pub range : Bytes bytes → InRange x

most : (a b n : ℕ) → (leb a n && leb n b) ≡ true → n ≤ b
most a b n e = leb-true n b (and_parts (leb a n) (leb n b) e).1

base_was : (k : ℕ) (ws bytes : List ℕ) (p : Node × List ℕ) → base bytes ≡ Ok p → Was k ws (0 ∷ bytes) p.0 p.1
base_was k ws bytes p e =
    let a = then_ok (within 1 8 bytes) _ p e in
    let f = within_was 1 8 bytes a.0 a.1 in
    subst (λ (q : Node × List ℕ). Was k ws (0 ∷ bytes) q.0 q.1) (ok_same (Base a.0.0, a.0.1) p a.2)
    (record { fit = f.1; split = λ _. ap (λ ys. 0 ∷ ys) f.0; range = λ _. tt })

keep_was : (k : ℕ) (ws bytes : List ℕ) (p : Node × List ℕ) → keep ws bytes ≡ Ok p → Was k ws (1 ∷ bytes) p.0 p.1
keep_was k ws bytes p e =
    let a = then_ok (lower ws bytes) _ p e in
    let w = get_or ws a.0.0 0 in
    let b = then_ok (column w a.0.1) _ p a.2 in
    let d = then_ok (octet b.0.1) _ p b.2 in
    let g = then_ok (relation d.0.0) _ p d.2 in
    let h = then_ok (operand w d.0.1) _ p g.2 in
    let a' = lower_was ws bytes a.0 a.1 in
    let b' = column_was w a.0.1 b.0 b.1 in
    let d' = octet_was b.0.1 d.0 d.1 in
    let g' = relation_was d.0.0 g.0 g.1 in
    let h' = operand_was w d.0.1 h.0 h.1 in
    let front : bytes ≡ a.0.0 ∷ b.0.0 ∷ relation_number g.0 ∷ d.0.1 = a'.0 ∙ ap (λ ys. a.0.0 ∷ ys) (b'.0 ∙ ap (λ ys. b.0.0 ∷ ys) (d' ∙ ap (λ n. n ∷ d.0.1) g')) in
    let inner : Bytes (1 ∷ bytes) → Bytes d.0.1 = λ s. (subst Bytes front s.1).1.1.1 in
    subst (λ (q : Node × List ℕ). Was k ws (1 ∷ bytes) q.0 q.1) (ok_same (Keep a.0.0 b.0.0 g.0 h.0.0, h.0.1) p h.2)
    (record {
      fit = and_from (ltb a.0.0 (length ws)) _ a'.1 (and_from (ltb b.0.0 w) (operand_fits w h.0.0) b'.1 h'.fit);
      split = λ s. ap (λ ys. 1 ∷ ys) (front ∙ ap (λ ys. a.0.0 ∷ b.0.0 ∷ relation_number g.0 ∷ ys) (h'.split (inner s)));
      range = λ s. h'.range (inner s);
    })

pick_was : (k : ℕ) (ws bytes : List ℕ) (p : Node × List ℕ) → pick ws bytes ≡ Ok p → Was k ws (2 ∷ bytes) p.0 p.1
pick_was k ws bytes p e =
    let a = then_ok (lower ws bytes) _ p e in
    let w = get_or ws a.0.0 0 in
    let b = then_ok (within 1 8 a.0.1) _ p a.2 in
    let d = then_ok (columns b.0.0 w b.0.1) _ p b.2 in
    let a' = lower_was ws bytes a.0 a.1 in
    let b' = within_was 1 8 a.0.1 b.0 b.1 in
    let d' = columns_was b.0.0 w b.0.1 d.0 (most 1 8 b.0.0 b'.1) d.1 in
    subst (λ (q : Node × List ℕ). Was k ws (2 ∷ bytes) q.0 q.1) (ok_same (Pick a.0.0 (record { count = b.0.0; places = d.0.0 }), d.0.1) p d.2)
    (record {
      fit = and_from (ltb a.0.0 (length ws)) _ a'.1 (and_from (leb 1 b.0.0 && leb b.0.0 8) (columns_fit b.0.0 w d.0.0) b'.1 d'.1);
      split = λ s. ap (λ ys. 2 ∷ ys) (a'.0 ∙ ap (λ ys. a.0.0 ∷ ys) (b'.0 ∙ ap (λ ys. b.0.0 ∷ ys) d'.0));
      range = λ s. tt;
    })

pair_was : (k : ℕ) (ws bytes : List ℕ) (p : Node × List ℕ) → pair ws bytes ≡ Ok p → Was k ws (3 ∷ bytes) p.0 p.1
pair_was k ws bytes p e =
    let a = then_ok (lower ws bytes) _ p e in
    let b = then_ok (lower ws a.0.1) _ p a.2 in
    let wl = get_or ws a.0.0 0 in
    let wr = get_or ws b.0.0 0 in
    let d = then_ok (within 0 4 b.0.1) _ p b.2 in
    let g = then_ok (pairs d.0.0 wl wr d.0.1) _ p d.2 in
    let h = when_ok (leb (wl + wr) 8) bad_width (Pair a.0.0 b.0.0 (record { count = d.0.0; places = g.0.0 }), g.0.1) p g.2 in
    let a' = lower_was ws bytes a.0 a.1 in
    let b' = lower_was ws a.0.1 b.0 b.1 in
    let d' = within_was 0 4 b.0.1 d.0 d.1 in
    let g' = pairs_was d.0.0 wl wr d.0.1 g.0 (most 0 4 d.0.0 d'.1) g.1 in
    subst (λ (q : Node × List ℕ). Was k ws (3 ∷ bytes) q.0 q.1) h.1
    (record {
      fit = and_from (ltb a.0.0 (length ws)) _ a'.1 (and_from (ltb b.0.0 (length ws)) _ b'.1 (and_from (leb d.0.0 4) _ (and_parts (leb 0 d.0.0) (leb d.0.0 4) d'.1).1 (and_from (pairs_fit d.0.0 wl wr g.0.0) (leb (wl + wr) 8) g'.1 h.0)));
      split = λ s. ap (λ ys. 3 ∷ ys) (a'.0 ∙ ap (λ ys. a.0.0 ∷ ys) (b'.0 ∙ ap (λ ys. b.0.0 ∷ ys) (d'.0 ∙ ap (λ ys. d.0.0 ∷ ys) g'.0)));
      range = λ s. tt;
    })

sides_was : (ws bytes : List ℕ) (p : (ℕ × ℕ) × List ℕ) → equal_sides ws bytes ≡ Ok p → (bytes ≡ p.0.0 ∷ p.0.1 ∷ p.1) × ((ltb p.0.0 (length ws) && (ltb p.0.1 (length ws) && eqb (get_or ws p.0.0 0) (get_or ws p.0.1 0))) ≡ true)
sides_was ws bytes p e =
    let a = then_ok (lower ws bytes) _ p e in
    let b = then_ok (lower ws a.0.1) _ p a.2 in
    let same = eqb (get_or ws a.0.0 0) (get_or ws b.0.0 0) in
    let h = when_ok same bad_width ((a.0.0, b.0.0), b.0.1) p b.2 in
    let a' = lower_was ws bytes a.0 a.1 in
    let b' = lower_was ws a.0.1 b.0 b.1 in
    subst (λ (q : (ℕ × ℕ) × List ℕ). (bytes ≡ q.0.0 ∷ q.0.1 ∷ q.1) × ((ltb q.0.0 (length ws) && (ltb q.0.1 (length ws) && eqb (get_or ws q.0.0 0) (get_or ws q.0.1 0))) ≡ true)) h.1
    (a'.0 ∙ ap (λ ys. a.0.0 ∷ ys) b'.0, and_from (ltb a.0.0 (length ws)) _ a'.1 (and_from (ltb b.0.0 (length ws)) same b'.1 h.0))

both_was : (k : ℕ) (ws bytes : List ℕ) (p : Node × List ℕ) → both ws bytes ≡ Ok p → Was k ws (4 ∷ bytes) p.0 p.1
both_was k ws bytes p e =
    let a = then_ok (equal_sides ws bytes) _ p e in
    let t = sides_was ws bytes a.0 a.1 in
    subst (λ (q : Node × List ℕ). Was k ws (4 ∷ bytes) q.0 q.1) (ok_same (Both a.0.0.0 a.0.0.1, a.0.1) p a.2)
    (record { fit = t.1; split = λ s. ap (λ ys. 4 ∷ ys) t.0; range = λ s. tt })

less_was : (k : ℕ) (ws bytes : List ℕ) (p : Node × List ℕ) → less ws bytes ≡ Ok p → Was k ws (5 ∷ bytes) p.0 p.1
less_was k ws bytes p e =
    let a = then_ok (equal_sides ws bytes) _ p e in
    let t = sides_was ws bytes a.0 a.1 in
    subst (λ (q : Node × List ℕ). Was k ws (5 ∷ bytes) q.0 q.1) (ok_same (Less a.0.0.0 a.0.0.1, a.0.1) p a.2)
    (record { fit = t.1; split = λ s. ap (λ ys. 5 ∷ ys) t.0; range = λ s. tt })

total_was : (k : ℕ) (ws bytes : List ℕ) (p : Node × List ℕ) → total k ws bytes ≡ Ok p → Was k ws (6 ∷ bytes) p.0 p.1
total_was k ws bytes p e =
    let a = then_ok (lower ws bytes) _ p e in
    let w = get_or ws a.0.0 0 in
    let b = then_ok (column w a.0.1) _ p a.2 in
    let d = then_ok (within 0 7 b.0.1) _ p b.2 in
    let g = then_ok (columns d.0.0 w d.0.1) _ p d.2 in
    let h = when_ok (leb (d.0.0 + 1 + k) 8) bad_width (Total a.0.0 b.0.0 (record { count = d.0.0; places = g.0.0 }), g.0.1) p g.2 in
    let a' = lower_was ws bytes a.0 a.1 in
    let b' = column_was w a.0.1 b.0 b.1 in
    let d' = within_was 0 7 b.0.1 d.0 d.1 in
    let m : d.0.0 ≤ 7 = most 0 7 d.0.0 d'.1 in
    let g' = columns_was d.0.0 w d.0.1 g.0 (omega arith) g.1 in
    subst (λ (q : Node × List ℕ). Was k ws (6 ∷ bytes) q.0 q.1) h.1
    (record {
      fit = and_from (ltb a.0.0 (length ws)) _ a'.1 (and_from (ltb b.0.0 w) _ b'.1 (and_from (leb d.0.0 7) _ (and_parts (leb 0 d.0.0) (leb d.0.0 7) d'.1).1 (and_from (columns_fit d.0.0 w g.0.0) (leb (d.0.0 + 1 + k) 8) g'.1 h.0)));
      split = λ s. ap (λ ys. 6 ∷ ys) (a'.0 ∙ ap (λ ys. a.0.0 ∷ ys) (b'.0 ∙ ap (λ ys. b.0.0 ∷ ys) (d'.0 ∙ ap (λ ys. d.0.0 ∷ ys) g'.0)));
      range = λ s. tt;
    })

behind_was : (k : ℕ) (ws : List ℕ) (op : ℕ) (bytes : List ℕ) (p : Node × List ℕ) → behind k ws op bytes ≡ Ok p → Was k ws (op ∷ bytes) p.0 p.1
behind_was k ws op bytes p e =
    let P : Type 0 = Was k ws (op ∷ bytes) p.0 p.1 in
    let is : (n : ℕ) → Was k ws (n ∷ bytes) p.0 p.1 → op ≡ n → Was k ws (op ∷ bytes) p.0 p.1 = λ n w z. subst (λ m. Was k ws (m ∷ bytes) p.0 p.1) (sym z) w in
    by_number op 0 _ _ p P e (λ z f. is 0 (base_was k ws bytes p f) z)
    (λ e1. by_number op 1 _ _ p P e1 (λ z f. is 1 (keep_was k ws bytes p f) z)
    (λ e2. by_number op 2 _ _ p P e2 (λ z f. is 2 (pick_was k ws bytes p f) z)
    (λ e3. by_number op 3 _ _ p P e3 (λ z f. is 3 (pair_was k ws bytes p f) z)
    (λ e4. by_number op 4 _ _ p P e4 (λ z f. is 4 (both_was k ws bytes p f) z)
    (λ e5. by_number op 5 _ _ p P e5 (λ z f. is 5 (less_was k ws bytes p f) z)
    (λ e6. by_number op 6 _ _ p P e6 (λ z f. is 6 (total_was k ws bytes p f) z)
    (λ e7. cc)))))))

pub node_was : (k : ℕ) (ws bytes : List ℕ) (x : Node) (rest : List ℕ) → node k ws bytes ≡ Ok (x, rest) → Was k ws bytes x rest
node_was k ws bytes x rest e =
    let a = then_ok (octet bytes) (λ (op : ℕ × List ℕ). behind k ws op.0 op.1) (x, rest) e in
    let s = octet_was bytes a.0 a.1 in
    subst (λ bs. Was k ws bs x rest) (sym s) (behind_was k ws a.0.0 a.0.1 (x, rest) a.2)

pub node_read : (k : ℕ) (ws : List ℕ) (x : Node) (rest : List ℕ) → fits k ws x ≡ true → InRange x → node k ws (encode x ++ rest) ≡ Ok (x, rest)
node_read k ws (Base w) rest e r = rw e refl
node_read k ws (Keep c a r o) rest e range =
    let p = and_parts (ltb c (length ws)) _ e in
    let q = and_parts (ltb a (get_or ws c 0)) _ p.1 in
    rw (p.0, q.0, relation_read r, operand_read (get_or ws c 0) o rest q.1 range) refl
node_read k ws (Pick c cs) rest e r =
    let p = and_parts (ltb c (length ws)) _ e in
    let q = and_parts (leb 1 cs.count && leb cs.count 8) _ p.1 in
    rw (p.0, q.0, columns_read cs.count (get_or ws c 0) cs.places rest (most 1 8 cs.count q.0) q.1) refl
node_read k ws (Pair l r ps) rest e _ =
    let p = and_parts (ltb l (length ws)) _ e in
    let q = and_parts (ltb r (length ws)) _ p.1 in
    let s = and_parts (leb ps.count 4) _ q.1 in
    let t = and_parts (pairs_fit ps.count (get_or ws l 0) (get_or ws r 0) ps.places) _ s.1 in
    let m : (leb 0 ps.count && leb ps.count 4) ≡ true = and_from (leb 0 ps.count) (leb ps.count 4) (le-leb 0 ps.count (omega arith)) s.0 in
    rw (p.0, q.0, m, pairs_read ps.count (get_or ws l 0) (get_or ws r 0) ps.places rest (leb-true ps.count 4 s.0) t.0, t.1) refl
node_read k ws (Both l r) rest e _ =
    let p = and_parts (ltb l (length ws)) _ e in
    let q = and_parts (ltb r (length ws)) _ p.1 in
    rw (p.0, q.0, q.1) refl
node_read k ws (Less l r) rest e _ =
    let p = and_parts (ltb l (length ws)) _ e in
    let q = and_parts (ltb r (length ws)) _ p.1 in
    rw (p.0, q.0, q.1) refl
node_read k ws (Total c j cs) rest e _ =
    let p = and_parts (ltb c (length ws)) _ e in
    let q = and_parts (ltb j (get_or ws c 0)) _ p.1 in
    let s = and_parts (leb cs.count 7) _ q.1 in
    let t = and_parts (columns_fit cs.count (get_or ws c 0) cs.places) _ s.1 in
    let m : cs.count ≤ 7 = leb-true cs.count 7 s.0 in
    let b : (leb 0 cs.count && leb cs.count 7) ≡ true = and_from (leb 0 cs.count) (leb cs.count 7) (le-leb 0 cs.count (omega arith)) s.0 in
    rw (p.0, q.0, b, columns_read cs.count (get_or ws c 0) cs.places rest (omega arith) t.0, t.1) refl
