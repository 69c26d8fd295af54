-- Bytes that are no plan: where they break, there they are refused.
use Rattle.std.proofs.Common.{◌≡◌, ℕ, zero, suc, ◌+◌, ◌-◌, ◌<◌, ◌≤◌, true, List, [], ◌∷◌, ◌++◌, length, Ok, Err, Result, sym, refl, ap, ◌∙◌, subst, append_assoc, arith, length-append}
use Rattle.std.specs.List.{AllByRecursion}
use Rattle.std.proofs.lemmas.Bool.{and_parts, and_from}
use Rattle.bag.specs.Bytes.{Bytes}
use Rattle.plan.specs.declared.fault.Cause.{Cause}
use Rattle.plan.specs.declared.fault.Cause.TheVariants as causes
use Rattle.plan.specs.declared.fault.PlanFault.{PlanFault}
use Rattle.plan.specs.declared.node.Node.{Node}
use Rattle.plan.specs.Refusal.{Refusal, refused, fault_at, plan_refusal, plan_told}
use Rattle.plan.specs.Lawful.{width, fits, widths, lawful, InRange}
use Rattle.plan.specs.Fields.{Read, bad_count}
use Rattle.plan.specs.Check.{node, more, next, nodes, checked}
use Rattle.plan.specs.Encode.{encode, encode_all}
use Rattle.plan.specs.Laws.{BrokenAt, RefusedWhereBroken, BreaksAt, RefusedThere, BrokenAreRefused, PlanOrBroken, NeverBoth}
use Rattle.plan.proofs.Nodes.{node_was, node_read}
use Rattle.plan.proofs.Causes.{node_caused}
use Rattle.plan.proofs.Growth.{lawful_none}
use Rattle.plan.proofs.Codes.{plan_bytes}
use Rattle.plan.proofs.Wholes.{bytes_right, more_err, long, nodes_next, checked_some, some_byte, read_back, accepted as accepted_lawful}

-- what a refusal says of the bytes, with nodes of the widths ws before them
record Stopped (steps k i : ℕ) (ws bytes : List ℕ) (e : Refusal) : Type 0 where
  fault : PlanFault
  is : e ≡ plan_refusal fault
  before : List Node
  rest : List ℕ
  split : bytes ≡ encode_all before ++ rest
  many : i + length before ≡ fault.node
  few : length before ≤ steps
  fit : lawful k ws before ≡ true
  range : AllByRecursion InRange before
  beyond : 1 ≤ length rest
  none : (x : Node) (ys : List ℕ) → length before < steps → fits k (widths k ws before) x ≡ true → InRange x → rest ≡ encode x ++ ys → ⊥

here : (s k i : ℕ) (ws bytes : List ℕ) (e : Refusal) (c : Cause) → ◌≡◌ {A = Result (List Node) Refusal} (Err (plan_refusal (fault_at i c))) (Err e) → ((x : Node) (ys : List ℕ) → 0 < s → fits k ws x ≡ true → InRange x → bytes ≡ encode x ++ ys → ⊥) → 1 ≤ length bytes → Stopped s k i ws bytes e
unfolding lawful widths
here s k i ws bytes e c f none beyond =
    let g : plan_refusal (fault_at i c) ≡ e = cc in
    subst (Stopped s k i ws bytes) g (record { fault = fault_at i c; is = refl; before = []; rest = bytes; split = refl; many = omega arith; few = omega arith; fit = refl; range = tt; beyond = beyond; none = none })

stopped : (steps k i : ℕ) (ws bytes : List ℕ) (e : Refusal) → Bytes bytes → nodes steps k i ws bytes ≡ Err e → Stopped steps k i ws bytes e
unfolding nodes lawful widths
stopped zero k i ws [] e h f = cc
stopped (suc s) k i ws [] e h f = cc
stopped zero k i ws (b ∷ bytes) e h f = here zero k i ws (b ∷ bytes) e causes.Nodes f (λ x ys l _ _ _. absurd (omega arith)) (omega arith)
stopped (suc s) k i ws (b ∷ bytes) e h f = on (node k ws (b ∷ bytes)) refl f (λ j vs ys t g. stopped s k j vs ys e t g)
  where
    on : (d : Read Node) → node k ws (b ∷ bytes) ≡ d → next i d (λ x. nodes s k (i + 1) (ws ++ width k ws x.0 ∷ []) x.1) ≡ Err e → ((j : ℕ) (vs ys : List ℕ) → Bytes ys → nodes s k j vs ys ≡ Err e → Stopped s k j vs ys e) → Stopped (suc s) k i ws (b ∷ bytes) e
    on (Err c) d f again =
        let q = (node_caused ws k (b ∷ bytes)).by c d in
        let g : ◌≡◌ {A = Result (List Node) Refusal} (Err (plan_refusal (fault_at i q.0))) (Err e) = subst (λ m. ◌≡◌ {A = Result (List Node) Refusal} (Err (refused i m)) (Err e)) q.1 f in
        here (suc s) k i ws (b ∷ bytes) e q.0 g
        (λ x ys l u v q. let r : node k ws (b ∷ bytes) ≡ Ok (x, ys) = ap (node k ws) q ∙ node_read k ws x ys u v in cc)
        (omega arith)
    on (Ok p) d f again =
        let x = p.0 in
        let vs = ws ++ width k ws x ∷ [] in
        let w = node_was k ws (b ∷ bytes) x p.1 d in
        let t = again (i + 1) vs p.1 (bytes_right (encode x) p.1 (subst Bytes (w.split h) h)) (more_err x (nodes s k (i + 1) vs p.1) e f) in
        record {
          fault = t.fault;
          is = t.is;
          before = x ∷ t.before;
          rest = t.rest;
          split = w.split h ∙ (ap (λ ys. encode x ++ ys) t.split ∙ sym (append_assoc (encode x) (encode_all t.before) t.rest));
          many = omega (arith, t.many);
          few = omega (arith, t.few);
          fit = and_from (fits k ws x) (lawful k vs t.before) w.fit t.fit;
          range = (w.range h, t.range);
          beyond = t.beyond;
          none = λ y ys l u v q. t.none y ys (omega arith) u v q;
        }

pub refused_there : RefusedThere
refused_there k [] e h f =
    let g : refused 0 bad_count ≡ e = cc in
    (fault_at 0 causes.Nodes, sym g, record { whole = []; rest = []; split = refl; many = refl; few = omega arith; fit = lawful_none k; range = tt; more = λ z. z; none = λ x ys l u v q. omega (arith, long x, simp length-append at (ap length q)) })
refused_there k (b ∷ bytes) e h f =
    let t = stopped 16 k 0 [] (b ∷ bytes) e h f in
    (t.fault, t.is, record { whole = t.before; rest = t.rest; split = t.split; many = omega (arith, t.many); few = t.few; fit = t.fit; range = t.range; more = λ _. t.beyond; none = t.none })

-- where bytes break, they are broken
broken : (k : ℕ) (bytes : List ℕ) (node : ℕ) → BreaksAt k bytes node → BrokenAt k bytes node
broken k bytes node b =
    record {
      whole = b.whole;
      rest = b.rest;
      split = b.split;
      many = b.many;
      few = b.few;
      fit = b.fit;
      range = b.range;
      more = λ e. b.more (let n = some_byte b.whole (omega arith) in omega (arith, ap length b.split, length-append (encode_all b.whole) b.rest));
      none = b.none;
    }

pub refused_where_broken : RefusedWhereBroken
refused_where_broken k bytes e h f =
    let t = refused_there k bytes e h f in
    subst (λ (d : Refusal). (d.number ≡ 12) × BrokenAt k bytes d.place.0) (sym t.1) (refl, broken k bytes t.0.node t.2)

-- whole nodes are read, and what comes behind them is refused
behind_whole : (n s k i : ℕ) (ws : List ℕ) (xs : List Node) (rest : List ℕ) (f : Refusal) → n ≡ length xs + s → lawful k ws xs ≡ true → AllByRecursion InRange xs → nodes s k (i + length xs) (widths k ws xs) rest ≡ Err f → nodes n k i ws (encode_all xs ++ rest) ≡ Err f
unfolding lawful widths
behind_whole n s k i ws [] rest f e l r g =
    let z : n ≡ s = omega arith in
    let j : i + 0 ≡ i = omega arith in
    subst (λ m. nodes m k i ws rest ≡ Err f) (sym z) (subst (λ m. nodes s k m ws rest ≡ Err f) j g)
behind_whole zero s k i ws (x ∷ xs) rest f e l r g = absurd (omega arith)
behind_whole (suc n) s k i ws (x ∷ xs) rest f e l r g =
    let vs = ws ++ width k ws x ∷ [] in
    let p = and_parts (fits k ws x) (lawful k vs xs) l in
    let more_bytes = encode_all xs ++ rest in
    let j : i + length (x ∷ xs) ≡ i + 1 + length xs = omega arith in
    let again = behind_whole n s k (i + 1) vs xs rest f (omega arith) p.1 r.1 (subst (λ m. nodes s k m (widths k vs xs) rest ≡ Err f) j g) in
    let one : 1 ≤ length (encode x ++ more_bytes) = simp length-append (omega (arith, long x)) in
    ap (nodes (suc n) k i ws) (append_assoc (encode x) (encode_all xs) rest) ∙ (nodes_next n k i ws (encode x ++ more_bytes) x more_bytes one (node_read k ws x more_bytes p.0 r.0) ∙ ap (more x) again)

-- no lawful node stands in front of the bytes, so they are refused at once
no_node : (s k i : ℕ) (ws bytes : List ℕ) → Bytes bytes → 1 ≤ length bytes → ((x : Node) (ys : List ℕ) → fits k ws x ≡ true → InRange x → bytes ≡ encode x ++ ys → ⊥) → (c : Cause) × (nodes (suc s) k i ws bytes ≡ Err (plan_refusal (fault_at i c)))
unfolding nodes
no_node s k i ws [] h one none = absurd (omega arith)
no_node s k i ws (b ∷ bytes) h one none = on (node k ws (b ∷ bytes)) refl
  where
    on : (d : Read Node) → node k ws (b ∷ bytes) ≡ d → (c : Cause) × (next i d (λ x. nodes s k (i + 1) (ws ++ width k ws x.0 ∷ []) x.1) ≡ Err (plan_refusal (fault_at i c)))
    on (Err c) e =
        let q = (node_caused ws k (b ∷ bytes)).by c e in
        (q.0, ap (λ m. Err (refused i m)) q.1)
    on (Ok p) e = let w = node_was k ws (b ∷ bytes) p.0 p.1 e in absurd (none p.0 p.1 w.fit (w.range h) (w.split h))

no_step : (k i : ℕ) (ws bytes : List ℕ) → 1 ≤ length bytes → nodes 0 k i ws bytes ≡ Err (plan_refusal (fault_at i causes.Nodes))
unfolding nodes
no_step k i ws [] h = absurd (omega arith)
no_step k i ws (b ∷ bytes) h = refl

refused_behind : (k : ℕ) (xs : List Node) (rest : List ℕ) → Bytes rest → lawful k [] xs ≡ true → AllByRecursion InRange xs → 1 ≤ length rest → (s : ℕ) → 16 ≡ length xs + s → ((x : Node) (ys : List ℕ) → length xs < 16 → fits k (widths k [] xs) x ≡ true → InRange x → rest ≡ encode x ++ ys → ⊥) → (c : Cause) × (checked k (encode_all xs ++ rest) ≡ Err (plan_refusal (fault_at (0 + length xs) c)))
refused_behind k xs rest h l r one s e none =
    let some : 1 ≤ length (encode_all xs ++ rest) = simp length-append (omega arith) in
    let start = checked_some k (encode_all xs ++ rest) some in
    on s e start
  where
    on : (s : ℕ) → 16 ≡ length xs + s → checked k (encode_all xs ++ rest) ≡ nodes 16 k 0 [] (encode_all xs ++ rest) → (c : Cause) × (checked k (encode_all xs ++ rest) ≡ Err (plan_refusal (fault_at (0 + length xs) c)))
    on zero e start = (causes.Nodes, start ∙ behind_whole 16 0 k 0 [] xs rest (plan_refusal (fault_at (0 + length xs) causes.Nodes)) e l r (no_step k (0 + length xs) (widths k [] xs) rest one))
    on (suc s) e start =
        let m : length xs < 16 = omega arith in
        let d = no_node s k (0 + length xs) (widths k [] xs) rest h one (λ x ys u v q. none x ys m u v q) in
        (d.0, start ∙ behind_whole 16 (suc s) k 0 [] xs rest (plan_refusal (fault_at (0 + length xs) d.0)) e l r d.1)

no_bytes : (xs : List Node) → length (encode_all xs) ≡ 0 → 0 ≡ length xs
no_bytes [] z = refl
no_bytes (x ∷ xs) z = omega (arith, long x, length-append (encode x) (encode_all xs))

pub broken_are_refused : BrokenAreRefused
broken_are_refused k [] node h b =
    let s = ap length b.split in
    let z : length (encode_all b.whole) ≡ 0 = omega (arith, length-append (encode_all b.whole) b.rest) in
    (fault_at 0 causes.Nodes, refl, no_bytes b.whole z ∙ b.many)
broken_are_refused k (x ∷ bytes) node h b =
    let n = b.few in
    let d = refused_behind k b.whole b.rest (bytes_right (encode_all b.whole) b.rest (subst Bytes b.split h)) b.fit b.range (b.more (omega arith)) (16 - length b.whole) (omega arith) b.none in
    (fault_at (0 + length b.whole) d.0, ap (checked k) b.split ∙ d.1, omega (arith, b.many))

pub never_both : NeverBoth
never_both = (accepted, λ k xs node l b. accepted k (encode_all xs) xs node (plan_bytes k xs l) (read_back k xs l) b)
  where
    accepted : (k : ℕ) (bytes : List ℕ) (xs : List Node) (node : ℕ) → Bytes bytes → checked k bytes ≡ Ok xs → BreaksAt k bytes node → ⊥
    accepted k bytes xs node h e b =
        let d = broken_are_refused k bytes node h b in
        let s : ◌≡◌ {A = Result (List Node) Refusal} (Ok xs) (Err (plan_refusal d.0)) = sym e ∙ d.1 in
        let z : ◌≡◌ {A = ℕ} 0 1 = cc in
        omega arith

pub plan_or_broken : (k : ℕ) (bytes : List ℕ) (r : Result (List Node) PlanFault) → Bytes bytes → plan_told r ≡ checked k bytes → PlanOrBroken k bytes r
plan_or_broken k bytes (Ok xs) h e = accepted_lawful k bytes xs h (sym e)
plan_or_broken k bytes (Err f) h e =
    let t = refused_there k bytes (plan_refusal f) h (sym e) in
    subst (BreaksAt k bytes) (ap (λ (d : Refusal). d.place.0) (sym t.1)) t.2
