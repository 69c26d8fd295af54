-- Whole plans, there and back.
use Rattle.std.proofs.Common.{◌≡◌, ℕ, zero, suc, ◌+◌, ◌≤◌, true, List, [], ◌∷◌, ◌++◌, length, Ok, Err, Result, sym, refl, ap, ◌∙◌, subst, arith, length-append}
use Rattle.std.specs.List.{AllByRecursion}
use Rattle.std.proofs.lemmas.Bool.{and_parts, and_from}
use Rattle.plan.specs.declared.node.Node.{Node}
use Rattle.plan.specs.declared.node.Node.TheVariants.{Base, Keep, Pick, Pair, Both, Less, Total}
use Rattle.plan.specs.Refusal.{Refusal}
use Rattle.plan.specs.Lawful.{width, fits, lawful, InRange, LawfulPlan}
use Rattle.plan.specs.Fields.{Read}
use Rattle.plan.specs.Check.{node, more, next, nodes, checked}
use Rattle.bag.specs.Bytes.{Bytes}
use Rattle.plan.specs.Encode.{encode, encode_all}
use Rattle.plan.specs.Laws.{AcceptedAreEncodings, EncodingsAreAccepted, OneEncoding, OneToOne}
use Rattle.plan.proofs.Nodes.{node_was, node_read}
use Rattle.plan.proofs.Codes.{plan_bytes}

pub bytes_right : (xs ys : List ℕ) → Bytes (xs ++ ys) → Bytes ys
bytes_right [] ys h = h
bytes_right (x ∷ xs) ys h = bytes_right xs ys h.1

more_ok : (x : Node) (o : Result (List Node) Refusal) (xs : List Node) → more x o ≡ Ok xs → (ys : List Node) × (o ≡ Ok ys) × (x ∷ ys ≡ xs)
more_ok x (Ok ys) xs e = (ys, refl, cc)
more_ok x (Err f) xs e = cc

pub more_err : (x : Node) (o : Result (List Node) Refusal) (e : Refusal) → more x o ≡ Err e → o ≡ Err e
more_err x (Ok ys) e f = cc
more_err x (Err g) e f = f

-- what nodes that were read say of the bytes
record Whole (steps k : ℕ) (ws bytes : List ℕ) (xs : List Node) : Type 0 where
  fit : lawful k ws xs ≡ true
  few : length xs ≤ steps
  code : Bytes bytes → bytes ≡ encode_all xs
  range : Bytes bytes → AllByRecursion InRange xs

nothing : (steps k : ℕ) (ws : List ℕ) (xs : List Node) → ◌≡◌ {A = Result (List Node) Refusal} (Ok []) (Ok xs) → Whole steps k ws [] xs
unfolding lawful
nothing steps k ws xs e = let s : [] ≡ xs = cc in subst (Whole steps k ws []) s (record { fit = refl; few = omega arith; code = λ _. refl; range = λ _. tt })

whole : (steps k i : ℕ) (ws bytes : List ℕ) (xs : List Node) → nodes steps k i ws bytes ≡ Ok xs → Whole steps k ws bytes xs
unfolding nodes lawful
whole zero k i ws [] xs e = nothing zero k ws xs e
whole (suc s) k i ws [] xs e = nothing (suc s) k ws xs e
whole zero k i ws (b ∷ bytes) xs e = cc
whole (suc s) k i ws (b ∷ bytes) xs e = on (node k ws (b ∷ bytes)) refl e (λ j vs ys zs f. whole s k j vs ys zs f)
  where
    on : (d : Read Node) → node k ws (b ∷ bytes) ≡ d → next i d (λ x. nodes s k (i + 1) (ws ++ width k ws x.0 ∷ []) x.1) ≡ Ok xs → ((j : ℕ) (vs ys : List ℕ) (zs : List Node) → nodes s k j vs ys ≡ Ok zs → Whole s k vs ys zs) → Whole (suc s) k ws (b ∷ bytes) xs
    on (Err c) d e again = cc
    on (Ok p) d e again =
        let x = p.0 in
        let vs = ws ++ width k ws x ∷ [] in
        let m = more_ok x (nodes s k (i + 1) vs p.1) xs e in
        let h = again (i + 1) vs p.1 m.0 m.1 in
        let w = node_was k ws (b ∷ bytes) x p.1 d in
        let right : Bytes (b ∷ bytes) → Bytes p.1 = λ t. bytes_right (encode x) p.1 (subst Bytes (w.split t) t) in
        subst (Whole (suc s) k ws (b ∷ bytes)) m.2
        (record {
          fit = and_from (fits k ws x) (lawful k vs m.0) w.fit h.fit;
          few = omega (arith, h.few);
          code = λ t. w.split t ∙ ap (λ ys. encode x ++ ys) (h.code (right t));
          range = λ t. (w.range t, h.range (right t));
        })

-- every node has a byte
pub long : (x : Node) → 1 ≤ length (encode x)
long (Base w) = omega arith
long (Keep c a r o) = omega arith
long (Pick c cs) = omega arith
long (Pair l r ps) = omega arith
long (Both l r) = omega arith
long (Less l r) = omega arith
long (Total c j cs) = omega arith

pub nodes_next : (s k i : ℕ) (ws bytes : List ℕ) (x : Node) (rest : List ℕ) → 1 ≤ length bytes → node k ws bytes ≡ Ok (x, rest) → nodes (suc s) k i ws bytes ≡ more x (nodes s k (i + 1) (ws ++ width k ws x ∷ []) rest)
unfolding nodes
nodes_next s k i ws [] x rest h e = absurd (omega arith)
nodes_next s k i ws (b ∷ bytes) x rest h e = rw e refl

nodes_nil : (s k i : ℕ) (ws : List ℕ) → nodes s k i ws [] ≡ Ok []
unfolding nodes
nodes_nil zero k i ws = refl
nodes_nil (suc s) k i ws = refl

nodes_read : (s k i : ℕ) (ws : List ℕ) (xs : List Node) → length xs ≤ s → lawful k ws xs ≡ true → AllByRecursion InRange xs → nodes s k i ws (encode_all xs) ≡ Ok xs
unfolding lawful
nodes_read s k i ws [] l e r = nodes_nil s k i ws
nodes_read zero k i ws (x ∷ xs) l e r = absurd (omega arith)
nodes_read (suc s) k i ws (x ∷ xs) l e r =
    let vs = ws ++ width k ws x ∷ [] in
    let p = and_parts (fits k ws x) (lawful k vs xs) e in
    let n : 1 ≤ length (encode x ++ encode_all xs) = simp length-append (omega (arith, long x)) in
    nodes_next s k i ws (encode x ++ encode_all xs) x (encode_all xs) n (node_read k ws x (encode_all xs) p.0 r.0) ∙ ap (more x) (nodes_read s k (i + 1) vs xs (omega arith) p.1 r.1)

pub checked_some : (k : ℕ) (bytes : List ℕ) → 1 ≤ length bytes → checked k bytes ≡ nodes 16 k 0 [] bytes
checked_some k [] h = absurd (omega arith)
checked_some k (b ∷ bytes) h = refl

some_node : (k b : ℕ) (bytes : List ℕ) (xs : List Node) → Whole 16 k [] (b ∷ bytes) xs → Bytes (b ∷ bytes) → 1 ≤ length xs
some_node k b bytes [] w h = let e : ◌≡◌ {A = List ℕ} (b ∷ bytes) [] = w.code h in omega (arith, ap length e)
some_node k b bytes (x ∷ xs) w h = omega arith

pub accepted : (k : ℕ) (bytes : List ℕ) (xs : List Node) → Bytes bytes → checked k bytes ≡ Ok xs → LawfulPlan k xs × (bytes ≡ encode_all xs)
accepted k [] xs h e = cc
accepted k (b ∷ bytes) xs h e =
    let w = whole 16 k 0 [] (b ∷ bytes) xs e in
    (record { some = some_node k b bytes xs w h; few = w.few; fit = w.fit; range = w.range h }, w.code h)

pub some_byte : (xs : List Node) → 1 ≤ length xs → 1 ≤ length (encode_all xs)
some_byte [] h = absurd (omega arith)
some_byte (x ∷ xs) h = simp length-append (omega (arith, long x))

pub read_back : (k : ℕ) (xs : List Node) → LawfulPlan k xs → checked k (encode_all xs) ≡ Ok xs
read_back k xs l = checked_some k (encode_all xs) (some_byte xs l.some) ∙ nodes_read 16 k 0 [] xs l.few l.fit l.range

pub accepted_are_encodings : AcceptedAreEncodings
accepted_are_encodings k bytes xs h = (accepted k bytes xs h, λ l e. ap (checked k) e ∙ read_back k xs l)

pub encodings_are_accepted : EncodingsAreAccepted
encodings_are_accepted k xs l = (plan_bytes k xs l, read_back k xs l)

pub one_encoding : OneEncoding
one_encoding k xs a b ha hb ea eb = (accepted k a xs ha ea).1 ∙ sym (accepted k b xs hb eb).1

pub one_to_one : OneToOne
one_to_one k xs ys l m e =
    let f : ◌≡◌ {A = Result (List Node) Refusal} (Ok xs) (Ok ys) = sym (read_back k xs l) ∙ (ap (checked k) e ∙ read_back k ys m) in
    cc
