-- The nodes that have been read, and those that are left.
use Rattle.std.proofs.Common.{◌≡◌, ℕ, zero, suc, ◌+◌, ◌-◌, ◌<◌, List, [], ◌∷◌, ◌++◌, length, Ok, Err, Result, sym, refl, ap, ◌∙◌, append_assoc, append-nil, arith}
use Rattle.std.specs.Prelude.{MatchResult, IsErrAnd}
use Rattle.plan.specs.declared.node.Node.{Node}
use Rattle.plan.specs.Refusal.{Refusal, refused}
use Rattle.plan.specs.Lawful.{width}
use Rattle.plan.specs.Check.{node, more, nodes, checked}

abbrev pub after : List Node → Result (List Node) Refusal → Result (List Node) Refusal
after xs (Ok ys) = Ok (xs ++ ys)
after xs (Err e) = Err e

pub after_none : (o : Result (List Node) Refusal) → after [] o ≡ o
after_none (Ok ys) = refl
after_none (Err e) = refl

after_more : (xs : List Node) (x : Node) (o : Result (List Node) Refusal) → after xs (more x o) ≡ after (xs ++ x ∷ []) o
after_more xs x (Ok ys) = ap Ok (sym (append_assoc xs (x ∷ []) ys))
after_more xs x (Err e) = refl

pub checked_is : (k : ℕ) (bytes : List ℕ) → 0 < length bytes → checked k bytes ≡ nodes 16 k 0 [] bytes
checked_is k [] h = absurd (omega arith)
checked_is k (b ∷ bytes) h = refl

pub checked_none : (k : ℕ) (bytes : List ℕ) → length bytes ≡ 0 → checked k bytes ≡ Err (refused 0 6)
checked_none k [] h = refl
checked_none k (b ∷ bytes) h = absurd (omega arith)

nodes_end : (n k i : ℕ) (ws bytes : List ℕ) → length bytes ≡ 0 → nodes n k i ws bytes ≡ Ok []
unfolding nodes
nodes_end zero k i ws [] z = refl
nodes_end (suc n) k i ws [] z = refl
nodes_end n k i ws (b ∷ bytes) z = absurd (omega arith)

pub nodes_full : (k i : ℕ) (ws bytes : List ℕ) → i ≡ 16 → 0 < length bytes → nodes (16 - i) k i ws bytes ≡ Err (refused 16 6)
unfolding nodes
nodes_full k i ws [] h z = absurd (omega arith)
nodes_full k i ws (b ∷ bytes) h z = rw h refl

nodes_step : (k i : ℕ) (ws bytes : List ℕ) (x : Node) (left : List ℕ) → i < 16 → 0 < length bytes → node k ws bytes ≡ Ok (x, left) → nodes (16 - i) k i ws bytes ≡ more x (nodes (16 - (i + 1)) k (i + 1) (ws ++ width k ws x ∷ []) left)
unfolding nodes
nodes_step k i ws [] x left h z e = absurd (omega arith)
nodes_step k i ws (b ∷ bytes) x left h z e = let s : 16 - i ≡ suc (16 - (i + 1)) = omega arith in rw (s, e) refl

pub nodes_stop : (k i : ℕ) (ws bytes : List ℕ) (cause : ℕ) → i < 16 → 0 < length bytes → node k ws bytes ≡ Err cause → nodes (16 - i) k i ws bytes ≡ Err (refused i cause)
unfolding nodes
nodes_stop k i ws [] c h z e = absurd (omega arith)
nodes_stop k i ws (b ∷ bytes) c h z e = let s : 16 - i ≡ suc (16 - (i + 1)) = omega arith in rw (s, e) refl

pub step_again : (k i : ℕ) (ns : List Node) (vs rest : List ℕ) (x : Node) (left : List ℕ) (w : ℕ) → i < 16 → 0 < length rest → node k vs rest ≡ Ok (x, left) → w ≡ width k vs x → after (ns ++ x ∷ []) (nodes (16 - (i + 1)) k (i + 1) (vs ++ w ∷ []) left) ≡ after ns (nodes (16 - i) k i vs rest)
step_again k i ns vs rest x left w h z e f =
    rw f (sym (after_more ns x (nodes (16 - (i + 1)) k (i + 1) (vs ++ width k vs x ∷ []) left)) ∙ ap (after ns) (sym (nodes_step k i vs rest x left h z e)))

pub end_again : (k i : ℕ) (ns : List Node) (vs rest : List ℕ) → length rest ≡ 0 → after ns (nodes (16 - i) k i vs rest) ≡ Ok ns
end_again k i ns vs rest z = ap (after ns) (nodes_end (16 - i) k i vs rest z) ∙ ap Ok (append-nil ns)

-- what `map_err` was given, told by what it answers
module _ {X E D : Type 0} (r : Result X E) (m : Result X D) (P : E → D → Type 0) (cases : MatchResult r (λ x. m ≡ Ok x) (λ e. IsErrAnd m (P e))) where
  pub mapped_ok : (x : X) → m ≡ Ok x → r ≡ Ok x
  mapped_ok x h = on r (rw h at cases)
    where
      on : (o : Result X E) → MatchResult o (λ y. ◌≡◌ {A = Result X D} (Ok x) (Ok y)) (λ e. IsErrAnd {T = X} (Ok x) (P e)) → o ≡ Ok x
      on (Ok y) c = cc
      on (Err e) c = absurd c

  pub mapped_err : (d : D) → m ≡ Err d → (e : E) × (r ≡ Err e) × P e d
  mapped_err d h = on r (rw h at cases)
    where
      on : (o : Result X E) → MatchResult o (λ y. ◌≡◌ {A = Result X D} (Err d) (Ok y)) (λ e. IsErrAnd {T = X} (Err d) (P e)) → (e : E) × (o ≡ Err e) × P e d
      on (Ok y) c = cc
      on (Err e) c = (e, refl, c)
