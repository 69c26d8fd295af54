-- What plan bytes say, for a measure that shows k columns: the nodes, or the first fault.
-- Fields are read left to right and the first bad one decides; the node's width is the last to be checked.
--
--   equal_sides   the numbers of two lower nodes with rows of one width, and the bytes behind them
--   base, keep, pick, pair, both, less, total   a node behind its operator; ws are the widths of the lower nodes
--   behind        a node behind its operator's byte, whichever it is
--   node          a node: the operator's byte and its fields
--   nodes         the nodes from the node i on, of which `steps` more may come
--   checked       all nodes of a plan, or the refusal; a plan has 1 to 16 nodes
--   kept          how many shown columns a plan keeps: more than 8 leave no room for a total, as 8 do, and count as 8
use Rattle.std.specs.Prelude.{ℕ, zero, suc, ◌+◌, min, cond, List, [], ◌∷◌, ◌++◌, Ok, Err, Result, ◌==◌, nat_le, slice_index}
use Rattle.plan.specs.declared.node.Node.{Node}
use Rattle.plan.specs.declared.node.Node.TheVariants.{Base, Keep, Pick, Pair, Both, Less, Total}
use Rattle.plan.specs.Refusal.{Refusal, refused}
use Rattle.plan.specs.Lawful.{width}
use Rattle.plan.specs.Fields.{Read, then, when, octet, lower, column, within, relation, operand, columns, pairs, outside, bad_width, bad_count}

abbrev pub base : List ℕ → Read Node
base bytes = then (within 1 8 bytes) (λ w. Ok (Base w.0, w.1))

abbrev pub keep : List ℕ → List ℕ → Read Node
keep ws bytes =
    then (lower ws bytes) (λ c. then (column (slice_index ws c.0) c.1) (λ a. then (octet a.1) (λ b. then (relation b.0) (λ r. then (operand (slice_index ws c.0) b.1) (λ o. Ok (Keep c.0 a.0 r o.0, o.1))))))

abbrev pub pick : List ℕ → List ℕ → Read Node
pick ws bytes =
    then (lower ws bytes) (λ c. then (within 1 8 c.1) (λ n. then (columns n.0 (slice_index ws c.0) n.1) (λ l. Ok (Pick c.0 (record { count = n.0; places = l.0 }), l.1))))

abbrev pub pair : List ℕ → List ℕ → Read Node
pair ws bytes =
    then (lower ws bytes) (λ l. then (lower ws l.1) (λ r. then (within 0 4 r.1) (λ n. then (pairs n.0 (slice_index ws l.0) (slice_index ws r.0) n.1) (λ p. when (nat_le (slice_index ws l.0 + slice_index ws r.0) 8) bad_width (Pair l.0 r.0 (record { count = n.0; places = p.0 }), p.1)))))

abbrev pub equal_sides : List ℕ → List ℕ → Read (ℕ × ℕ)
equal_sides ws bytes =
    then (lower ws bytes) (λ l. then (lower ws l.1) (λ r. when (slice_index ws l.0 == slice_index ws r.0) bad_width ((l.0, r.0), r.1)))

abbrev pub both : List ℕ → List ℕ → Read Node
both ws bytes = then (equal_sides ws bytes) (λ s. Ok (Both s.0.0 s.0.1, s.1))

abbrev pub less : List ℕ → List ℕ → Read Node
less ws bytes = then (equal_sides ws bytes) (λ s. Ok (Less s.0.0 s.0.1, s.1))

abbrev pub total : ℕ → List ℕ → List ℕ → Read Node
total k ws bytes =
    then (lower ws bytes) (λ c. then (column (slice_index ws c.0) c.1) (λ j. then (within 0 7 j.1) (λ n. then (columns n.0 (slice_index ws c.0) n.1) (λ l. when (nat_le (n.0 + 1 + k) 8) bad_width (Total c.0 j.0 (record { count = n.0; places = l.0 }), l.1)))))

abbrev pub behind : ℕ → List ℕ → ℕ → List ℕ → Read Node
behind k ws op bytes =
    cond (op == 0) (base bytes) (cond (op == 1) (keep ws bytes) (cond (op == 2) (pick ws bytes) (cond (op == 3) (pair ws bytes) (cond (op == 4) (both ws bytes) (cond (op == 5) (less ws bytes) (cond (op == 6) (total k ws bytes) (Err outside)))))))

abbrev pub node : ℕ → List ℕ → List ℕ → Read Node
node k ws bytes = then (octet bytes) (λ op. behind k ws op.0 op.1)

abbrev pub more : Node → Result (List Node) Refusal → Result (List Node) Refusal
more x (Ok xs) = Ok (x ∷ xs)
more x (Err e) = Err e

abbrev pub next : ℕ → Read Node → (Node × List ℕ → Result (List Node) Refusal) → Result (List Node) Refusal
next i (Ok x) f = more x.0 (f x)
next i (Err cause) f = Err (refused i cause)

unfoldable pub nodes : ℕ → ℕ → ℕ → List ℕ → List ℕ → Result (List Node) Refusal
nodes steps k i ws [] = Ok []
nodes zero k i ws (b ∷ bytes) = Err (refused i bad_count)
nodes (suc steps) k i ws (b ∷ bytes) =
    next i (node k ws (b ∷ bytes)) (λ x. nodes steps k (i + 1) (ws ++ width k ws x.0 ∷ []) x.1)

abbrev pub checked : ℕ → List ℕ → Result (List Node) Refusal
checked k [] = Err (refused 0 bad_count)
checked k (b ∷ bytes) = nodes 16 k 0 [] (b ∷ bytes)

abbrev pub kept : ℕ → ℕ
kept k = min k 8
