-- The nets of a message as one canonical list by keys of node and row. Assumes nothing.
--     keyed_nets           the nets of the nodes one behind the other are the keyed movements collected
--     canonical_nets       the nets of some nodes, by keys, are canonical
--     keyed_same           lines with equal keyed lists are equal
--     collect_push         one movement more
--     length_collect       collecting makes no list longer
use Rattle.std.proofs.Common.{◌≡◌, ℕ, zero, suc, ◌+◌, ◌<◌, ◌≤◌, Bool, true, false, cond, eqb, List, [], ◌∷◌, ◌++◌, map, length, ℤ, ◌+ℤ◌, sym, refl, ap, ◌∙◌, subst, ap₂, arith}
use lib.IntN.{+ℤ_idr, +ℤ_comm}
use Rattle.std.specs.List.{AllByRecursion}
use Rattle.std.proofs.lemmas.List.{map-append}
use Rattle.std.proofs.ByRecursion.{All-weaker}
use Rattle.std.proofs.lemmas.Int.{ints}
use Rattle.std.proofs.lemmas.Bool.{eqb-true, eqb-false, ne_eqb}
use Rattle.bag.specs.declared.lines.ChangeLine.{ChangeLine}
use Rattle.bag.specs.Order.{Row}
use Rattle.bag.specs.Bag.{Line, Lines, copies_at, count, add_copies, collect, Before, Canonical}
use Rattle.bag.specs.Operators.{map_rows}
use Rattle.bag.proofs.CanonicalForm.{canonical_add_copies, canonical_collect, equal_counts}
use Rattle.bag.specs.Integers.{integer_laws, count_add_copies, count_collect, count-++}
use Rattle.bag.specs.Sums.{sum_collect}
use Rattle.bag.proofs.Moves.{map_rows_adds_up, count_map_rows}
use Rattle.message.specs.declared.record.Record.{Record}
use Rattle.settling.specs.Keys.{key, keyed}
use Rattle.settling.proofs.KeyOrder.{key_less, key_same}
use Rattle.sheet.specs.Sheets.{of_node, flattened}
use Rattle.nets.specs.Nets.{signed_copies, movement, movements_of, net_of, nets_from, nets_of}
use Rattle.nets.specs.NetTable.{keyed_movement}
use Rattle.nets.proofs.KeyedLines.{longer_by_one}

-- the lines of one node, by keys
node_rows : (k : ℕ) (d : Lines) → map keyed (of_node k d) ≡ map_rows (key k) d
unfolding map_rows
node_rows k [] = refl
node_rows k (e ∷ d) = ap (λ xs. (key k e.0, e.1) ∷ xs) (node_rows k d)

count_net : (k : ℕ) (d : Lines) (q : Row) → count (map keyed (of_node k (collect d))) q ≡ count (map keyed (of_node k d)) q
count_net k d q =
    ap (λ xs. count xs q) (node_rows k (collect d)) ∙ count_map_rows (key k) (collect d) q
    ∙ sum_collect _ integer_laws (λ r n. copies_at q (key k r) n) (map_rows_adds_up (key k) q) d
    ∙ sym (ap (λ xs. count xs q) (node_rows k d) ∙ count_map_rows (key k) d q)

-- the records that are not of node k
unfoldable others : ℕ → List Record → List Record
others k [] = []
others k (r ∷ m) = cond (eqb r.node k) (others k m) (r ∷ others k m)

into_first : (a b c d : ℤ) → b ≡ c +ℤ d → a +ℤ b ≡ (a +ℤ c) +ℤ d
into_first a b c d h = omega (arith, ints)

into_second : (a b c d : ℤ) → b ≡ c +ℤ d → a +ℤ b ≡ c +ℤ (a +ℤ d)
into_second a b c d h = omega (arith, ints)

split : (k : ℕ) (m : List Record) (q : Row) → count (map keyed_movement m) q ≡ count (map keyed (of_node k (movements_of k m))) q +ℤ count (map keyed_movement (others k m)) q
unfolding count movements_of others
split k [] q = refl
split k (r ∷ m) q = by (eqb r.node k) refl (split k m q)
  where
    by : (b : Bool) → eqb r.node k ≡ b → count (map keyed_movement m) q ≡ count (map keyed (of_node k (movements_of k m))) q +ℤ count (map keyed_movement (others k m)) q
        → count (map keyed_movement (r ∷ m)) q ≡ count (map keyed (of_node k (cond b (movement r ∷ movements_of k m) (movements_of k m)))) q +ℤ count (map keyed_movement (cond b (others k m) (r ∷ others k m))) q
    by true e rec =
        ap (λ n. copies_at q (key n r.row) (signed_copies r) +ℤ count (map keyed_movement m) q) (eqb-true r.node k e)
        ∙ into_first (copies_at q (key k r.row) (signed_copies r)) (count (map keyed_movement m) q) (count (map keyed (of_node k (movements_of k m))) q) (count (map keyed_movement (others k m)) q) rec
    by false e rec = into_second (copies_at q (key r.node r.row) (signed_copies r)) (count (map keyed_movement m) q) (count (map keyed (of_node k (movements_of k m))) q) (count (map keyed_movement (others k m)) q) rec

movements_others : (i k : ℕ) (m : List Record) → (i ≡ k → ⊥) → movements_of i (others k m) ≡ movements_of i m
unfolding movements_of others
movements_others i k [] n = refl
movements_others i k (r ∷ m) n = by (eqb r.node k) refl (movements_others i k m n)
  where
    by : (b : Bool) → eqb r.node k ≡ b → movements_of i (others k m) ≡ movements_of i m → movements_of i (cond b (others k m) (r ∷ others k m)) ≡ movements_of i (r ∷ m)
    by true e rec =
        let s = eqb-true r.node k e in
        let f : eqb r.node i ≡ false = ne_eqb r.node i (λ t. n (sym t ∙ s)) in
        rw f rec
    by false e rec = ap (λ xs. cond (eqb r.node i) (movement r ∷ xs) xs) rec

nets_others : (n i k : ℕ) (m : List Record) → k < i → nets_from i n (others k m) ≡ nets_from i n m
unfolding nets_from
nets_others zero i k m l = refl
nets_others (suc n) i k m l = ap₂ (λ (d : Lines) ds. d ∷ ds) (ap collect (movements_others i k m (λ e. omega arith))) (nets_others n (suc i) k m (omega arith))

abbrev Between : ℕ → ℕ → Record → Type 0
Between k n r = (k ≤ r.node) × (r.node < k + n)

all_others : (k n : ℕ) (m : List Record) → AllByRecursion (Between k (suc n)) m → AllByRecursion (Between (suc k) n) (others k m)
unfolding others
all_others k n [] all = tt
all_others k n (r ∷ m) all = by (eqb r.node k) refl (all_others k n m all.1)
  where
    by : (b : Bool) → eqb r.node k ≡ b → AllByRecursion (Between (suc k) n) (others k m) → AllByRecursion (Between (suc k) n) (cond b (others k m) (r ∷ others k m))
    by true e rec = rec
    by false e rec = let ne = eqb-false r.node k e in let l = all.0.0 in let u = all.0.1 in let a : suc k ≤ r.node = omega (arith, ne) in ((a, omega arith), rec)

count_nets : (n k : ℕ) (m : List Record) (q : Row) → AllByRecursion (Between k n) m → count (map keyed (flattened k (nets_from k n m))) q ≡ count (map keyed_movement m) q
unfolding nets_from flattened count
count_nets zero k [] q all = refl
count_nets zero k (r ∷ m) q all = let l = all.0.0 in let u = all.0.1 in absurd (let z : ⊥ = omega arith in z)
count_nets (suc n) k m q all =
    let rest = flattened (suc k) (nets_from (suc k) n m) in
    ap (λ xs. count xs q) (map-append keyed (of_node k (net_of k m)) rest) ∙ count-++ (map keyed (of_node k (net_of k m))) (map keyed rest) q
    ∙ ap₂ (λ a b. a +ℤ b) (count_net k (movements_of k m) q)
    (sym (ap (λ ds. count (map keyed (flattened (suc k) ds)) q) (nets_others n (suc k) k m (omega arith))) ∙ count_nets n (suc k) (others k m) q (all_others k n m all))
    ∙ sym (split k m q)

before_flattened : (r : Row) (k j : ℕ) (ds : List Lines) → k < j → Before (key k r) (map keyed (flattened j ds))
unfolding flattened
before_flattened r k j [] l = tt
before_flattened r k j ([] ∷ ds) l = before_flattened r k (suc j) ds (omega arith)
before_flattened r k j ((e ∷ d) ∷ ds) l = key_less k j r e.0 l

canonical_then : (k : ℕ) (d : Lines) (ls : List ChangeLine) → Canonical d → Canonical (map keyed ls) → ((r : Row) → Before (key k r) (map keyed ls)) → Canonical (map keyed (of_node k d ++ ls))
canonical_then k [] ls c cs b = cs
canonical_then k (e ∷ []) ls c cs b = (c.0, b e.0, cs)
canonical_then k (e ∷ f ∷ d) ls c cs b = (c.0, key_same k e.0 f.0 ∙ c.1, canonical_then k (f ∷ d) ls c.2 cs b)

pub canonical_nets : (n k : ℕ) (m : List Record) → Canonical (map keyed (flattened k (nets_from k n m)))
unfolding nets_from flattened
canonical_nets zero k m = tt
canonical_nets (suc n) k m = canonical_then k (net_of k m) (flattened (suc k) (nets_from (suc k) n m)) (canonical_collect (movements_of k m)) (canonical_nets n (suc k) m) (λ r. before_flattened r k (suc k) (nets_from (suc k) n m) (omega arith))

pub keyed_nets : (m : List Record) → AllByRecursion (λ r. r.node ≤ 15) m → map keyed (nets_of m) ≡ collect (map keyed_movement m)
keyed_nets m low =
    equal_counts (map keyed (nets_of m)) (collect (map keyed_movement m)) (canonical_nets 16 0 m) (canonical_collect (map keyed_movement m))
    (λ q. count_nets 16 0 m q (All-weaker (λ r. r.node ≤ 15) (Between 0 16) (λ r l. (omega arith, omega arith)) m low) ∙ sym (count_collect (map keyed_movement m) q))

pub keyed_same : (xs ys : List ChangeLine) → map keyed xs ≡ map keyed ys → xs ≡ ys
keyed_same [] [] h = refl
keyed_same [] (y ∷ ys) h = let z : ⊥ = cc in absurd z
keyed_same (x ∷ xs) [] h = let z : ⊥ = cc in absurd z
keyed_same (x ∷ xs) (y ∷ ys) h =
    let first : keyed x ≡ keyed y = cc in
    let rest : map keyed xs ≡ map keyed ys = cc in
    let keys : key x.node x.row ≡ key y.node y.row = ap (λ (e : Line). e.0) first in
    let node : x.node ≡ y.node = cc in
    let row : x.row ≡ y.row = cc in
    let change : x.change ≡ y.change = ap (λ (e : Line). e.1) first in
    ap₂ (λ (l : ChangeLine) ls. l ∷ ls) (same x y node row change) (keyed_same xs ys rest)
  where
    same : (x y : ChangeLine) → x.node ≡ y.node → x.row ≡ y.row → x.change ≡ y.change → x ≡ y
    same x y a b c = subst (λ n. x ≡ record { node = n; row = y.row; change = y.change }) a (subst (λ r. x ≡ record { node = x.node; row = r; change = y.change }) b (subst (λ z. x ≡ record { node = x.node; row = x.row; change = z }) c refl))

pub collect_push : (xs : Lines) (e : Line) → collect (xs ++ e ∷ []) ≡ add_copies e.0 e.1 (collect xs)
unfolding count
collect_push xs e =
    equal_counts (collect (xs ++ e ∷ [])) (add_copies e.0 e.1 (collect xs)) (canonical_collect (xs ++ e ∷ [])) (canonical_add_copies e.0 e.1 (collect xs) (canonical_collect xs))
    (λ q. count_collect (xs ++ e ∷ []) q ∙ count-++ xs (e ∷ []) q ∙ ap (λ n. count xs q +ℤ n) (+ℤ_idr (copies_at q e.0 e.1)) ∙ +ℤ_comm (count xs q) (copies_at q e.0 e.1)
    ∙ sym (count_add_copies e.0 e.1 (collect xs) q ∙ ap (λ n. copies_at q e.0 e.1 +ℤ n) (count_collect xs q)))

pub length_collect : (xs : Lines) → length (collect xs) ≤ length xs
unfolding collect
length_collect [] = omega arith
length_collect (e ∷ xs) = let l = longer_by_one e.0 e.1 (collect xs) in let r = length_collect xs in omega arith
