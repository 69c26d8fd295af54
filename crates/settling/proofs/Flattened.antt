-- The lines of bags, node by node, as one canonical list. Assumes nothing.
--     change_flattened        the change that they have for a row of a node is the count in that node's bag
--     canonical_flattened     keys ascend and no change is 0, if the bags are canonical
--     nodes_flattened         which nodes they are of
--     length_flattened        how many lines there are
--     count_at_none, count_at_negative      what is no key has no change
--     count_past              nor has a node above 15
use Rattle.std.proofs.Common.{◌≡◌, ℕ, zero, suc, ◌+◌, ◌<◌, ◌≤◌, List, [], ◌∷◌, ◌++◌, length, get_or, pos, negsuc, ◌+ℤ◌, Ordering, Less, Greater, sym, refl, ap, ◌∙◌, ap₂, arith}
use lib.IntN.{+ℤ_idl, +ℤ_idr}
use Rattle.std.specs.List.{AllByRecursion}
use Rattle.std.proofs.lemmas.List.{map-append, length-map, length-append}
use Rattle.std.proofs.ByRecursion.{All-append}
use Rattle.bag.specs.declared.lines.ChangeLine.{ChangeLine}
use Rattle.bag.specs.Order.{Row, row_order}
use Rattle.bag.specs.Bag.{Lines, if_equal, count, Before, Canonical}
use Rattle.bag.specs.Integers.{count-++}
use Rattle.stock.specs.Holding.{lines_on}
use Rattle.sheet.specs.Sheets.{change_line, of_node, flattened}
use Rattle.settling.specs.Keys.{key, key_of, keyed, changes, change_at}
use Rattle.settling.proofs.KeyOrder.{key_less, key_greater, key_same, key_after_none, key_after_negative}

-- lines that count nothing at a key
none_behind : (l : ChangeLine) (ls : List ChangeLine) (k : Row) (o : Ordering) → row_order (key_of l) k ≡ o → if_equal o l.change ≡ pos 0 → count (changes ls) k ≡ pos 0 → count (changes (l ∷ ls)) k ≡ pos 0
unfolding count
none_behind l ls k o e n r = ap (λ u. if_equal u l.change +ℤ count (changes ls) k) e ∙ ap₂ (λ x y. x +ℤ y) n r

pub count_at_none : (ls : List ChangeLine) → count (changes ls) [] ≡ pos 0
unfolding count
count_at_none [] = refl
count_at_none (l ∷ ls) = none_behind l ls [] Greater (key_after_none l.node l.row) refl (count_at_none ls)

pub count_at_negative : (ls : List ChangeLine) (n : ℕ) (r : Row) → count (changes ls) (negsuc n ∷ r) ≡ pos 0
unfolding count
count_at_negative [] n r = refl
count_at_negative (l ∷ ls) n r = none_behind l ls (negsuc n ∷ r) Greater (key_after_negative l.node n l.row r) refl (count_at_negative ls n r)

pub count_past : (ls : List ChangeLine) (t : ℕ) (q : Row) → AllByRecursion (λ l. l.node ≤ 15) ls → 16 ≤ t → change_at ls t q ≡ pos 0
unfolding count
count_past [] t q a m = refl
count_past (l ∷ ls) t q a m = let b = a.0 in none_behind l ls (key t q) Less (key_less l.node t l.row q (omega arith)) refl (count_past ls t q a.1 m)

-- one node
count_other_node : (k : ℕ) (d : Lines) (t : ℕ) (q : Row) → k < t → change_at (of_node k d) t q ≡ pos 0
unfolding count
count_other_node k [] t q m = refl
count_other_node k (e ∷ d) t q m = none_behind (change_line k e) (of_node k d) (key t q) Less (key_less k t e.0 q m) refl (count_other_node k d t q m)

count_own_node : (k : ℕ) (d : Lines) (q : Row) → change_at (of_node k d) k q ≡ count d q
unfolding count
count_own_node k [] q = refl
count_own_node k (e ∷ d) q = ap₂ (λ o z. if_equal o e.1 +ℤ z) (key_same k e.0 q) (count_own_node k d q)

-- all nodes
change-++ : (xs ys : List ChangeLine) (t : ℕ) (q : Row) → change_at (xs ++ ys) t q ≡ change_at xs t q +ℤ change_at ys t q
change-++ xs ys t q = ap (λ (x : Lines). count x (key t q)) (map-append keyed xs ys) ∙ count-++ (changes xs) (changes ys) (key t q)

none_of_node : (k : ℕ) (d : Lines) (rest : List ChangeLine) (t : ℕ) (q : Row) → t < k → change_at rest t q ≡ pos 0 → change_at (of_node k d ++ rest) t q ≡ pos 0
none_of_node k [] rest t q m r = r
none_of_node k (e ∷ d) rest t q m r = none_behind (change_line k e) (of_node k d ++ rest) (key t q) Greater (key_greater k t e.0 q m) refl (none_of_node k d rest t q m r)

change_before : (k : ℕ) (ds : List Lines) (t : ℕ) (q : Row) → t < k → change_at (flattened k ds) t q ≡ pos 0
unfolding flattened count
change_before k [] t q m = refl
change_before k (d ∷ ds) t q m = none_of_node k d (flattened (suc k) ds) t q m (change_before (suc k) ds t q (omega arith))

pub change_flattened : (k : ℕ) (ds : List Lines) (i t : ℕ) (q : Row) → t ≡ k + i → change_at (flattened k ds) t q ≡ count (get_or ds i []) q
unfolding flattened count
change_flattened k [] i t q e = refl
change_flattened k (d ∷ ds) zero t q e =
    let m : t ≡ k = omega arith in
    change-++ (of_node k d) (flattened (suc k) ds) t q
    ∙ ap₂ (λ x y. x +ℤ y) (ap (λ u. change_at (of_node k d) u q) m ∙ count_own_node k d q) (change_before (suc k) ds t q (omega arith))
    ∙ +ℤ_idr (count d q)
change_flattened k (d ∷ ds) (suc i) t q e =
    change-++ (of_node k d) (flattened (suc k) ds) t q
    ∙ ap₂ (λ x y. x +ℤ y) (count_other_node k d t q (omega arith)) (change_flattened (suc k) ds i t q (omega arith))
    ∙ +ℤ_idl (count (get_or ds i []) q)

before_flattened : (m : ℕ) (r : Row) (k : ℕ) (ds : List Lines) → m < k → Before (key m r) (changes (flattened k ds))
unfolding flattened
before_flattened m r k [] l = tt
before_flattened m r k ([] ∷ ds) l = before_flattened m r (suc k) ds (omega arith)
before_flattened m r k ((e ∷ d) ∷ ds) l = key_less m k r e.0 l

canonical_node : (k : ℕ) (d : Lines) (rest : List ChangeLine) → Canonical d → ((r : Row) → Before (key k r) (changes rest)) → Canonical (changes rest) → Canonical (changes (of_node k d ++ rest))
canonical_node k [] rest c b r = r
canonical_node k (e ∷ []) rest c b r = (c.0, b e.0, r)
canonical_node k (e ∷ (f ∷ d)) rest c b r = (c.0, key_same k e.0 f.0 ∙ c.1, canonical_node k (f ∷ d) rest c.2 b r)

pub canonical_flattened : (k : ℕ) (ds : List Lines) → AllByRecursion Canonical ds → Canonical (changes (flattened k ds))
unfolding flattened
canonical_flattened k [] c = tt
canonical_flattened k (d ∷ ds) c = canonical_node k d (flattened (suc k) ds) c.0 (λ r. before_flattened k r (suc k) ds (omega arith)) (canonical_flattened (suc k) ds c.1)

nodes_of_node : (k : ℕ) (d : Lines) → k ≤ 15 → AllByRecursion (λ (l : ChangeLine). l.node ≤ 15) (of_node k d)
nodes_of_node k [] m = tt
nodes_of_node k (e ∷ d) m = (m, nodes_of_node k d m)

pub nodes_flattened : (k : ℕ) (ds : List Lines) → k + length ds ≤ 16 → AllByRecursion (λ (l : ChangeLine). l.node ≤ 15) (flattened k ds)
unfolding flattened
nodes_flattened k [] m = tt
nodes_flattened k (d ∷ ds) m = All-append (λ (l : ChangeLine). l.node ≤ 15) (of_node k d) (flattened (suc k) ds) (nodes_of_node k d (omega arith)) (nodes_flattened (suc k) ds (omega arith))

pub length_flattened : (k : ℕ) (ds : List Lines) → length (changes (flattened k ds)) ≡ lines_on ds
unfolding flattened lines_on
length_flattened k [] = refl
length_flattened k (d ∷ ds) =
    length-map (of_node k d ++ flattened (suc k) ds) keyed ∙ length-append (of_node k d) (flattened (suc k) ds)
    ∙ ap₂ (λ x y. x + y) (length-map d (change_line k)) (sym (length-map (flattened (suc k) ds) keyed) ∙ length_flattened (suc k) ds)
