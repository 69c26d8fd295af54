-- The sum of a holding and pending lines, row by row. Assumes nothing.
--     count_sum             a count of the sum is that below plus the pending change
--     shelves_sum, capacity_sum, canonical_sum      the rest of the sum
--     copies_sum, sum_is_count      the same in natural numbers, for lawful holdings
--     leads_to_sum          settling the lines leads there
use Rattle.std.proofs.Common.{◌≡◌, ℕ, ◌<◌, ◌≤◌, List, [], ◌∷◌, length, pos, ◌+ℤ◌, sym, refl, ap, ◌∙◌, subst, arith}
use lib.IntN.{+ℤ_idr}
use Rattle.std.specs.List.{AllByRecursion}
use Rattle.std.proofs.lemmas.List.{length-set}
use Rattle.std.proofs.lemmas.Int.{ints}
use Rattle.bag.specs.declared.lines.ChangeLine.{ChangeLine}
use Rattle.bag.specs.Order.{Row, row_order}
use Rattle.bag.specs.Bag.{if_equal, count, add_copies, Canonical}
use Rattle.stock.specs.Holding.{Holding, shelf_of, copies, LawfulHolding}
use Rattle.settling.specs.Keys.{key, key_of, changes}
use Rattle.settling.specs.Leading.{Leads}
use Rattle.settling.proofs.HoldingCounts.{count_with_copies, canonical_with_copies, copies_are}
use Rattle.pending_lines.specs.ChangeLists.{IsCount}
use Rattle.pending_book.specs.Sums.{sum_of}

pub capacity_sum : (h : Holding) (ps : List ChangeLine) → (sum_of h ps).capacity ≡ h.capacity
unfolding sum_of
capacity_sum h [] = refl
capacity_sum h (p ∷ ps) = capacity_sum h ps

pub shelves_sum : (h : Holding) (ps : List ChangeLine) → length (sum_of h ps).shelves ≡ length h.shelves
unfolding sum_of
shelves_sum h [] = refl
shelves_sum h (p ∷ ps) = length-set (sum_of h ps).shelves p.node (add_copies p.row p.change (shelf_of (sum_of h ps) p.node)) ∙ shelves_sum h ps

pub canonical_sum : (h : Holding) (ps : List ChangeLine) → ((s : ℕ) → Canonical (shelf_of h s)) → (s : ℕ) → Canonical (shelf_of (sum_of h ps) s)
unfolding sum_of
canonical_sum h [] c = c
canonical_sum h (p ∷ ps) c = canonical_with_copies (sum_of h ps) p.node p.row p.change (canonical_sum h ps c)

pub count_sum : (h : Holding) (ps : List ChangeLine) (s : ℕ) (r : Row) → s < length h.shelves → count (shelf_of (sum_of h ps) s) r ≡ count (shelf_of h s) r +ℤ count (changes ps) (key s r)
unfolding sum_of count
count_sum h [] s r l = sym (+ℤ_idr (count (shelf_of h s) r))
count_sum h (p ∷ ps) s r l =
    let a = count_with_copies (sum_of h ps) p.node p.row p.change s r (subst (λ n. s < n) (sym (shelves_sum h ps)) l) in
    let b = count_sum h ps s r l in
    let x = if_equal (row_order (key_of p) (key s r)) p.change in
    omega (arith, ints, a, b)

module _ (h : Holding) (ps : List ChangeLine) (l : LawfulHolding h) (m : LawfulHolding (sum_of h ps)) (s : ℕ) (low : s ≤ 15) (r : Row) where
  pub copies_sum : pos (copies (sum_of h ps) s r) ≡ pos (copies h s r) +ℤ count (changes ps) (key s r)
  copies_sum =
      let six = l.sixteen in
      copies_are (sum_of h ps) m s r ∙ count_sum h ps s r (omega arith) ∙ ap (λ z. z +ℤ count (changes ps) (key s r)) (sym (copies_are h l s r))

  pub sum_is_count : IsCount (pos (copies h s r) +ℤ count (changes ps) (key s r))
  sum_is_count = let a = copies_sum in let b = m.counts s r in (omega (arith, ints, a), omega (arith, ints, a, b))

-- settling the lines leads from a holding to the sum
pub leads_to_sum : (h : Holding) (ps : List ChangeLine) → LawfulHolding h → LawfulHolding (sum_of h ps) → Canonical (changes ps) → AllByRecursion (λ (l : ChangeLine). l.node ≤ 15) ps → Leads h ps (sum_of h ps)
leads_to_sum h ps l m c low =
    record {
      in_counts = record {
        in_order = c;
        nodes = low;
        sixteen = m.sixteen;
        bags = m.bags;
        capacity = capacity_sum h ps;
        counts = λ s b q. let six = l.sixteen in count_sum h ps s q (omega (arith, six));
      };
      lawful = m;
    }
