-- Settling arrives where the lines lead, and no call is refused on the way. Assumes nothing.
--     losses_and_gains     what lines take and put is what they change
--     takeable_from        every take finds its copies
--     puttable_from        after the takes, the puts lead to the aim
--     arrived              then the stock holds the aim
use Rattle.std.proofs.Common.{◌≡◌, ℕ, ◌≤◌, List, [], ◌∷◌, map, ℤ, pos, negsuc, ◌+ℤ◌, neg_ℤ, sym, refl, ap, ◌∙◌, arith}
use lib.IntN.{+ℤ_idl, +ℤ_idr}
use Rattle.std.proofs.lemmas.Int.{ints}
use Rattle.bag.specs.Order.{Row, row_order}
use Rattle.bag.specs.Bag.{if_equal, count}
use Rattle.bag.specs.Changes.{taken}
use Rattle.bag.specs.Operators.{at_least_zero}
use Rattle.bag.specs.Integers.{if_equal_adds}
use Rattle.bag.proofs.OperatorBags.{count_low}
use Rattle.bag.specs.declared.lines.ChangeLine.{ChangeLine}
use Rattle.stock.specs.Holding.{Holding, LawfulHolding, shelf_of}
use Rattle.settling.specs.Keys.{key, key_of, keyed, change_at}
use Rattle.settling.specs.Leading.{Leads}
use Rattle.settling.specs.Steps.{losses, gains, Moved, Takeable, Puttable}
use Rattle.settling.proofs.HoldingCounts.{same_holding, copies_are, canonical_of}

parts : (z : ℤ) → z ≡ neg_ℤ (taken z) +ℤ at_least_zero z
parts (pos n) = sym (+ℤ_idl (pos n))
parts (negsuc n) = sym (+ℤ_idr (negsuc n))

pub losses_and_gains : (ps : List ChangeLine) (k : Row) → count (map keyed ps) k ≡ count (losses ps) k +ℤ count (gains ps) k
unfolding count
losses_and_gains [] k = refl
losses_and_gains (p ∷ ps) k =
    let o = row_order (key_of p) k in
    let a : if_equal o p.change ≡ if_equal o (neg_ℤ (taken p.change)) +ℤ if_equal o (at_least_zero p.change) = ap (if_equal o) (parts p.change) ∙ if_equal_adds o (neg_ℤ (taken p.change)) (at_least_zero p.change) in
    join (if_equal o p.change) (if_equal o (neg_ℤ (taken p.change))) (if_equal o (at_least_zero p.change)) (count (map keyed ps) k) (count (losses ps) k) (count (gains ps) k) a (losses_and_gains ps k)
  where
    join : (x a b y c d : ℤ) → x ≡ a +ℤ b → y ≡ c +ℤ d → x +ℤ y ≡ (a +ℤ c) +ℤ (b +ℤ d)
    join x a b y c d p q = omega (arith, ints)

module _ (h aim : Holding) (lines : List ChangeLine) (law : LawfulHolding h) (leads : Leads h lines aim) where
  counts : (s : ℕ) → s ≤ 15 → (q : Row) → count (shelf_of aim s) q ≡ count (shelf_of h s) q +ℤ change_at lines s q
  counts = leads.in_counts.counts

  pub takeable_from : Takeable h lines
  takeable_from =
      record {
        in_order = leads.in_counts.in_order;
        nodes = leads.in_counts.nodes;
        short = λ s b q. let x = copies_are h law s q in let y = law.counts s q in omega (arith, ints, x, y);
        low = λ s b q. count_low (shelf_of h s) (law.bags s).1 q;
        there = λ s b q. let x = count_low (shelf_of aim s) (leads.lawful.bags s).1 q in let y = counts s b q in omega (arith, ints, x, y);
      }

  pub puttable_from : (m : Holding) → Moved h m (losses lines) → Puttable m lines aim
  puttable_from m took =
      record {
        in_order = leads.in_counts.in_order;
        nodes = leads.in_counts.nodes;
        lawful = leads.lawful;
        capacity = took.capacity ∙ sym leads.in_counts.capacity;
        reaches = λ s b q. let x = counts s b q in let y = took.counts s b q in let z = losses_and_gains lines (key s q) in omega (arith, ints, x, y, z);
      }

  pub arrived : (m k : Holding) → Moved h m (losses lines) → Moved m k (gains lines) → LawfulHolding k → k ≡ aim
  arrived m k took gave law-k =
      same_holding k aim (gave.capacity ∙ took.capacity ∙ sym leads.in_counts.capacity) (law-k.sixteen ∙ sym leads.lawful.sixteen) (canonical_of k law-k) (canonical_of aim leads.lawful)
      (λ s b q. let low : s ≤ 15 = omega (arith, law-k.sixteen, b) in gave.counts s low q ∙ sym ((puttable_from m took).reaches s low q))
