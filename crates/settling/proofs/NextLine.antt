-- The next line can be settled: no take and no put is refused. Assumes nothing.
--     takes_next      the copies that the next line takes are there
--     puts_next       there is room for the copies that it puts
use Rattle.std.proofs.Common.{◌≡◌, ℕ, zero, suc, ◌+◌, ◌<◌, ◌≤◌, Bool, true, false, ◌&&◌, eqb, ltb, List, [], ◌∷◌, length, get_or, take, drop, ℤ, pos, negsuc, ◌+ℤ◌, nat_abs, ◌≤ℤ◌, Ordering, Less, Equal, Greater, sym, refl, ap, ◌∙◌, subst, ap₂, arith}
use lib.IntN.{+ℤ_idl, +ℤ_idr}
use Rattle.std.proofs.lemmas.List.{take-append-drop, map-append, length-set}
use Rattle.std.proofs.lemmas.Bool.{eqb-true, ltb-true}
use Rattle.std.proofs.lemmas.Int.{ints}
use Rattle.bag.specs.declared.lines.ChangeLine.{ChangeLine}
use Rattle.bag.specs.Order.{Row, row_order}
use Rattle.bag.specs.Bag.{Lines, is_zero, if_equal, count, add_copies, IsBag}
use Rattle.bag.specs.Changes.{taken}
use Rattle.bag.specs.Operators.{at_least_zero}
use Rattle.bag.specs.Propagation.{one_if}
use Rattle.bag.proofs.Numbers.{low_at_least_zero}
use Rattle.bag.specs.Integers.{count-++}
use Rattle.bag.proofs.OperatorBags.{count_low}
use Rattle.bag.proofs.TestsAtChanges.{bag_from_counts}
use Rattle.stock.specs.Holding.{Holding, LawfulHolding, shelf_of, copies, lines_of, with_copies}
use Rattle.settling.specs.Keys.{key, key_of, keyed}
use Rattle.settling.specs.Steps.{loss, gain, losses, gains, Moved, TakesLine, PutsLine, Takeable, Puttable}
use Rattle.settling.proofs.HoldingCounts.{count_with_copies, canonical_with_copies, copies_are, canonical_of}
use Rattle.settling.proofs.HoldingLines.{lines_with_copies, length_fewer, lines_fewer}
use Rattle.settling.proofs.ByPlace.{before_line, at_line, low_node}
use Rattle.settling.proofs.Moving.{moved_more, moved_one}

taken_most : (z c : ℤ) → pos 0 ≤ℤ c → pos 0 ≤ℤ (c +ℤ z) → taken z ≤ℤ c
taken_most (pos n) c a b = a
taken_most (negsuc n) c a b = omega (arith, ints)

pub takes_next : (h k : Holding) (ps : List ChangeLine) (i : ℕ) (d : ChangeLine) → Takeable h ps → i < length ps → Moved h k (losses (take i ps)) → TakesLine k (get_or ps i d)
takes_next h k ps i d t l m =
    let p = get_or ps i d in
    let shelf = low_node ps i d t.nodes l in
    let none = before_line loss (λ q. refl) ps i d t.in_order l in
    let change = at_line keyed (λ q. refl) ps i d t.in_order l in
    let now = m.counts p.node shelf p.row in
    let low = t.low p.node shelf p.row in
    let short = t.short p.node shelf p.row in
    let there = subst (λ z. pos 0 ≤ℤ (count (shelf_of h p.node) p.row +ℤ z)) change (t.there p.node shelf p.row) in
    let most = taken_most p.change (count (shelf_of h p.node) p.row) low there in
    record { shelf = shelf; short = omega (arith, ints, most, short); there = omega (arith, ints, most, now, none) }

if_equal_low : (o : Ordering) (z : ℤ) → pos 0 ≤ℤ z → pos 0 ≤ℤ if_equal o z
if_equal_low Less z h = omega (arith, ints)
if_equal_low Equal z h = h
if_equal_low Greater z h = omega (arith, ints)

gains_low : (ps : List ChangeLine) (k : Row) → pos 0 ≤ℤ count (gains ps) k
unfolding count
gains_low [] k = omega (arith, ints)
gains_low (p ∷ ps) k =
    let a = if_equal_low (row_order (key_of p) k) (at_least_zero p.change) (low_at_least_zero p.change) in
    let b = gains_low ps k in
    sum_low (if_equal (row_order (key_of p) k) (at_least_zero p.change)) (count (gains ps) k) a b
  where
    sum_low : (x y : ℤ) → pos 0 ≤ℤ x → pos 0 ≤ℤ y → pos 0 ≤ℤ (x +ℤ y)
    sum_low x y a b = omega (arith, ints)

gains_most : (ps : List ChangeLine) (j : ℕ) (k : Row) → count (gains (take j ps)) k ≤ℤ count (gains ps) k
gains_most ps j k =
    let whole : count (gains ps) k ≡ count (gains (take j ps)) k +ℤ count (gains (drop j ps)) k = ap (λ (x : List ChangeLine). count (gains x) k) (sym (take-append-drop j ps)) ∙ ap (λ (x : Lines). count x k) (map-append gain (take j ps) (drop j ps)) ∙ count-++ (gains (take j ps)) (gains (drop j ps)) k in
    let low = gains_low (drop j ps) k in
    omega (arith, ints)

module _ (h k : Holding) (ps : List ChangeLine) (i : ℕ) (d : ChangeLine) (aim : Holding) (t : Puttable h ps aim) (l : i < length ps) (m : Moved h k (gains (take i ps))) (lk : LawfulHolding k) where
  abbrev p : ChangeLine
  p = get_or ps i d

  next_shelf : p.node ≤ 15
  next_shelf = low_node ps i d t.nodes l

  next_count : count (shelf_of k p.node) p.row ≡ count (shelf_of h p.node) p.row
  next_count =
      m.counts p.node next_shelf p.row ∙ ap (λ z. count (shelf_of h p.node) p.row +ℤ z) (before_line gain (λ q. refl) ps i d t.in_order l)
      ∙ +ℤ_idr (count (shelf_of h p.node) p.row)

  aim_count : count (shelf_of aim p.node) p.row ≡ count (shelf_of k p.node) p.row +ℤ at_least_zero p.change
  aim_count = t.reaches p.node next_shelf p.row ∙ ap₂ (λ x y. x +ℤ y) (sym next_count) (at_line gain (λ q. refl) ps i d t.in_order l)

  -- what the put leaves has no more lines than the aim
  roomy : (n : ℕ) → 0 < n → pos n ≡ at_least_zero p.change → copies k p.node p.row ≡ 0 → lines_of k ≡ k.capacity → ⊥
  roomy n some is none full =
      let grown = lines_with_copies k p.node p.row (pos n) (omega (arith, lk.sixteen, next_shelf)) (canonical_of k lk p.node) (nonzero n some) in
      let zero_now : count (shelf_of k p.node) p.row ≡ pos 0 = sym (copies_are k lk p.node p.row) ∙ ap pos none in
      let first : one_if (is_zero (count (shelf_of k p.node) p.row)) ≡ 1 = ap (λ z. one_if (is_zero z)) zero_now in
      let then : one_if (is_zero (count (shelf_of k p.node) p.row +ℤ pos n)) ≡ 0 = ap (λ z. one_if (is_zero (z +ℤ pos n))) zero_now ∙ ap (λ z. one_if (is_zero z)) (+ℤ_idl (pos n)) ∙ ap one_if (nonzero n some) in
      let fewer = lines_fewer grown_to.shelves aim.shelves (long ∙ lk.sixteen ∙ sym t.lawful.sixteen) (λ s b. length_fewer (shelf_of grown_to s) (shelf_of aim s) (bag s b) (t.lawful.bags s) (below s b)) in
      let most = t.lawful.room in
      let same = t.capacity in
      let same' = m.capacity in
      omega (arith, grown, first, then, fewer, most, same, same', full)
    where
      nonzero : (n : ℕ) → 0 < n → is_zero (pos n) ≡ false
      nonzero zero s = absurd (let z : ⊥ = omega arith in z)
      nonzero (suc n) s = refl

      grown_to : Holding
      grown_to = with_copies k p.node p.row (pos n)

      long : length grown_to.shelves ≡ length k.shelves
      long = length-set k.shelves p.node (add_copies p.row (pos n) (shelf_of k p.node))

      stepped : Moved h grown_to (gains (take (i + 1) ps))
      stepped = moved_more gain h k grown_to ps i d l m (subst (λ z. Moved k grown_to ((key_of p, z) ∷ [])) is (moved_one k p.node p.row (pos n) lk.sixteen))

      below : (s : ℕ) → s < length grown_to.shelves → (q : Row) → count (shelf_of grown_to s) q ≤ℤ count (shelf_of aim s) q
      below s b q =
          let low : s ≤ 15 = omega (arith, long, lk.sixteen, b) in
          let x = stepped.counts s low q in
          let y = t.reaches s low q in
          let z = gains_most ps (i + 1) (key s q) in
          omega (arith, ints, x, y, z)

      bag : (s : ℕ) → s < length grown_to.shelves → IsBag (shelf_of grown_to s)
      bag s b =
          let c = canonical_with_copies k p.node p.row (pos n) (canonical_of k lk) s in (
            c,
            bag_from_counts (shelf_of grown_to s) c (λ q.
                let a = count_with_copies k p.node p.row (pos n) s q (omega (arith, long, b)) in
                let f = if_equal_low (row_order (key_of p) (key s q)) (pos n) (omega (arith, ints)) in
                let g = count_low (shelf_of k s) (lk.bags s).1 q in
                omega (arith, ints, a, f, g)),
          )

  pub puts_next : PutsLine k p
  puts_next =
      record {
        shelf = next_shelf;
        within = let a = aim_count in let b = t.lawful.counts p.node p.row in let c = copies_are aim t.lawful p.node p.row in omega (arith, ints, a, b, c);
        room = by (ltb 0 n) (eqb (copies k p.node p.row) 0) (eqb (lines_of k) k.capacity) refl refl refl;
      }
    where
      n : ℕ
      n = nat_abs (at_least_zero p.change)

      is : pos n ≡ at_least_zero p.change
      is = let z = low_at_least_zero p.change in omega (arith, ints, z)

      by : (a b c : Bool) → ltb 0 n ≡ a → eqb (copies k p.node p.row) 0 ≡ b → eqb (lines_of k) k.capacity ≡ c → (a && (b && c)) ≡ false
      by true true true x y z = absurd (roomy n (ltb-true 0 n x) is (eqb-true (copies k p.node p.row) 0 y) (eqb-true (lines_of k) k.capacity z))
      by true true false x y z = refl
      by true false c x y z = refl
      by false b c x y z = refl
