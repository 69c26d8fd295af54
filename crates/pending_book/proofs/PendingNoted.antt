-- A change that is added to the pending ones is added to the sum. Assumes nothing.
--     fits_from          an accepted change can be held
--     noted_sum          the sum with the change
--     still_low          the lines stay of shelves up to 15
use Rattle.std.proofs.Common.{◌≡◌, ◌<◌, ◌≤◌, List, [], ◌∷◌, length, ℤ, pos, negsuc, ◌+ℤ◌, ◌≤ℤ◌, sym, ap, ◌∙◌, subst, arith, w32, SFits}
use Rattle.std.specs.List.{AllByRecursion}
use Rattle.std.proofs.lemmas.List.{length-set}
use Rattle.std.proofs.lemmas.Int.{ints}
use Rattle.bag.specs.declared.lines.ChangeLine.{ChangeLine}
use Rattle.bag.specs.Order.{Row, row_order}
use Rattle.bag.specs.Bag.{if_equal, count, add_copies, EachRow}
use Rattle.bag.specs.Integers.{count_add_copies}
use Rattle.bag.proofs.EachRow.{rows_add_copies}
use Rattle.stock.specs.Holding.{Holding, LawfulHolding, shelf_of}
use Rattle.settling.specs.Keys.{key, key_of, changes}
use Rattle.settling.proofs.HoldingCounts.{same_holding, count_with_copies, canonical_with_copies, copies_are, canonical_of}
use Rattle.pending_lines.specs.ChangeLists.{with_change}
use Rattle.pending_book.specs.Sums.{sum_of, with_change_of, Accepts}
use Rattle.pending_book.proofs.PendingSum.{count_sum, shelves_sum, canonical_sum, capacity_sum}

-- a key of a shelf up to 15
abbrev LowKey : Row → Type 0
LowKey [] = Unit {0}
LowKey (c ∷ r) = c ≤ℤ pos 15

small : (z : ℤ) → (z ≤ℤ pos 65535) → (pos 0 ≤ℤ (z +ℤ pos 65535)) → SFits w32 z
small (pos n) a b = record { sfits = omega (arith, ints, a, b) }
small (negsuc n) a b = record { sfits = omega (arith, ints, a, b) }

module _ (h : Holding) (ps : List ChangeLine) (p : ChangeLine) (l : LawfulHolding h) (s : LawfulHolding (sum_of h ps)) (a : Accepts (sum_of h ps) p) where
  pub fits_from : SFits w32 (p.change +ℤ count (changes ps) (key_of p))
  fits_from =
      let six = l.sixteen in
      let low = a.shelf in
      let e = count_sum h ps p.node p.row (omega arith) in
      let c = copies_are h l p.node p.row in
      let m = l.counts p.node p.row in
      let b = a.counts in
      small (p.change +ℤ count (changes ps) (key_of p)) (omega (arith, ints, e, c, m, b.0, b.1)) (omega (arith, ints, e, c, m, b.0, b.1))

  pub noted_sum : (qs : List ChangeLine) → changes qs ≡ with_change p (changes ps) → sum_of h qs ≡ with_change_of (sum_of h ps) p
  noted_sum qs e =
      same_holding (sum_of h qs) (with_change_of (sum_of h ps) p) (capacity_sum h qs ∙ sym (capacity_sum h ps))
      (shelves_sum h qs ∙ sym (length-set (sum_of h ps).shelves p.node (add_copies p.row p.change (shelf_of (sum_of h ps) p.node)) ∙ shelves_sum h ps))
      (canonical_sum h qs (canonical_of h l))
      (canonical_with_copies (sum_of h ps) p.node p.row p.change (canonical_of (sum_of h ps) s))
      (λ t b r.
      let low : t < length h.shelves = subst (λ n. t < n) (shelves_sum h qs) b in
      let x = count_sum h qs t r low in
      let y = count_sum h ps t r low in
      let z = count_with_copies (sum_of h ps) p.node p.row p.change t r (subst (λ n. t < n) (sym (shelves_sum h ps)) low) in
      let w : count (changes qs) (key t r) ≡ if_equal (row_order (key_of p) (key t r)) p.change +ℤ count (changes ps) (key t r) = ap (λ xs. count xs (key t r)) e ∙ count_add_copies (key_of p) p.change (changes ps) (key t r) in
      omega (arith, ints, x, y, z, w))

-- the lines stay of low shelves
low_keys : (ps : List ChangeLine) → AllByRecursion (λ (l : ChangeLine). l.node ≤ 15) ps → EachRow LowKey (changes ps)
low_keys [] a = tt
low_keys (p ∷ ps) a = let b = a.0 in (omega (arith, ints, b), low_keys ps a.1)

low_nodes : (ps : List ChangeLine) → EachRow LowKey (changes ps) → AllByRecursion (λ (l : ChangeLine). l.node ≤ 15) ps
low_nodes [] a = tt
low_nodes (p ∷ ps) a = let b = a.0 in (omega (arith, ints, b), low_nodes ps a.1)

pub still_low : (ps qs : List ChangeLine) (p : ChangeLine) → p.node ≤ 15 → changes qs ≡ with_change p (changes ps) → AllByRecursion (λ (l : ChangeLine). l.node ≤ 15) ps → AllByRecursion (λ (l : ChangeLine). l.node ≤ 15) qs
still_low ps qs p low e a = low_nodes qs (subst (EachRow LowKey) (sym e) (rows_add_copies LowKey (key_of p) p.change (changes ps) (omega (arith, ints, low)) (low_keys ps a)))
