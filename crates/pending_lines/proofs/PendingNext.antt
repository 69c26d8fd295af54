-- Lines read by place, and the next line of a shelf. Assumes nothing.
--     first_after     the first change from a place on is that of the line there
--     next_here, next_past, next_none_line      the next row of a shelf, from the next key
--     after_found, after_missing      the next key, from where the search ended
use Rattle.std.proofs.Common.{Ok, Err, ◌+◌, ◌≡◌, ℕ, zero, suc, ◌<◌, ◌≤◌, List, [], ◌∷◌, map, drop, Some, None, sym, refl, ap, ◌∙◌, subst, ⊎_elim, arith}
use Rattle.std.specs.List.{slice_get}
use Rattle.std.specs.Option.{option_map}
use Rattle.std.proofs.lemmas.Bool.{cases_lt}
use Rattle.bag.specs.Order.{Row, row_order}
use Rattle.bag.specs.Bag.{Lines, count, Canonical, next}
use Rattle.bag.specs.Laws.{RowAfter}
use Rattle.bag.proofs.NextRow.{first_line, next_is_after}
use Rattle.bag.specs.declared.lines.ChangeLine.{ChangeLine}
use Rattle.settling.specs.Keys.{key, keyed, changes}
use Rattle.pending_lines.specs.ChangeLists.{found_at, IsNext}
use Rattle.pending_lines.proofs.PendingPlaces.{found_absent, found_present}
use Rattle.settling.proofs.KeyOrder.{key_less, key_greater, key_same}

pub first_after : (ls : List ChangeLine) (i : ℕ) → first_line (drop i (map keyed ls)) ≡ option_map keyed (slice_get ls i)
first_after [] zero = refl
first_after [] (suc i) = refl
first_after (l ∷ ls) zero = refl
first_after (l ∷ ls) (suc i) = first_after ls i

module _ (xs : Lines) (c : Canonical xs) (s : ℕ) (r : Row) where
  pub next_none_line : next xs (key s r) ≡ None → IsNext (λ q. count xs (key s q)) r None
  next_none_line e = let a : RowAfter xs (key s r) None = subst (RowAfter xs (key s r)) e (next_is_after xs (key s r) c) in λ q lo. a (key s q) (key_same s r q ∙ lo)

  module _ (p : ChangeLine) (e : next xs (key s r) ≡ Some (keyed p)) where
    is_after : RowAfter xs (key s r) (Some (keyed p))
    is_after = subst (RowAfter xs (key s r)) e (next_is_after xs (key s r) c)

    pub next_here : p.node ≡ s → IsNext (λ q. count xs (key s q)) r (Some (p.row, p.change))
    next_here same = (
      is_after.0,
      ap (λ t. count xs (key t p.row)) (sym same) ∙ is_after.1,
      sym (key_same s r p.row) ∙ ap (λ t. row_order (key s r) (key t p.row)) (sym same) ∙ is_after.2,
      λ q lo hi. is_after.3 (key s q) (key_same s r q ∙ lo) (ap (λ t. row_order (key s q) (key t p.row)) same ∙ key_same s q p.row ∙ hi),
    )

    pub next_past : (p.node ≡ s → ⊥) → IsNext (λ q. count xs (key s q)) r None
    next_past n = λ q lo. is_after.3 (key s q) (key_same s r q ∙ lo) (key_less s p.node q p.row above)
      where
        above : s < p.node
        above = ⊎_elim (λ (l : s < p.node). l) (λ (l : p.node ≤ s). let g = key_greater s p.node r p.row (omega (arith, n)) in let h = is_after.2 in let z : ⊥ = cc in absurd z) (cases_lt s p.node)

-- the next key, from where the search ended
module _ (ls : List ChangeLine) (c : Canonical (changes ls)) (k : Row) (i j : ℕ) where
  pub after_found : Ok i ≡ found_at (changes ls) k → j ≡ i + 1 → next (changes ls) k ≡ option_map keyed (slice_get ls j)
  after_found h e = (found_present k (changes ls) c i h).after ∙ first_after ls (suc i) ∙ ap (λ m. option_map keyed (slice_get ls m)) (let q : suc i ≡ j = omega (arith, e) in q)

  pub after_missing : Err i ≡ found_at (changes ls) k → j ≡ i → next (changes ls) k ≡ option_map keyed (slice_get ls j)
  after_missing h e = (found_absent k (changes ls) c i h).after ∙ first_after ls i ∙ ap (λ m. option_map keyed (slice_get ls m)) (sym e)
