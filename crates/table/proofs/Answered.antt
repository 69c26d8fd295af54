-- What the answer of `add` says to a caller. Assumes nothing.
--     refused_since      a refusal is that of a full run, and the key was absent
use Rattle.std.proofs.Common.{◌≡◌, ℕ, Bool, true, false, cond, not, ◌&&◌, eqb, List, length, Some, None, Ordering, refl, ap}
use Rattle.std.proofs.lemmas.Bool.{eqb-true}
use Rattle.table.specs.declared.full.Full.{Full}
use Rattle.table.specs.Entries.{has_key}
use Rattle.bag.specs.Refusal.{Refusal}
use Rattle.table.specs.Refusals.{full_at, refusal_of}
use Rattle.table.specs.Tables.{add_answer}

pub record Refused {E : Type 0} (order : E → E → Ordering) (n : ℕ) (e : E) (xs : List E) (f : Full) : Type 0 where
  pub places : f.places ≡ n
  pub absent : has_key order e xs ≡ false
  pub full : length xs ≡ n

module _ {E : Type 0} (order : E → E → Ordering) (n : ℕ) (e : E) (xs : List E) where
  pub refused_since : (f : Full) → Some (refusal_of f) ≡ add_answer order n e xs → Refused order n e xs f
  refused_since f q = by (has_key order e xs) refl (eqb (length xs) n) refl q
    where
      by : (h : Bool) → has_key order e xs ≡ h → (b : Bool) → eqb (length xs) n ≡ b → Some (refusal_of f) ≡ cond (not h && b) (Some (full_at n)) None → Refused order n e xs f
      by true h b c q = let z : ⊥ = cc in absurd z
      by false h false c q = let z : ⊥ = cc in absurd z
      by false h true c q = let s : refusal_of f ≡ full_at n = cc in record { places = ap (λ (r : Refusal). r.place) s; absent = h; full = eqb-true (length xs) n c }
