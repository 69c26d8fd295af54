-- The records read so far, and those that are still to come.
use Rattle.std.proofs.Common.{◌≡◌, ℕ, ◌+◌, List, [], ◌∷◌, ◌++◌, length, set, Ok, Err, Result, sym, refl, ap, ◌∙◌, append_assoc, arith, rules, length-set}
use Rattle.std.proofs.lemmas.List.{length_push, set_at}
use Rattle.std.specs.List.{refill}
use Rattle.arrayvec.proofs.ArrayVecLemmas.{items-with_items}
use Rattle.message.specs.declared.record.Record.{Record}
use Rattle.bag.specs.Refusal.{Refusal}
use Rattle.message.specs.Reading.{records_of, behind}
use Rattle.message.proofs.Readings.{onward}

abbrev pub prefixed : List Record → Result (List Record) Refusal → Result (List Record) Refusal
prefixed rs (Ok ss) = Ok (rs ++ ss)
prefixed rs (Err e) = Err e

pub prefixed_more : (rs : List Record) (r : Record) (o : Result (List Record) Refusal) → prefixed rs (behind r o) ≡ prefixed (rs ++ r ∷ []) o
prefixed_more rs r (Ok ss) = ap Ok (sym (append_assoc rs (r ∷ []) ss))
prefixed_more rs r (Err e) = refl

-- what a turn keeps: it holds of the records `ls` where they are `rs` with `r` at the end, however that came about
pub one_more : {seen : ℕ} {m b : List ℕ} {ls : List Record} {o : Result (List Record) Refusal} (at : ℕ) (rs : List Record) (r : Record) → ls ≡ rs ++ r ∷ [] → seen ≡ length rs + 1 → b ≡ m → prefixed (rs ++ r ∷ []) (records_of (onward m at (length rs + 1))) ≡ o → (seen ≡ length ls) × (b ≡ m) × (prefixed ls (records_of (onward m at (length ls))) ≡ o)
one_more at rs r is counted same rest = rw (is, length_push rs r) (counted, same, rest)

-- `b` was put at the end of a list, and `r` then written over it
pub written_last : (rs ps ws : List Record) (b r : Record) (k : ℕ) → ps ≡ rs ++ b ∷ [] → ws ≡ ps → length rs ≡ k → refill (length ps) ps (set ws k r) ≡ rs ++ r ∷ []
written_last rs ps ws b r k put same last =
    items-with_items (record { items = ps }) (set ws k r) (length-set ws k r ∙ ap length same)
    ∙ (ap (λ l. set l k r) (same ∙ put) ∙ set_at rs b [] r k last)

-- by these a list is another with a record at its end, be it put there or written over what was put there
pub ruleset put_there = (rules, written_last)

pub behind_ok : (r : Record) (o : Result (List Record) Refusal) (rs : List Record) → behind r o ≡ Ok rs → (ss : List Record) × (o ≡ Ok ss) × (rs ≡ r ∷ ss)
behind_ok r (Ok ss) rs e = (ss, refl, cc)
behind_ok r (Err f) rs e = let z : ◌≡◌ {A = ℕ} 0 1 = cc in absurd (omega arith)
