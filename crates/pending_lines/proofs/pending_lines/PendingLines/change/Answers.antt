use Rattle.std.proofs.Common.{◌≡◌, ◌≤◌, ℕ, ℤ, pos, [], Ok, Err, Result, length, get_or, sym, ap, ◌∙◌, arith, w32, SFits, rules, of_calls}
use Rattle.std.specs.Prelude.{MatchResult}
use Rattle.std.specs.List.Sorted.{IsSearchInRange}
use Rattle.std.proofs.lemmas.Int.{to_z-of_z}
use Rattle.std.proofs.lemmas.List.{length-take}
use Rattle.bag.specs.declared.lines.ChangeLine.{ChangeLine}
use Rattle.bag.specs.Order.{Row}
use Rattle.bag.specs.Bag.{Line, count}
use Rattle.settling.specs.Keys.{key}
use Rattle.pending_lines.specs.declared.pending_lines.PendingLines.{PendingLines}
use Rattle.pending_lines.specs.ChangeLists.{found_at}
use Rattle.pending_lines.specs.PendingLines.{held, changes_of}
use Rattle.pending_lines.proofs.PendingPlaces.{found_present, found_absent}
use Rattle.pending_lines.proofs.PendingEdits.{read}
use Rattle.pending_lines.proofs.pending_lines.PendingLines.change.Goals as goal

-- what is read past the end of the array
abbrev past : ChangeLine
past = record { node = 0; row = []; change = pos 0 }

-- the change at the place that the search answers
at : (p : PendingLines) (k : Row) (z : ℤ) (read_at : ℕ → Type 0) → ((i : ℕ) → read_at i → z ≡ (get_or p.lines i past).change) → (r : Result ℕ ℕ) → p.len ≤ length p.lines → IsSearchInRange r (length (held p)) → r ≡ found_at (changes_of p) k → MatchResult r read_at (λ _. z ≡ pos 0) → z ≡ count (changes_of p) k
at p k z _ there (Ok i) room inside h is =
    let front = length-take p.len p.lines in
    let same = ap (λ (e : Line). e.1) (read p.lines p.len i past (omega (arith, front, inside)) room) in
    there i is ∙ sym same ∙ (found_present k (changes_of p) p.in_order i h).change
at p k z _ there (Err i) room inside h is = is ∙ sym (found_absent k (changes_of p) p.in_order i h).none

pub returns : goal.returns
returns c =
    let p = c.args.self.now in
    let k = key c.args.shelf c.args.row.now in
    let f : SFits w32 c.map_or.result = search rules in
    record { answer = to_z-of_z w32 c.map_or.result f ∙ at p k c.map_or.result _ (λ i e. search (rules, of_calls)) c.find.result (omega (arith, p.few)) c.find.ensures.within c.find.ensures.answer c.map_or.ensures }
