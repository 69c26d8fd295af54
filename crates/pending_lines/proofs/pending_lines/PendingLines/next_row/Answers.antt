use Rattle.std.proofs.Common.{◌≡◌, Some, None, w32, SFits, sym, ap, ◌∙◌, subst, rules}
use Rattle.std.proofs.lemmas.Int.{to_z-of_z}
use Rattle.std.specs.Option.{option_map}
use Rattle.bag.specs.Bag.{next}
use Rattle.settling.specs.Keys.{key, keyed}
use Rattle.pending_lines.specs.ChangeLists.{IsNext}
use Rattle.pending_lines.specs.PendingLines.{held, changes_of, count_at}
use Rattle.pending_lines.proofs.PendingNext.{after_found, after_missing, next_here, next_past, next_none_line}
use Rattle.pending_lines.proofs.pending_lines.PendingLines.next_row.Goals as goal
use Rattle.pending_lines.proofs.pending_lines.PendingLines.next_row.Goals.{in-Ok, in-Err}

pub returns-in_err-line : goal.returns-in_err-line
returns-in_err-line c =
    let p = c.args.self.now in
    let s = c.args.shelf in
    let r = c.args.row.now in
    let n : next (changes_of p) (key s r) ≡ None =
    elim c.match-find.branch [
      | in-Ok w ↦ after_found (held p) p.in_order (key s r) w.in-Ok.place c.match-find.place w.in-Ok.ensures.answer w.place-is
      | in-Err w ↦ after_missing (held p) p.in_order (key s r) w.in-Err.place c.match-find.place w.in-Err.ensures.answer w.place-is
    ] ∙ ap (option_map keyed) (sym c.in_err-line.ensures.answer) in
    record { answer = subst (IsNext (λ q. count_at p s q) r) (sym c.from_residual.ensures) (next_none_line (changes_of p) p.in_order s r n) }

pub returns-then-line-shelf : goal.returns-then-line-shelf
returns-then-line-shelf c =
    let p = c.args.self.now in
    let s = c.args.shelf in
    let r = c.args.row.now in
    let line = c.in_ok-line.line in
    let n : next (changes_of p) (key s r) ≡ Some (keyed line) =
    elim c.match-find.branch [
      | in-Ok w ↦ after_found (held p) p.in_order (key s r) w.in-Ok.place c.match-find.place w.in-Ok.ensures.answer w.place-is
      | in-Err w ↦ after_missing (held p) p.in_order (key s r) w.in-Err.place c.match-find.place w.in-Err.ensures.answer w.place-is
    ] ∙ ap (option_map keyed) (sym c.in_ok-line.ensures.answer) in
    record { answer = next_past (changes_of p) p.in_order s r line n c.if-line-shelf.true }

pub returns : goal.returns
returns c =
    let p = c.args.self.now in
    let s = c.args.shelf in
    let r = c.args.row.now in
    let line = c.in_ok-line.line in
    let f : SFits w32 line.change = search rules in
    let n : next (changes_of p) (key s r) ≡ Some (keyed line) =
    elim c.match-find.branch [
      | in-Ok w ↦ after_found (held p) p.in_order (key s r) w.in-Ok.place c.match-find.place w.in-Ok.ensures.answer w.place-is
      | in-Err w ↦ after_missing (held p) p.in_order (key s r) w.in-Err.place c.match-find.place w.in-Err.ensures.answer w.place-is
    ] ∙ ap (option_map keyed) (sym c.in_ok-line.ensures.answer) in
    record { answer = simp to_z-of_z (next_here (changes_of p) p.in_order s r line n c.if-line-shelf.false) }
