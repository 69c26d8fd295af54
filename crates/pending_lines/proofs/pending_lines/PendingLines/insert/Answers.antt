use Rattle.std.proofs.Common.{◌≡◌, ◌+◌, ◌-◌, true, false, cond, not, ◌||◌, ltb, length, get_or, take, set, pos, sym, refl, ap, ◌∙◌, subst, arith, w32, SFits, to_z, rules}
use Rattle.std.proofs.lemmas.List.{length-take, length-map}
use Rattle.std.proofs.lemmas.Int.{to_z-of_z}
use Rattle.std.proofs.lemmas.Bool.{lt-ltb}
use Rattle.std.proofs.Math.Bool.{or-true}
use Rattle.bag.specs.Bag.{is_zero, count, add_copies, Canonical}
use Rattle.bag.proofs.CanonicalForm.{canonical_add_copies}
use Rattle.settling.specs.Keys.{key_of, keyed, changes}
use Rattle.pending_lines.specs.ChangeLists.{has_place, with_change}
use Rattle.pending_lines.specs.PendingLines.{held, changes_of}
use Rattle.table.proofs.Shifted.{opened_from}
use Rattle.pending_lines.proofs.PendingPlaces.{found_absent}
use Rattle.pending_lines.proofs.PendingEdits.{front_opened, map_inserted, some_number, added_none}
use Rattle.pending_lines.proofs.pending_lines.PendingLines.insert.Goals as goal

pub returns-then-line-eq0-clause-after : goal.returns-then-line-eq0-clause-after
returns-then-line-eq0-clause-after c =
    let p = c.args.self.now in
    let xs = changes_of p in
    let line = c.args.line.now in
    let f : SFits w32 line.change = search rules in
    let none : line.change ≡ pos 0 = sym (to_z-of_z w32 line.change f) ∙ ap (to_z w32) c.if-line-eq0.true in
    let same : add_copies (key_of line) line.change xs ≡ xs = ap (λ z. add_copies (key_of line) z xs) none ∙ added_none (key_of line) xs p.in_order in
    elim (has_place xs (key_of line)) as (λ b. xs ≡ cond b (add_copies (key_of line) line.change xs) xs) [ true ↦ sym same | false ↦ refl ]

grown : (c : goal.After-self-1) → let p = c.args.self.now in changes (take (p.len + 1) (set c.copy_within.new.self c.args.place c.args.line.now)) ≡ with_change c.args.line.now (changes_of p)
grown c =
    let p = c.args.self.now in
    let xs = changes_of p in
    let run = p.lines in
    let i = c.args.place in
    let e = c.args.line.now in
    let moved = c.copy_within.new.self in
    let copied = c.copy_within.ensures.by_index in
    let front = length-take p.len run in
    let pre = c.requires.within in
    let gone = found_absent (key_of e) xs p.in_order i c.requires.absent in
    ap (λ r. changes (take (p.len + 1) r)) (opened_from run moved i p.len e c.copy_within.ensures.len (omega (arith, front, pre)) (omega arith)
    (λ k l. copied.1 k e (omega (arith, front, pre)))
    (λ k l m. let q : i + (k - (i + 1)) ≡ k - 1 = omega arith in copied.0 k e (omega arith) (omega arith) ∙ ap (λ n. get_or run n e) q)
    (λ k l. copied.2 k e (omega (arith, front, pre))))
    ∙ ap changes (front_opened run i p.len e (omega (arith, front, pre)) (omega arith))
    ∙ map_inserted keyed (held p) i e
    ∙ sym (gone.added e.change (some_number e.change c.if-line-eq0.false))

pub invariant_of-self : goal.invariant_of-self
invariant_of-self c =
    let p = c.args.self.now in
    let e = c.args.line.now in
    record { few = omega arith; in_order = subst Canonical (sym (grown c)) (canonical_add_copies (key_of e) e.change (changes_of p) p.in_order) }

pub returns-clause-after : goal.returns-clause-after
returns-clause-after c =
    let p = c.args.self.now in
    let xs = changes_of p in
    let k = key_of c.args.line.now in
    let front = length-take p.len p.lines in
    let long = length-map (held p) keyed in
    let room : ltb (length xs) 64 ≡ true = lt-ltb (length xs) 64 (omega (arith, front, long)) in
    let place : has_place xs k ≡ true = ap (λ b. not (is_zero (count xs k)) || b) room ∙ or-true (not (is_zero (count xs k))) in
    grown c.before ∙ ap (λ b. cond b (with_change c.args.line.now xs) xs) (sym place)
