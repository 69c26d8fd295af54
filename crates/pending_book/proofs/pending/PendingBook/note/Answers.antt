use Rattle.std.proofs.Common.{◌≡◌, cond, List, sym, refl, ap, ◌∙◌, subst}
use Rattle.bag.specs.declared.lines.ChangeLine.{ChangeLine}
use Rattle.stock.specs.Holding.{Holding, LawfulHolding, lines_of}
use Rattle.settling.specs.Keys.{changes}
use Rattle.pending_lines.specs.ChangeLists.{with_change}
use Rattle.pending_lines.specs.PendingLines.{held, changes_of}
use Rattle.pending_book.specs.Sums.{sum_of, with_change_of, Accepts}
use Rattle.pending_book.specs.PendingBook.{meaning_of}
use Rattle.pending_book.proofs.PendingLawful.{lawful_with_copies}
use Rattle.pending_book.proofs.BelowAfter.{first_line, netted_from}
use Rattle.pending_book.proofs.PendingNoted.{fits_from, noted_sum, still_low}
use Rattle.pending_book.proofs.pending.PendingBook.note.Goals as goal

-- the line is added to those that are pending
added : (g : _) (c : goal.After-add g) → changes_of c.add.new.self ≡ with_change c.args.line.now (changes_of c.make_place.new.self.pending)
added g c =
    let d = c.make_place.new.self in
    let p = c.args.line.now in
    let placed = c.make_place.ensures.after in
    let accepted = subst (λ (m : Holding). Accepts m p) (sym placed.same) c.requires.accepted in
    c.add.ensures.after (fits_from (g.S.Stock.meaning d.below) (held d.pending) p (g.S.Stock.lawful d.below) d.lawful accepted)
    ∙ ap (λ t. cond t (with_change p (changes_of d.pending)) (changes_of d.pending)) placed.place

-- and so to the sum
whole : (g : _) (c : goal.After-add g) → sum_of (g.S.Stock.meaning c.make_place.new.self.below) (held c.add.new.self) ≡ with_change_of (meaning_of c.args.self.now) c.args.line.now
whole g c =
    let d = c.make_place.new.self in
    let p = c.args.line.now in
    let placed = c.make_place.ensures.after in
    let accepted = subst (λ (m : Holding). Accepts m p) (sym placed.same) c.requires.accepted in
    noted_sum (g.S.Stock.meaning d.below) (held d.pending) p (g.S.Stock.lawful d.below) d.lawful accepted (held c.add.new.self) (added g c)
    ∙ ap (λ (m : Holding). with_change_of m p) placed.same

pub invariant_of-self : goal.invariant_of-self
invariant_of-self g c =
    let b = c.args.self.now in
    let d = c.make_place.new.self in
    let p = c.args.line.now in
    record {
      shelves = still_low (held d.pending) (held c.add.new.self) p c.requires.accepted.shelf (added g c) d.shelves;
      lawful = subst LawfulHolding (sym (whole g c)) (lawful_with_copies (meaning_of b) p b.lawful c.requires.accepted);
      counted = c.requires.counted ∙ ap lines_of (sym (whole g c));
    }

pub returns-clause-after : goal.returns-clause-after
returns-clause-after g c =
    let b = c.args.self.now in
    let d = c.make_place.new.self in
    let p = c.args.line.now in
    let placed = c.make_place.ensures.after in
    record {
      after = whole g c.before;
      netted = λ h. netted_from g.S.Stock b p d (placed.kept h) refl (added g c.before);
      settled = λ h. record {
        below = (placed.settled h).below;
        pending = added g c.before ∙ ap (λ (qs : List ChangeLine). with_change p (changes qs)) (placed.settled h).empty ∙ first_line p c.requires.accepted.some;
      };
    }
