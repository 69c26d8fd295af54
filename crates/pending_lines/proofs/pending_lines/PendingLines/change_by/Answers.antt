use Rattle.std.proofs.Common.{pos, [], sym, to_z, ◌≡◌, ◌+◌, ◌-◌, ◌++◌, suc, get_or, take, drop, set, ◌+ℤ◌, ap, ◌∙◌, arith, w32, SFits, rules}
use Rattle.std.proofs.lemmas.List.{length-take}
use Rattle.bag.specs.Lines.{blank_change_line}
use Rattle.bag.specs.declared.lines.ChangeLine.{ChangeLine}
use Rattle.bag.specs.Bag.{is_zero}
use Rattle.pending_lines.specs.ChangeLists.{no_line}
use Rattle.pending_lines.specs.PendingLines.{changes_of}
use Rattle.table.proofs.Shifted.{closed_from}
use Rattle.pending_lines.proofs.PendingEdits.{sum_made, kept, kept_canonical, gone, gone_canonical, front_closed, some_bits}
use Rattle.pending_lines.proofs.pending_lines.PendingLines.change_by.Goals as goal

-- what is read past the end of the array
abbrev past : ChangeLine
past = record { node = 0; row = []; change = pos 0 }

pub invariant_of-self : goal.invariant_of-self
invariant_of-self c =
    let p = c.args.self.now in
    let front = length-take p.len p.lines in
    let pre = c.requires in
    record { few = p.few; in_order = kept_canonical p.lines p.len c.args.place past (omega (arith, front, pre)) (omega (arith, p.few)) _ (some_bits _ (search rules) c.if-stays.true) p.in_order }

pub returns-then-stays : goal.returns-then-stays
returns-then-stays c =
    let p = c.args.self.now in
    let i = c.args.place in
    let more = c.args.more in
    let front = length-take p.len p.lines in
    let pre = c.requires in
    let f : SFits w32 more = search rules in
    let g : SFits w32 (get_or p.lines i past).change = search rules in
    record {
      after = λ (h : SFits w32 (more +ℤ (get_or (changes_of p) i no_line).1)).
          let sum = sum_made p.lines p.len i past (omega (arith, front, pre)) (omega (arith, p.few)) more f g h in
          kept p.lines p.len i past (omega (arith, front, pre)) (omega (arith, p.few)) more _ sum (some_bits _ (search rules) c.if-stays.true);
    }

left : (c : goal.After-blank) → let p = c.args.self.now in take (p.len - 1) (set c.copy_within.new.self (p.len - 1) c.blank.result) ≡ take c.args.place (take p.len p.lines) ++ drop (suc c.args.place) (take p.len p.lines)
left c =
    let p = c.args.self.now in
    let run = p.lines in
    let i = c.args.place in
    let b = blank_change_line in
    let moved = c.copy_within.new.self in
    let copied = c.copy_within.ensures.by_index in
    let front = length-take p.len run in
    let pre = c.requires in
    ap (λ x. take (p.len - 1) (set moved (p.len - 1) x)) c.blank.ensures
    ∙ ap (take (p.len - 1)) (closed_from run moved i p.len b c.copy_within.ensures.len (omega (arith, front, pre)) (omega (arith, p.few))
    (λ k l. copied.1 k b l)
    (λ k l m. let q : (i + 1) + (k - i) ≡ k + 1 = omega arith in copied.0 k b l (omega arith) ∙ ap (λ j. get_or run j b) q)
    (λ k l. copied.2 k b (omega arith)))
    ∙ front_closed run i p.len b (omega (arith, front, pre)) (omega (arith, p.few))

pub invariant_of-self-2 : goal.invariant_of-self-2
invariant_of-self-2 c =
    let p = c.args.self.now in
    let front = length-take p.len p.lines in
    let pre = c.requires in
    record { few = omega (arith, p.few); in_order = gone_canonical p.lines p.len c.args.place blank_change_line (omega (arith, front, pre)) (omega (arith, p.few)) _ (left c) p.in_order }

pub returns : goal.returns
returns c =
    let p = c.args.self.now in
    let i = c.args.place in
    let more = c.args.more in
    let front = length-take p.len p.lines in
    let pre = c.requires in
    let f : SFits w32 more = search rules in
    let g : SFits w32 (get_or p.lines i past).change = search rules in
    record {
      after = λ (h : SFits w32 (more +ℤ (get_or (changes_of p) i no_line).1)).
          let sum = sum_made p.lines p.len i past (omega (arith, front, pre)) (omega (arith, p.few)) more f g h in
          gone p.lines p.len i blank_change_line (omega (arith, front, pre)) (omega (arith, p.few)) _ (left c.before) more (ap is_zero (sym sum ∙ ap (to_z w32) c.if-stays.false));
    }
