use Rattle.std.proofs.Common.{sym, ◌∙◌, rules}
use Rattle.delta_rows.proofs.Turns.{at_none, at_left, at_right, at_less, at_equal, at_greater, taken}
use Rattle.delta_rows.proofs.merge.MergeIterator.next.Goals.{in-None-Some, in-Some-None, in-Some-Some+in-Less, in-Some-Some+in-Equal, in-Some-Some+in-Greater}
use Rattle.delta_rows.proofs.merge.MergeIterator.next.Goals as goal

pub returns-in-None-None-clause-steps : goal.returns-in-None-None-clause-steps
returns-in-None-None-clause-steps c = search (rules, at_none)

pub returns-clause-steps : goal.returns-clause-steps
returns-clause-steps c =
    let a = c.args.self.now.left.now in
    let b = c.args.self.now.right.now in
    elim c.match-split_first.branch [
      | in-None-Some w ↦ let next = at_right a b w.in-None-Some.ensures.cases _ _ w.in-None-Some.ensures'.cases.0 in search (taken, next)
      | in-Some-None w ↦ let next = at_left a b _ _ w.in-Some-None.ensures.cases.0 w.in-Some-None.ensures'.cases in search (taken, next)
      | in-Some-Some+in-Less w ↦ let next = at_less a b _ _ w.in-Some-Some.ensures.cases.0 _ _ w.in-Some-Some.ensures'.cases.0 (sym w.compare_rows.ensures ∙ w.in-Less.is) in search (taken, next)
      | in-Some-Some+in-Equal w ↦ let next = at_equal a b _ _ w.in-Some-Some.ensures.cases.0 _ _ w.in-Some-Some.ensures'.cases.0 (sym w.compare_rows.ensures ∙ w.in-Equal.is) in search (taken, next)
      | in-Some-Some+in-Greater w ↦ let next = at_greater a b _ _ w.in-Some-Some.ensures.cases.0 _ _ w.in-Some-Some.ensures'.cases.0 (sym w.compare_rows.ensures ∙ w.in-Greater.is) in search (taken, next)
    ]

pub returns-clause-goes : goal.returns-clause-goes
returns-clause-goes c = let steps = returns-clause-steps c in search rules
