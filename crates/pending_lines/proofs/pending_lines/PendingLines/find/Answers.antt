use Rattle.std.proofs.Common.{subst, rules, length, of_calls}
use Rattle.std.specs.List.Sorted.{IsBinarySearchResult, IsSearchInRange}
use Rattle.std.proofs.lemmas.Fn.{always_returns_same}
use Rattle.bag.specs.Order.{row_order, key_order}
use Rattle.pending_lines.specs.PendingLines.{held}
use Rattle.pending_lines.proofs.KeySearch.{searched}
use Rattle.pending_lines.proofs.pending_lines.PendingLines.find.Goals as goal

pub returns-clause-answer : goal.returns-clause-answer
unfolding row_order
returns-clause-answer c =
    let p = c.args.self.now in
    let s = c.args.shelf in
    let r = c.args.row.now in
    let found = c.binary_search_by.result in
    let same = c.entries.ensures.answer in
    searched (held p) p.in_order s r found
    (subst (λ ls. IsSearchInRange found (length ls)) same c.binary_search_by.ensures.bound)
    (subst (λ ls. IsBinarySearchResult (λ l. key_order l.node l.row s r) ls found) same (c.binary_search_by.ensures.position (λ l. key_order l.node l.row s r) (always_returns_same _ _ _ (λ a r f k. search (rules, of_calls)))))
