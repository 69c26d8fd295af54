use Rattle.std.proofs.Common.{length, take, subst, rules, of_calls}
use Rattle.std.specs.List.Sorted.{IsBinarySearchResult, IsSearchInRange}
use Rattle.std.proofs.lemmas.Fn.{always_returns_same}
use Rattle.table.proofs.Searched.{searched}
use Rattle.table.proofs.table.Table.look_up.Goals as goal

pub returns-clause-answer : goal.returns-clause-answer
returns-clause-answer g c =
    let key = c.args.key.now in
    let order = g.E.Entry.order in
    let r = c.binary_search_by.result in
    searched g.met.E.Entry.lawful key (take c.args.self.now.len c.args.self.now.run.now) c.args.self.now.ascending r
    (subst (λ xs. IsSearchInRange r (length xs)) c.entries.ensures.answer c.binary_search_by.ensures.bound)
    (subst (λ xs. IsBinarySearchResult (λ e. order e key) xs r) c.entries.ensures.answer (c.binary_search_by.ensures.position (λ e. order e key) (always_returns_same _ _ _ (λ a r f k. search (rules, of_calls)))))
