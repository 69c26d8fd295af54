use Rattle.std.proofs.Common.{◌≡◌, false, not, ◌∙◌, rules}
use borrow.Author.Tests.{tests}
use Rattle.std.proofs.lemmas.Iterator.{YieldsList-from_slice, IsFirst-from_position}
use Rattle.std.proofs.lemmas.Iterator.Search.{position_from_yields_List}
use Rattle.std.proofs.lemmas.List.Elements.{recursion_from_All, All-from_all_within}
use Rattle.message.specs.Lawful.{lawful, InRange}
use Rattle.message.proofs.Lawfulness.{first_is, where_none}
use Rattle.message.proofs.writer.first_unlawful.Goals as goal

pub returns-clause-is : goal.returns-clause-is
returns-clause-is c =
    position_from_yields_List (λ r. not (lawful r)) _ _ _ c.position.ensures.ran (YieldsList-from_slice c.args.records.now cc) (λ x b q k. search (rules, tests))
    ∙ first_is c.args.records.now

pub returns-clause-range : goal.returns-clause-range
returns-clause-range c =
    let h = IsFirst-from_position _ _ c.position.result (λ r. lawful r ≡ false) InRange c.position.ensures.ran (YieldsList-from_slice c.args.records.now cc) (λ x q k. search (rules, tests)) (λ x q k. search (rules, tests)) in
    where_none _ c.position.result h (λ a. recursion_from_All InRange _ (All-from_all_within InRange _ a))
