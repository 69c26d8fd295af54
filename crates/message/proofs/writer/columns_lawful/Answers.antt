use Rattle.std.proofs.Common.{◌≡◌, false, w32, SFits, ◌∙◌, rules}
use borrow.Author.Tests.{tests}
use Rattle.std.proofs.lemmas.Iterator.{YieldsList-from_slice, cases_from_all}
use Rattle.std.proofs.lemmas.Iterator.Search.{all_from_yields_List}
use Rattle.std.proofs.lemmas.List.Elements.{recursion_from_All, All-from_all_within}
use Rattle.message.specs.Lawful.{column_lawful}
use Rattle.message.proofs.Lawfulness.{all_lawful, where_true}
use Rattle.message.proofs.writer.columns_lawful.Goals as goal

pub returns-clause-is : goal.returns-clause-is
returns-clause-is c =
    all_from_yields_List column_lawful _ _ c.all.result c.all.ensures.ran (YieldsList-from_slice c.args.row.now cc) (λ x b q k. search (rules, tests))
    ∙ all_lawful c.args.row.now

pub returns-clause-range : goal.returns-clause-range
returns-clause-range c =
    let h = cases_from_all _ _ c.all.result (SFits w32) (λ v. column_lawful v ≡ false) c.all.ensures.ran (YieldsList-from_slice c.args.row.now cc) (λ x q k. search (rules, tests)) (λ x q k. search (rules, tests)) in
    where_true _ c.all.result h (λ a. recursion_from_All (SFits w32) _ (All-from_all_within (SFits w32) _ a))
