use Rattle.std.proofs.Common.{List, ◌∷◌, ◌++◌, [], sym, subst}
use Rattle.bag.specs.declared.lines.ChangeLine.{ChangeLine}
use Rattle.sheet.specs.Sheets.{OnPage}
use Rattle.sheet.proofs.Laid.{page_more, page_full, page_lost}
use Rattle.delta.proofs.writer.ChangeWriter.put.Goals as goal

pub returns-in_default-clause-after : goal.returns-in_default-clause-after
returns-in_default-clause-after g c = λ (es : List ChangeLine) (o : OnPage c.args.self.now.page.now c.args.self.now.lines es).
    subst (λ l. OnPage c.args.self.now.page.now l (es ++ (c.args.line ∷ []))) (sym c.in_default.is)
    (page_lost c.args.self.now.page.now es c.args.line (subst (λ l. OnPage c.args.self.now.page.now l es) c.in_default.is o))

pub returns-then-used-self-clause-after : goal.returns-then-used-self-clause-after
returns-then-used-self-clause-after g c = λ (es : List ChangeLine) (o : OnPage c.args.self.now.page.now c.args.self.now.lines es).
    page_more c.args.self.now.page.now es c.args.line c.in-Some.used (subst (λ l. OnPage c.args.self.now.page.now l es) c.in-Some.is o) c.if-used-self.true

pub returns-else-used-self-clause-after : goal.returns-else-used-self-clause-after
returns-else-used-self-clause-after g c = λ (es : List ChangeLine) (o : OnPage c.args.self.now.page.now c.args.self.now.lines es).
    page_full c.args.self.now.page.now es c.args.line c.in-Some.used (subst (λ l. OnPage c.args.self.now.page.now l es) c.in-Some.is o) c.if-used-self.false
