use Rattle.std.proofs.Common.{ℕ, List, length}
use Rattle.plan.specs.Fields.{Read}
use Rattle.plan.specs.Reading.{EachReads}
use Rattle.plan.proofs.Fillings.{Filling}
use Rattle.plan.proofs.field.Fields.fill.Given as goal

abbrev pub invariant-loop-place : goal.invariant-loop-place
invariant-loop-place g l =
    (reader : List ℕ → Read g.row.T.Denot) →
    EachReads reader (goal.F-post g l.read) →
    Filling reader (length l.fn.places) l.fn.self.rest.now l.place-index l.place-items l.self.rest.now
