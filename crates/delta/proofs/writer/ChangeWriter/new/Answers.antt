use Rattle.std.proofs.Common.{refl}
use Rattle.delta.proofs.Steps.{written_none}
use Rattle.delta.proofs.writer.ChangeWriter.new.Goals as goal

pub returns-clause-none : goal.returns-clause-none
returns-clause-none g c = written_none g.S.Stock.meaning _ refl
