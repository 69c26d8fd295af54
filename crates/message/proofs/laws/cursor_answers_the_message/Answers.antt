use Rattle.message.proofs.Cursors.{cursor_reads}
use Rattle.message.proofs.laws.cursor_answers_the_message.Goals as goal

pub returns : goal.returns
returns c = cursor_reads
