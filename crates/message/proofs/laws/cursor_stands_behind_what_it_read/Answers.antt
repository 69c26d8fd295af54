use Rattle.message.proofs.Cursors.{cursor_stands}
use Rattle.message.proofs.laws.cursor_stands_behind_what_it_read.Goals as goal

pub returns : goal.returns
returns c = cursor_stands
