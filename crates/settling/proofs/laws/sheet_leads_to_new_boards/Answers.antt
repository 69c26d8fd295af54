use Rattle.settling.proofs.NewBoards.{sheet_leads_to_new_boards}
use Rattle.settling.proofs.laws.sheet_leads_to_new_boards.Goals as goal

pub returns : goal.returns
returns c = sheet_leads_to_new_boards
