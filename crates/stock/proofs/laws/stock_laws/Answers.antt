use Rattle.stock.proofs.StockLaws.{stock_laws}
use Rattle.stock.proofs.laws.stock_laws.Goals as goal

pub returns : goal.returns
returns c = stock_laws
