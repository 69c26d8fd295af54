-- The number and the place of every refusal of a stock. Assumes nothing.
--     stock_refusal f   Node 14, Over 6 and Short 5 at the shelf; Room 9 at the capacity
--     told r            an answer with its fault as number and place
use Rattle.std.specs.Prelude.{Ok, Err, Result}
use Rattle.bag.specs.Refusal.{Refusal, refusal}
use Rattle.stock.specs.declared.fault.StockFault.{StockFault}
use Rattle.stock.specs.declared.fault.StockFault.TheVariants as faults

abbrev pub stock_refusal : StockFault → Refusal
stock_refusal (faults.Node shelf) = refusal 14 shelf
stock_refusal (faults.Over shelf) = refusal 6 shelf
stock_refusal (faults.Room capacity) = refusal 9 capacity
stock_refusal (faults.Short shelf) = refusal 5 shelf

abbrev pub told : {X : Type 0} → Result X StockFault → Result X Refusal
told (Ok x) = Ok x
told (Err fault) = Err (stock_refusal fault)
