-- What working out the change of a node owes; one form for all operators. Assumes nothing.
--     NodeChange v w new fit r       the answer r, and what stands on the page of w, where v has written nothing: the difference of the
--                                    node's old bag and `new`; fit says whether every group that it shows fits
use Rattle.std.specs.Prelude.{◌≡◌, Bool, true, Result}
use Rattle.bag.specs.Bag.{Lines, difference}
use Rattle.stock.specs.Holding.{Holding, shelf_of}
use Rattle.delta.specs.declared.fault.NodeFault.{NodeFault}
use Rattle.delta.specs.declared.writer.ChangeWriter.{ChangeWriter}
use Rattle.delta.specs.NodeChange.{counts_fit, node_answer}
use Rattle.delta.specs.Writing.{Written}

module _ {S : Type 0} (meaning : S → Holding) where
  pub record NodeChange (v w : ChangeWriter S) (new : Lines) (fit : Bool) (r : Result (Unit {0}) NodeFault) : Type 0 where
    pub answer : r ≡ node_answer new fit
    pub written : counts_fit new ≡ true → fit ≡ true → Written meaning w (difference (shelf_of (meaning v.stock.now) v.node) new)
