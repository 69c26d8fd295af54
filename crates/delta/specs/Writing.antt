-- How far the change of a node is written. It describes how code works, not what a change means. Assumes nothing.
--     SameTask v w            both write the change of one node, over one stock, on one page
--     Written w d             the lines of d stand on the writer's page, and none of them brings its row to a count above 65,535
--     TooMany w d f           some line of d does, and that is what f tells
--     Wrote v w d r           the answer r where v was to write the lines of d: they are written, as w, or there are too many copies
--     without_zeros xs        the lines of xs whose number is not 0
--     write_answer old d      what is told where the lines d are to be written of a node whose old bag is `old`: Over if one of them brings
--                             its row to a count above 65,535
--     up_to_over old xs       the lines of xs whose number is not 0, up to the first that brings its row to such a count, that line too
use Rattle.std.specs.Prelude.{◌≡◌, true, false, cond, [], ◌∷◌, length, Ok, Err, Result, MatchResult}
use Rattle.bag.specs.Bag.{Lines, with_line}
use Rattle.stock.specs.Holding.{Holding, shelf_of}
use Rattle.sheet.specs.Sheets.{of_node, OnPage}
use Rattle.delta.specs.declared.fault.NodeFault.{NodeFault}
use Rattle.delta.specs.declared.fault.NodeFault.TheVariants.{Over}
use Rattle.delta.specs.declared.writer.ChangeWriter.{ChangeWriter}
use Rattle.delta.specs.NodeChange.{over_at}

pub record SameTask {S : Type 0} (v w : ChangeWriter S) : Type 0 where
  pub stock : w.stock.now ≡ v.stock.now
  pub node : w.node ≡ v.node
  pub lender : w.page.ghost_name ≡ v.page.ghost_name
  pub long : length w.page.now ≡ length v.page.now

module _ {S : Type 0} (meaning : S → Holding) where
  pub record Written (w : ChangeWriter S) (d : Lines) : Type 0 where
    pub on_page : OnPage w.page.now w.lines (of_node w.node d)
    pub counts : over_at (shelf_of (meaning w.stock.now) w.node) d ≡ false

  pub record TooMany (w : ChangeWriter S) (d : Lines) (f : NodeFault) : Type 0 where
    pub fault : f ≡ Over
    pub count : over_at (shelf_of (meaning w.stock.now) w.node) d ≡ true

  abbrev pub Wrote : ChangeWriter S → ChangeWriter S → Lines → Result (Unit {0}) NodeFault → Type 0
  Wrote v w d r = MatchResult r (λ _. Written w d) (λ f. TooMany v d f)

unfoldable pub without_zeros : Lines → Lines
without_zeros [] = []
without_zeros (e ∷ xs) = with_line e.0 e.1 (without_zeros xs)

abbrev pub write_answer : Lines → Lines → Result (Unit {0}) NodeFault
write_answer old d = cond (over_at old d) (Err Over) (Ok tt)

unfoldable pub up_to_over : Lines → Lines → Lines
up_to_over old [] = []
up_to_over old (e ∷ xs) = with_line e.0 e.1 (cond (over_at old (with_line e.0 e.1 [])) [] (up_to_over old xs))
