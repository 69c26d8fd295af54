-- A message read for a plan: the movements of its bases, or the first refusal. Assumes nothing.
--
--   clear_from w row        the columns of a row from w on hold 0
--   base_width n            the width of a base, none for another node
--   base_at nodes i         the width of node i, if it is a base of the plan
--   of_base nodes r         a record's node is a base of the plan, and its row has nothing past that base's width
--   movements_in nodes x    the records of a reading, if it comes to its end and each is of a base; else the first refusal:
--                           the reader's, or Table at the first byte of the record that is not of a base
--   movements_until nodes x   the records before the first refusal, or all
--   gathered nodes bytes, gathered_until nodes bytes      the same of a message's bytes
use Rattle.std.specs.Prelude.{ℕ, Bool, false, cond, List, [], ◌∷◌, drop, Some, None, Ok, Err, Option, Result}
use Rattle.std.specs.List.{slice_get, list_all}
use Rattle.bag.specs.Order.{Row}
use Rattle.bag.specs.Bag.{is_zero}
use Rattle.message.specs.declared.record.Record.{Record}
use Rattle.message.specs.Reading.{Reading, ends, refused, item, reading}
use Rattle.plan.specs.declared.node.Node.{Node}
use Rattle.plan.specs.declared.node.Node.TheVariants.{Base, Keep, Pick, Pair, Both, Less, Total}
use Rattle.nets.specs.GatherRefusal.{Told, of_message, table_refusal}

abbrev pub clear_from : ℕ → Row → Bool
clear_from w row = list_all is_zero (drop w row)

abbrev pub base_width : Node → Option ℕ
base_width (Base w) = Some w
base_width (Keep c a relation operand) = None
base_width (Pick c columns) = None
base_width (Pair l r pairs) = None
base_width (Both l r) = None
base_width (Less l r) = None
base_width (Total c j columns) = None

abbrev pub width_at : Option Node → Option ℕ
width_at None = None
width_at (Some n) = base_width n

abbrev pub base_at : List Node → ℕ → Option ℕ
base_at nodes i = width_at (slice_get nodes i)

abbrev pub fits_width : Option ℕ → Row → Bool
fits_width None row = false
fits_width (Some w) row = clear_from w row

abbrev pub of_base : List Node → Record → Bool
of_base nodes r = fits_width (base_at nodes r.node) r.row

abbrev pub behind : Record → Result (List Record) Told → Result (List Record) Told
behind r (Ok m) = Ok (r ∷ m)
behind r (Err e) = Err e

unfoldable pub movements_in : List Node → Reading → Result (List Record) Told
movements_in nodes ends = Ok []
movements_in nodes (refused e) = Err (of_message e)
movements_in nodes (item at r rest) = cond (of_base nodes r) (behind r (movements_in nodes rest)) (Err (table_refusal at))

unfoldable pub movements_until : List Node → Reading → List Record
movements_until nodes ends = []
movements_until nodes (refused e) = []
movements_until nodes (item at r rest) = cond (of_base nodes r) (r ∷ movements_until nodes rest) []

abbrev pub gathered : List Node → List ℕ → Result (List Record) Told
gathered nodes bytes = movements_in nodes (reading bytes)

abbrev pub gathered_until : List Node → List ℕ → List Record
gathered_until nodes bytes = movements_until nodes (reading bytes)
