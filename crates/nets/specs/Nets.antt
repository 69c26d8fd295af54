-- The records of a message added up: one net for each base and row. Assumes nothing.
--     signed_copies r      the copies of a record, negative where they are taken
--     movement r           a record's row with its signed copies
--     movements_of i m     what the records m move at node i, in their order
--     net_of i m           the net of node i: each row once, ascending, with the copies put less the copies taken, and no 0
--     nets_from k n m      the nets of the n nodes from k on
--     nets_by_node m       the nets of nodes 0 to 15
--     nets_of m            the same as change lines, one node behind the other
use Rattle.std.specs.Prelude.{ℕ, zero, suc, cond, List, [], ◌∷◌, ℤ, pos, neg_ℤ, ◌==◌}
use Rattle.bag.specs.declared.lines.ChangeLine.{ChangeLine}
use Rattle.bag.specs.Bag.{Line, Lines, collect}
use Rattle.message.specs.declared.record.Record.{Record}
use Rattle.sheet.specs.Sheets.{flattened}

abbrev pub signed_copies : Record → ℤ
signed_copies r = cond r.take (neg_ℤ (pos r.count)) (pos r.count)

abbrev pub movement : Record → Line
movement r = (r.row, signed_copies r)

unfoldable pub movements_of : ℕ → List Record → Lines
movements_of i [] = []
movements_of i (r ∷ m) = cond (r.node == i) (movement r ∷ movements_of i m) (movements_of i m)

abbrev pub net_of : ℕ → List Record → Lines
net_of i m = collect (movements_of i m)

unfoldable pub nets_from : ℕ → ℕ → List Record → List Lines
nets_from k zero m = []
nets_from k (suc n) m = net_of k m ∷ nets_from (suc k) n m

abbrev pub nets_by_node : List Record → List Lines
nets_by_node m = nets_from 0 16 m

abbrev pub nets_of : List Record → List ChangeLine
nets_of m = flattened 0 (nets_by_node m)
