-- Change lines of all nodes as one canonical list. Assumes nothing.
-- A key is the node followed by the row. It is itself a row of nine columns, and the order of rows is then the order by node and
-- row: so the algebra of changes applies to the lines of all nodes at once.
--     key k r                  the key of the row r of node k
--     key_of l                 the key of a line
--     keyed l                  the change of a line, by its key
--     changes lines            the changes of lines, by their keys
--     change_at lines k r      the change that the lines have for the row r of node k
use Rattle.std.specs.Prelude.{ℕ, List, ◌∷◌, map, ℤ, pos}
use Rattle.bag.specs.declared.lines.ChangeLine.{ChangeLine}
use Rattle.bag.specs.Order.{Row}
use Rattle.bag.specs.Bag.{Line, Lines, count}

abbrev pub key : ℕ → Row → Row
key k r = pos k ∷ r

abbrev pub key_of : ChangeLine → Row
key_of l = key l.node l.row

abbrev pub keyed : ChangeLine → Line
keyed l = (key_of l, l.change)

abbrev pub changes : List ChangeLine → Lines
changes lines = map keyed lines

abbrev pub change_at : List ChangeLine → ℕ → Row → ℤ
change_at lines k r = count (changes lines) (key k r)
