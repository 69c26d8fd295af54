-- An order of keys is a lawful order of the entries that have them. Assumes nothing.
--     lawful_from_keys       the order's law, from that of the keys
use Rattle.std.specs.declared.cmp.Ordering.{Ordering}
use Rattle.bag.specs.Order.{LawfulOrder}
use Rattle.table.specs.Order.{Lawful}

pub lawful_from_keys : {E K : Type 0} {key : E → K} {order : E → E → Ordering} → LawfulOrder key order → Lawful order
lawful_from_keys l = record { antisymm = l.turned; trans = l.transitive; congr = l.alike }
