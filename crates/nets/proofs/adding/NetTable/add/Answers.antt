use Rattle.std.proofs.Common.{map, sym, ap, subst, w32, SFits, rules}
use Rattle.bag.specs.Bag.{Canonical}
use Rattle.table.specs.Tables.{items}
use Rattle.settling.specs.Keys.{keyed}
use Rattle.nets.specs.NetTable.{Addable}
use Rattle.message.proofs.Columns.{zero_by_bits}
use Rattle.nets.proofs.AddedNets.{some_bits, canonical_without, canonical_left, net_gone, net_stored}
use Rattle.nets.proofs.adding.NetTable.add.Goals as goal

pub invariant_of-self : goal.invariant_of-self
invariant_of-self c =
    let s = c.args.self.now in
    record { canonical = subst Canonical (sym (ap (map keyed) c.remove.ensures.after)) (canonical_without c.line_with-line.result (items s.table.now) s.canonical) }

pub invariant_of-self-else-line-eq0 : goal.invariant_of-self-else-line-eq0
invariant_of-self-else-line-eq0 c =
    let s = c.args.self.now in
    let e = c.line_with-line.result in
    record { canonical = subst Canonical (sym (ap (map keyed) c.add.ensures.after)) (canonical_left e (items s.table.now) (some_bits e.change c.if-line-eq0.false) s.canonical c.add.result) }

pub returns-then-line-eq0-clause-added : goal.returns-then-line-eq0-clause-added
returns-then-line-eq0-clause-added c =
    let s = c.args.self.now.table.now in
    let canonical = c.args.self.now.canonical in
    let m = c.args.movement.now in
    let e = c.line_with-line.result in
    let made = c.line_with-line.ensures in
    let f : SFits w32 e.change = search rules in
    λ (a : Addable s m).
    net_gone s c.remove.new.self canonical m e made.node made.row a (made.change a.fits) (zero_by_bits e.change f c.if-line-eq0.true) c.remove.ensures.after

pub returns-else-line-eq0-clause-added : goal.returns-else-line-eq0-clause-added
returns-else-line-eq0-clause-added c =
    let s = c.args.self.now.table.now in
    let canonical = c.args.self.now.canonical in
    let m = c.args.movement.now in
    let e = c.line_with-line.result in
    let made = c.line_with-line.ensures in
    let stored = c.add.ensures in
    λ (a : Addable s m).
    net_stored s c.add.new.self canonical m e made.node made.row a (made.change a.fits) (some_bits e.change c.if-line-eq0.false) c.add.result stored.answer stored.after
