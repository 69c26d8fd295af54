use Rattle.std.proofs.Common.{◌≡◌, [], length, replicate, sym, refl, ap, ◌∙◌}
use Rattle.bag.specs.Bag.{collect}
use Rattle.byte_stock.specs.ByteLines.{padded, capacity_in}
use Rattle.byte_stock.specs.ByteStored.{shelves_of, bag_on, holding_of}
use Rattle.stock.specs.Holding.{Holding}
use Rattle.byte_stock.proofs.ByteKept.{sound_from, none_kept, blank_padded}
use Rattle.byte_stock.proofs.bytes.ByteStock.new.Goals as goal

pub invariant_of-result : goal.invariant_of-result
invariant_of-result c =
    let d = c.fill.new.self in
    let blank : d ≡ replicate (length c.args.bytes.now) 0 = c.fill.ensures.after (λ y e. e) in
    let whole : d ≡ padded (length d) [] = blank ∙ ap (λ m. replicate m 0) (sym c.fill.ensures.len) ∙ blank_padded (length d) in
    let sound = sound_from d 0 [] (none_kept (capacity_in (length d))) whole refl in
    record { room = sound.room; lawful = sound.lawful; apart = sound.apart; whole = sound.whole }

pub returns-clause-empty : goal.returns-clause-empty
unfolding shelves_of bag_on collect
returns-clause-empty c = ap {B = Holding} (λ m. holding_of (capacity_in m) []) c.fill.ensures.len
