-- What the order of an entry kind's keys owes. Assumes nothing.
--     Lawful order           `order` is a total order of the keys of entries; entries with equal keys may still differ
--     by_order o a b c       a at `Less`, b at `Equal`, c at `Greater`
--     same_key order k x     the two entries have equal keys
use Rattle.std.specs.Prelude.{Bool}
use Rattle.std.specs.declared.cmp.Ordering.TheVariants.{Less, Equal, Greater}
use Rattle.std.specs.declared.cmp.Ordering.{Ordering}
use Rattle.std.specs.Cmp.{IsTotalOrder}
use Rattle.std.specs.Ordering.{is_eq}

abbrev pub Lawful : {E : Type 0} → (E → E → Ordering) → Type 0
Lawful order = IsTotalOrder order

abbrev pub by_order : {A : Type 0} → Ordering → A → A → A → A
by_order Less a b c = a
by_order Equal a b c = b
by_order Greater a b c = c

abbrev pub same_key : {E : Type 0} → (E → E → Ordering) → E → E → Bool
same_key order k x = is_eq (order k x)
