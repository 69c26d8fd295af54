-- When a change leads from one bag to another, and when it is the least that does. Assumes nothing.
--     Moves old d new           each count of new is the sum of those of old and of the signed list d
--     Changes old d new         the same of bags and of a canonical d
--     takes d, puts d           the copies that d takes, and those that it puts, as bags
--     Rival old t p new         bags t and p such that t lies within old, and old − t + p is new; they may share rows
--     IsChange old t p new      the same, and no row is in both
--     IsLeast old t p new       every rival takes and puts at least as many copies of each row
use Rattle.std.specs.Prelude.{◌≡◌, suc, ◌⊎◌, ℤ, pos, negsuc, ◌+ℤ◌, ◌-ℤ◌, ◌≤ℤ◌}
use Rattle.bag.specs.Order.{Row}
use Rattle.bag.specs.Bag.{Lines, count, Canonical, IsBag}
use Rattle.bag.specs.Operators.{map_counts, at_least_zero}

abbrev pub Moves : Lines → Lines → Lines → Type 0
Moves old d new = (q : Row) → count new q ≡ count old q +ℤ count d q

pub record Changes (old d new : Lines) : Type 0 where
  pub old_bag : IsBag old
  pub new_bag : IsBag new
  pub in_order : Canonical d
  pub moves : Moves old d new

abbrev pub taken : ℤ → ℤ
taken (pos n) = pos 0
taken (negsuc n) = pos (suc n)

unfoldable pub takes : Lines → Lines
takes d = map_counts (λ q n. taken n) d

unfoldable pub puts : Lines → Lines
puts d = map_counts (λ q n. at_least_zero n) d

pub record Rival (old take put new : Lines) : Type 0 where
  pub take_bag : IsBag take
  pub put_bag : IsBag put
  pub within_old : (q : Row) → count take q ≤ℤ count old q
  pub to_new : (q : Row) → count new q ≡ (count old q -ℤ count take q) +ℤ count put q

pub record IsChange (old take put new : Lines) : Type 0 where
  pub leads : Rival old take put new
  pub apart : (q : Row) → (count take q ≡ pos 0) ⊎ (count put q ≡ pos 0)

pub record IsLeast (old take put new : Lines) : Type 0 where
  pub change : IsChange old take put new
  pub take_least : (t p : Lines) → Rival old t p new → (q : Row) → count take q ≤ℤ count t q
  pub put_least : (t p : Lines) → Rival old t p new → (q : Row) → count put q ≤ℤ count p q
