-- The change of one row of a less. Assumes nothing.
--     IsCount n              n is from 0 to 65,535
--     less_at l r q m n      by how much the row q of a less over l and r changes, where q changes by m in l and by n in r
use Rattle.std.specs.Prelude.{ℤ, pos, ◌+ℤ◌, ◌-ℤ◌, ◌≤ℤ◌}
use Rattle.bag.specs.Order.{Row}
use Rattle.bag.specs.Bag.{Lines, count}
use Rattle.bag.specs.Operators.{at_least_zero}

pub record IsCount (n : ℤ) : Type 0 where
  pub low : pos 0 ≤ℤ n
  pub most : n ≤ℤ pos 65535

abbrev pub less_at : Lines → Lines → Row → ℤ → ℤ → ℤ
less_at l r q m n = at_least_zero ((count l q +ℤ m) -ℤ (count r q +ℤ n)) -ℤ at_least_zero (count l q -ℤ count r q)
