-- Sum: numbers times copies, added up modulo 2^64 in signed numbers of 64 bits, shown if within ±2,147,483,647. Assumes nothing.
--     sum             the measure
--     sums            its group: adding and negating modulo 2^64
use Rattle.std.specs.Prelude.{[], ◌∷◌, ℤ, pos, ◌+ℤ◌, ◌*ℤ◌, neg_ℤ, nat_le, slice_index_or, unsigned_abs}
use Rattle.std.specs.Int.{int_wrap, w64}
use Rattle.bag.specs.Group.{Group}
use Rattle.bag.specs.Measure.{Measure}

-- `wrapped w64 z` is the signed number of 64 bits that equals z modulo 2^64
abbrev pub sums : Group ℤ
sums = record { zero = pos 0; plus = λ a b. int_wrap w64 (a +ℤ b); minus = λ a. int_wrap w64 (neg_ℤ a) }

abbrev pub sum : Measure ℤ
sum = record {
  group = sums;
  worth = λ v n. int_wrap w64 (v *ℤ n);
  fits = λ v. nat_le (unsigned_abs v) 2147483647;
  shows = 1;
  columns = λ v. v ∷ [];
  reads = λ columns. slice_index_or columns 0 (pos 0);
}
