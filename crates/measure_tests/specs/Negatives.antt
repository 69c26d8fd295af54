-- A measure of one's own: how many copies have a number below 0, modulo 2^64. Assumes nothing.
--     if_negative v n      n if v is below 0, else 0
--     negatives            the measure; its group, what fits and what is shown are those of the sum
use Rattle.std.specs.Prelude.{ℤ, pos, negsuc}
use Rattle.std.specs.Int.{int_wrap, w64}
use Rattle.bag.specs.Measure.{Measure}
use Rattle.measure.specs.Sum.{sums, sum}

abbrev pub if_negative : ℤ → ℤ → ℤ
if_negative (pos v) n = pos 0
if_negative (negsuc v) n = n

abbrev pub negatives : Measure ℤ
negatives = record {
  group = sums;
  worth = λ v n. int_wrap w64 (if_negative v n);
  fits = sum.fits;
  shows = sum.shows;
  columns = sum.columns;
  reads = sum.reads;
}
