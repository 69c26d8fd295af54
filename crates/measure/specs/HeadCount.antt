-- Head count: a measure of one value that shows nothing, so that a total shows the copies of each group alone. Assumes nothing.
--     head_count        the measure
--     any_head          of which values its laws are asked: of the one there is
use Rattle.std.specs.Prelude.{true, []}
use Rattle.bag.specs.Measure.{Measure}

abbrev pub any_head : Unit {0} → Type 0
any_head v = Unit {0}

abbrev pub head_count : Measure (Unit {0})
head_count = record {
  group = record { zero = tt; plus = λ a b. tt; minus = λ a. tt };
  worth = λ v n. tt;
  fits = λ v. true;
  shows = 0;
  columns = λ v. [];
  reads = λ columns. tt;
}
