-- How many records a message may hold.
--
--   max_records    1,024
use Rattle.std.specs.Prelude.{ℕ}

abbrev pub max_records : ℕ
max_records = 1024
