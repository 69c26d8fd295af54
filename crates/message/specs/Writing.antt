-- What the writer answers and leaves in the buffer.
--
--   written     of records and a buffer: the length of the message, or the refusal; and the buffer after it
use Rattle.std.specs.Prelude.{ℕ, cond, List, ◌++◌, length, drop, Some, None, Ok, Err, Option, Result, nat_lt}
use Rattle.message.specs.declared.record.Record.{Record}
use Rattle.bag.specs.Refusal.{Refusal}
use Rattle.message.specs.declared.fault.WriteFault.TheVariants.{Long, Map, Paper}
use Rattle.message.specs.Limits.{max_records}
use Rattle.message.specs.Refusal.{write_refusal}
use Rattle.message.specs.Lawful.{first_unlawful}
use Rattle.message.specs.Encode.{encode_all}

abbrev pub Written : Type 0
Written = Result ℕ Refusal × List ℕ

-- the bytes first, and what stood behind them as it was
abbrev pub filled : List ℕ → List ℕ → Written
filled bytes buffer =
    cond (nat_lt (length buffer) (length bytes)) (Err (write_refusal Paper), buffer) (Ok (length bytes), bytes ++ drop (length bytes) buffer)

abbrev pub unless_unlawful : Option ℕ → List ℕ → List ℕ → Written
unless_unlawful (Some index) bytes buffer = (Err (write_refusal (Map index)), buffer)
unless_unlawful None bytes buffer = filled bytes buffer

unfoldable pub written : List Record → List ℕ → Written
written rs buffer =
    cond (nat_lt max_records (length rs)) (Err (write_refusal Long), buffer) (unless_unlawful (first_unlawful rs) (encode_all rs) buffer)
