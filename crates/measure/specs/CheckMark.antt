-- Check mark: the exclusive or of the 32-bit patterns of numbers, each once if its copies are odd and never if even. Assumes nothing.
--     check_mark        the measure
--     marks             its group: exclusive or, of which every value is its own inverse
--     IsMark v          v is a pattern of 32 bits
--     pattern v         the 32-bit pattern of v: v modulo 2^32, as a number from 0
--     is_odd n          n is odd, negative n included
--     low_half c        the lower 16 bits of a column
use Rattle.std.specs.Prelude.{ℕ, ◌+◌, ◌*◌, ◌/◌, ◌%◌, ◌<◌, Bool, true, cond, [], ◌∷◌, ℤ, pos, ◌==◌, slice_index_or, unsigned_abs}
use Rattle.std.specs.Int.Bits.{bit_xor}
use Rattle.std.specs.Int.{int_rem_euclid}
use Rattle.bag.specs.Group.{Group}
use Rattle.bag.specs.Measure.{Measure}

abbrev pub IsMark : ℕ → Type 0
IsMark v = v < 4294967296

abbrev pub marks : Group ℕ
marks = record { zero = 0; plus = bit_xor; minus = λ a. a }

abbrev pub pattern : ℤ → ℕ
pattern v = unsigned_abs (int_rem_euclid v (pos 4294967296))

abbrev pub is_odd : ℤ → Bool
is_odd n = unsigned_abs n % 2 == 1

abbrev pub low_half : ℤ → ℕ
low_half c = pattern c % 65536

abbrev pub check_mark : Measure ℕ
check_mark = record {
  group = marks;
  worth = λ v n. cond (is_odd n) (pattern v) 0;
  fits = λ v. true;
  shows = 2;
  columns = λ v. pos (v / 65536) ∷ pos (v % 65536) ∷ [];
  reads = λ columns. low_half (slice_index_or columns 0 (pos 0)) * 65536 + low_half (slice_index_or columns 1 (pos 0));
}
