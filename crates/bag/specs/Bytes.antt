-- Numbers in bytes, the highest byte first (big-endian), as messages, plans and stores have them. Assumes nothing.
--
--   first_four   the signed number in the first four bytes, and the bytes behind them; none where one of the four is missing
--   first_two    the same of two bytes and a number without sign
--   first_one    the same of one byte
--   in_four      a signed number as four bytes
--   in_two       a number without sign as two bytes
--   Bytes        every number of a list is a byte
use Rattle.std.specs.Prelude.{ℕ, ◌+◌, ◌*◌, ◌/◌, ◌%◌, ◌<◌, List, [], ◌∷◌, ℤ, Some, None, Option}
use Rattle.std.specs.List.{AllByRecursion}
use Rattle.std.proofs.Common.{to_z, of_z}
use Rattle.std.specs.Int.{w32}

abbrev pub first_four : List ℕ → Option (ℤ × List ℕ)
first_four [] = None
first_four (a ∷ []) = None
first_four (a ∷ b ∷ []) = None
first_four (a ∷ b ∷ c ∷ []) = None
first_four (a ∷ b ∷ c ∷ d ∷ rest) = Some (to_z w32 (a * 16777216 + b * 65536 + c * 256 + d), rest)

abbrev pub first_two : List ℕ → Option (ℕ × List ℕ)
first_two [] = None
first_two (a ∷ []) = None
first_two (a ∷ b ∷ rest) = Some (a * 256 + b, rest)

abbrev pub first_one : List ℕ → Option (ℕ × List ℕ)
first_one [] = None
first_one (a ∷ rest) = Some (a, rest)

abbrev pub in_four : ℤ → List ℕ
in_four v =
    (of_z w32 v / 16777216 % 256) ∷ (of_z w32 v / 65536 % 256) ∷ (of_z w32 v / 256 % 256) ∷ (of_z w32 v % 256) ∷ []

abbrev pub in_two : ℕ → List ℕ
in_two n = (n / 256 % 256) ∷ (n % 256) ∷ []

abbrev pub Bytes : List ℕ → Type 0
Bytes bytes = AllByRecursion (λ b. b < 256) bytes
