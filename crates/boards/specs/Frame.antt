-- The frames of the input: bytes behind their length.
--
--   framed    the bytes of the first frame and the bytes behind it; none where the length or the bytes are not whole
use Rattle.std.specs.Prelude.{ℕ, cond, List, length, take, drop, Some, None, Option, nat_lt}
use Rattle.bag.specs.Bytes.{first_two}

abbrev pub cut : Option (ℕ × List ℕ) → Option (List ℕ × List ℕ)
cut None = None
cut (Some p) = cond (nat_lt (length p.1) p.0) None (Some (take p.0 p.1, drop p.0 p.1))

abbrev pub framed : List ℕ → Option (List ℕ × List ℕ)
framed bytes = cut (first_two bytes)
