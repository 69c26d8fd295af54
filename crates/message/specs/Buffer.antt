-- Bytes laid into a buffer.
--
--   laid     the buffer with bytes from the place `at` on, and all else as it was
--   Put      bytes were laid into a lent buffer, and the place moved behind them
use Rattle.std.specs.Prelude.{◌≡◌, ℕ, ◌+◌, List, ◌++◌, length, take, drop}
use Rattle.std.specs.Borrow.{MutBor}

unfoldable pub laid : List ℕ → ℕ → List ℕ → List ℕ
laid buffer at bytes = take at buffer ++ (bytes ++ drop (at + length bytes) buffer)

-- the buffer and the place before, the bytes, the buffer and the place after
pub record Put (buffer : MutBor (List ℕ)) (at : ℕ) (bytes : List ℕ) (left : MutBor (List ℕ)) (next : ℕ) : Type 0 where
  pub lender : left.ghost_name ≡ buffer.ghost_name
  pub long : length left.now ≡ length buffer.now
  pub place : next ≡ at + length bytes
  pub content : left.now ≡ laid buffer.now at bytes
