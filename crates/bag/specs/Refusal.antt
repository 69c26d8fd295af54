-- What a refusal tells its caller, in every crate. Assumes nothing.
--     Refusal              the number of a cause, and the place where it was met
--     refusal n p          number n at place p
--     left_by r old new    what a call leaves: the new value where it was accepted, the old one where it was refused
use Rattle.std.specs.Prelude.{ℕ, Ok, Err, Result}

pub record Refusal : Type 0 where
  pub number : ℕ
  pub place : ℕ

abbrev pub refusal : ℕ → ℕ → Refusal
refusal n p = record { number = n; place = p }

abbrev pub left_by : {X E Y : Type 0} → Result X E → Y → Y → Y
left_by (Ok x) old new = new
left_by (Err e) old new = old
