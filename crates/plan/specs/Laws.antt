-- Which bytes are plans, in terms of nodes and not of reading.
--
--   AcceptedAreEncodings     the bytes accepted are exactly the encodings of lawful plans
--   OneToOne                 two lawful plans with equal bytes are equal
--   BrokenAt                 the bytes begin with whole lawful nodes, as many as the refusal's node says, and where there are
--                            fewer than 16, no lawful node follows them; where there are 16, some byte does
--   RefusedWhereBroken       every refusal has the number 12, and the bytes are broken at its node
--
-- A contract sees bytes as numbers of any size: `Bytes` is asked only where a number past 255 would be read as a node that encodes
-- to other bytes.
--
--   EncodingsAreAccepted     the encoding of a lawful plan is bytes, and checking it gives that plan back
--   OneEncoding              a plan has one encoding: bytes that are accepted as the same plan are equal
--   BreaksAt                 as `BrokenAt`, and something is left behind the whole nodes, unless there is no byte at all
--   RefusedThere             every refusal is that of a fault: the number 12, a node and the number of a cause; the bytes break there
--   BrokenAreRefused         bytes that break at a node are refused there
--   PlanOrBroken             what an answer of checking means: the nodes of the plan that the bytes encode, or where they break
--   NeverBoth                neither accepted bytes nor the encoding of a lawful plan break anywhere
--   WidthsOneToEight         the rows of every node of a lawful plan are 1 to 8 wide
use Rattle.std.specs.Prelude.{◌≡◌, ℕ, ◌<◌, ◌≤◌, true, List, [], ◌++◌, length, Ok, Err, Result, ◌≢◌, slice_index}
use Rattle.std.specs.List.{AllByRecursion}
use Rattle.plan.specs.declared.fault.PlanFault.{PlanFault}
use Rattle.plan.specs.declared.node.Node.{Node}
use Rattle.plan.specs.Refusal.{Refusal, plan_refusal}
use Rattle.plan.specs.Lawful.{fits, widths, lawful, OneToEight, InRange, LawfulPlan}
use Rattle.plan.specs.Check.{checked}
use Rattle.bag.specs.Bytes.{Bytes}
use Rattle.plan.specs.Encode.{encode, encode_all}

abbrev pub AcceptedAreEncodings : Type 0
AcceptedAreEncodings =
    (k : ℕ) (bytes : List ℕ) (xs : List Node) → Bytes bytes →
    (checked k bytes ≡ Ok xs → LawfulPlan k xs × (bytes ≡ encode_all xs))
    × (LawfulPlan k xs → bytes ≡ encode_all xs → checked k bytes ≡ Ok xs)

abbrev pub OneToOne : Type 0
OneToOne =
    (k : ℕ) (xs ys : List Node) → LawfulPlan k xs → LawfulPlan k ys → encode_all xs ≡ encode_all ys → xs ≡ ys

pub record BrokenAt (k : ℕ) (bytes : List ℕ) (node : ℕ) : Type 0 where
  pub whole : List Node
  pub rest : List ℕ
  pub split : bytes ≡ encode_all whole ++ rest
  pub many : length whole ≡ node
  pub few : length whole ≤ 16
  pub fit : lawful k [] whole ≡ true
  pub range : AllByRecursion InRange whole
  pub more : length whole ≡ 16 → 1 ≤ length rest
  pub none : (x : Node) (ys : List ℕ) → length whole < 16 → fits k (widths k [] whole) x ≡ true → InRange x → rest ≢ encode x ++ ys

abbrev pub RefusedWhereBroken : Type 0
RefusedWhereBroken =
    (k : ℕ) (bytes : List ℕ) (e : Refusal) → Bytes bytes → checked k bytes ≡ Err e →
    (e.number ≡ 12) × BrokenAt k bytes e.place.0

abbrev pub EncodingsAreAccepted : Type 0
EncodingsAreAccepted =
    (k : ℕ) (xs : List Node) → LawfulPlan k xs → Bytes (encode_all xs) × (checked k (encode_all xs) ≡ Ok xs)

abbrev pub OneEncoding : Type 0
OneEncoding =
    (k : ℕ) (xs : List Node) (a b : List ℕ) → Bytes a → Bytes b → checked k a ≡ Ok xs → checked k b ≡ Ok xs → a ≡ b

pub record BreaksAt (k : ℕ) (bytes : List ℕ) (node : ℕ) : Type 0 where
  pub whole : List Node
  pub rest : List ℕ
  pub split : bytes ≡ encode_all whole ++ rest
  pub many : length whole ≡ node
  pub few : length whole ≤ 16
  pub fit : lawful k [] whole ≡ true
  pub range : AllByRecursion InRange whole
  pub more : 1 ≤ length bytes → 1 ≤ length rest
  pub none : (x : Node) (ys : List ℕ) → length whole < 16 → fits k (widths k [] whole) x ≡ true → InRange x → rest ≢ encode x ++ ys

abbrev pub RefusedThere : Type 0
RefusedThere =
    (k : ℕ) (bytes : List ℕ) (e : Refusal) → Bytes bytes → checked k bytes ≡ Err e →
    (f : PlanFault) × (e ≡ plan_refusal f) × BreaksAt k bytes f.node

abbrev pub BrokenAreRefused : Type 0
BrokenAreRefused =
    (k : ℕ) (bytes : List ℕ) (node : ℕ) → Bytes bytes → BreaksAt k bytes node →
    (f : PlanFault) × (checked k bytes ≡ Err (plan_refusal f)) × (f.node ≡ node)

abbrev pub PlanOrBroken : ℕ → List ℕ → Result (List Node) PlanFault → Type 0
PlanOrBroken k bytes (Ok xs) = LawfulPlan k xs × (bytes ≡ encode_all xs)
PlanOrBroken k bytes (Err f) = BreaksAt k bytes f.node

abbrev pub NeverBoth : Type 0
NeverBoth =
    ((k : ℕ) (bytes : List ℕ) (xs : List Node) (node : ℕ) → Bytes bytes → checked k bytes ≡ Ok xs → BreaksAt k bytes node → ⊥)
    × ((k : ℕ) (xs : List Node) (node : ℕ) → LawfulPlan k xs → BreaksAt k (encode_all xs) node → ⊥)

abbrev pub WidthsOneToEight : Type 0
WidthsOneToEight =
    (k : ℕ) (xs : List Node) → lawful k [] xs ≡ true →
    (i : ℕ) → i < length xs → OneToEight (slice_index (widths k [] xs) i)
