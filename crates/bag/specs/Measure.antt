-- A measure (an aggregate whose values form an abelian group): what a total shows of a column's values over all copies. Assumes nothing.
--     Measure V             group, the worth of v at n copies, whether a value fits, K, the columns shown, the value read back from them
--     ShownColumn c         c is a signed 32-bit number other than −2,147,483,648
--     MeasureLaws ok M      what a measure owes
--     copies_alone          the measure of one value
use Rattle.std.specs.Prelude.{◌≡◌, ℕ, ◌<◌, ◌≤◌, Bool, true, List, [], ◌∷◌, length, ℤ, unsigned_abs}
use Rattle.bag.specs.Group.{Group, GroupLaws, AddsUp}

pub record Measure (V : Type 0) : Type 0 where
  pub group : Group V
  -- the worth of n copies of the number v
  pub worth : ℤ → ℤ → V
  pub fits : V → Bool
  -- K, how many columns it shows
  pub shows : ℕ
  pub columns : V → List ℤ
  pub reads : List ℤ → V

abbrev pub ShownColumn : ℤ → Type 0
ShownColumn c = unsigned_abs c ≤ 2147483647

abbrev pub ShownColumns : List ℤ → Type 0
ShownColumns [] = Unit {0}
ShownColumns (c ∷ cs) = ShownColumn c × ShownColumns cs

-- A measure of eight columns has no room in any total, and is free of the rules on showing.
pub record ShowingLaws {V : Type 0} (ok : V → Type 0) (M : Measure V) : Type 0 where
  pub as_many : (v : V) → ok v → M.fits v ≡ true → length (M.columns v) ≡ M.shows
  pub read_back : (v : V) → ok v → M.fits v ≡ true → M.reads (M.columns v) ≡ v
  pub never_lowest : (v : V) → ok v → M.fits v ≡ true → ShownColumns (M.columns v)
  pub zero_fits : M.fits M.group.zero ≡ true

pub record MeasureLaws {V : Type 0} (ok : V → Type 0) (M : Measure V) : Type 0 where
  pub group_laws : GroupLaws ok M.group
  pub adds_up : AddsUp ok M.group M.worth
  pub at_most_eight : M.shows ≤ 8
  pub showing : M.shows < 8 → ShowingLaws ok M

-- one value and no column: a total shows the copies of each group alone
abbrev pub copies_alone : Measure ℕ
copies_alone = record {
  group = record { zero = 0; plus = λ x y. 0; minus = λ x. 0 };
  worth = λ v n. 0;
  fits = λ v. true;
  shows = 0;
  columns = λ v. [];
  reads = λ cs. 0;
}
