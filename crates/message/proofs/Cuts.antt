-- Fields that a pattern cuts off are those of the definitions.
use Rattle.std.proofs.Common.{◌≡◌, ℕ, ◌+◌, ◌*◌, ◌<◌, ◌≤◌, Bool, true, false, cond, nat_le, List, [], ◌∷◌, length, get_or, take, drop, ℤ, Some, None, Option, refl, arith, w32, to_z}
use Rattle.std.specs.Option.{option_map}
use Rattle.std.proofs.lemmas.Bool.{leb-true, leb-false}
use Rattle.bag.specs.Bytes.{first_four, first_two, first_one}
use Rattle.message.specs.Decode.{field, column_field, count_field, node_field}

pub first_two_is : (xs : List ℕ) → 2 ≤ length xs → first_two xs ≡ Some (get_or xs 0 0 * 256 + get_or xs 1 0, drop 2 xs)
first_two_is [] h = absurd (omega arith)
first_two_is (a ∷ []) h = absurd (omega arith)
first_two_is (a ∷ b ∷ rest) h = refl

-- a field by its bytes, which f reads
by_bytes : {X : Type 0} (n : ℕ) (bytes : List ℕ) (f : List ℕ → X) (p : Option (X × List ℕ)) → (n ≤ length bytes → p ≡ Some (f (take n bytes), drop n bytes)) → (length bytes < n → p ≡ None) → p ≡ option_map (λ q. (f q.0, q.1)) (field n [] true bytes)
by_bytes n bytes f p enough short = by (nat_le n (length bytes)) refl
  where
    by : (t : Bool) → nat_le n (length bytes) ≡ t → p ≡ option_map (λ (q : List ℕ × List ℕ). (f q.0, q.1)) (cond t (Some (take n bytes, drop n bytes)) None)
    by true e = enough (leb-true n (length bytes) e)
    by false e = short (leb-false n (length bytes) e)

abbrev pub four_of : List ℕ → ℤ
four_of xs = to_z w32 (get_or xs 0 0 * 16777216 + get_or xs 1 0 * 65536 + get_or xs 2 0 * 256 + get_or xs 3 0)

abbrev pub two_of : List ℕ → ℕ
two_of xs = get_or xs 0 0 * 256 + get_or xs 1 0

pub column_by_bytes : (t : Bool) (bytes : List ℕ) → column_field t bytes ≡ option_map (λ q. (four_of q.0, q.1)) (field 4 (0 ∷ 0 ∷ 0 ∷ 0 ∷ []) t bytes)
column_by_bytes false bytes = refl
column_by_bytes true bytes = by_bytes 4 bytes four_of (first_four bytes) (cut bytes) (short bytes)
  where
    cut : (bytes : List ℕ) → 4 ≤ length bytes → first_four bytes ≡ Some (four_of (take 4 bytes), drop 4 bytes)
    cut [] h = absurd (omega arith)
    cut (a ∷ []) h = absurd (omega arith)
    cut (a ∷ b ∷ []) h = absurd (omega arith)
    cut (a ∷ b ∷ c ∷ []) h = absurd (omega arith)
    cut (a ∷ b ∷ c ∷ d ∷ rest) h = refl

    short : (bytes : List ℕ) → length bytes < 4 → first_four bytes ≡ None
    short [] h = refl
    short (a ∷ []) h = refl
    short (a ∷ b ∷ []) h = refl
    short (a ∷ b ∷ c ∷ []) h = refl
    short (a ∷ b ∷ c ∷ d ∷ rest) h = absurd (omega arith)

pub count_by_bytes : (t : Bool) (bytes : List ℕ) → count_field t bytes ≡ option_map (λ q. (two_of q.0, q.1)) (field 2 (0 ∷ 1 ∷ []) t bytes)
count_by_bytes false bytes = refl
count_by_bytes true bytes = by_bytes 2 bytes two_of (first_two bytes) (cut bytes) (short bytes)
  where
    cut : (bytes : List ℕ) → 2 ≤ length bytes → first_two bytes ≡ Some (two_of (take 2 bytes), drop 2 bytes)
    cut [] h = absurd (omega arith)
    cut (a ∷ []) h = absurd (omega arith)
    cut (a ∷ b ∷ rest) h = refl

    short : (bytes : List ℕ) → length bytes < 2 → first_two bytes ≡ None
    short [] h = refl
    short (a ∷ []) h = refl
    short (a ∷ b ∷ rest) h = absurd (omega arith)

pub node_by_bytes : (t : Bool) (bytes : List ℕ) → node_field t bytes ≡ option_map (λ q. (get_or q.0 0 0, q.1)) (field 1 (0 ∷ []) t bytes)
node_by_bytes false bytes = refl
node_by_bytes true bytes = by_bytes 1 bytes (λ xs. get_or xs 0 0) (first_one bytes) (cut bytes) (short bytes)
  where
    cut : (bytes : List ℕ) → 1 ≤ length bytes → first_one bytes ≡ Some (get_or (take 1 bytes) 0 0, drop 1 bytes)
    cut [] h = absurd (omega arith)
    cut (a ∷ rest) h = refl

    short : (bytes : List ℕ) → length bytes < 1 → first_one bytes ≡ None
    short [] h = refl
    short (a ∷ rest) h = absurd (omega arith)
