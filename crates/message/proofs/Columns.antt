-- Tests on a column, as its bits answer them.
use Rattle.std.proofs.Common.{◌≡◌, ℕ, zero, suc, [], ◌∷◌, cond, eqb, filter, int_eq, ◌+◌, ◌*◌, ◌%◌, ◌^◌, ◌<◌, Bool, true, false, not, List, map, length, get_or, take, ℤ, pos, negsuc, sym, refl, ap, ◌∙◌, add-one, arith, w32, SFits, of_z}
use native.Mathlib.Nat.{pow-succ'}
use Rattle.std.specs.Bool.{Decides}
use Rattle.std.proofs.lemmas.Bool.{eqb-true, eqb-false}
use Rattle.std.proofs.lemmas.Bool.Decides.{same_from_decides, Decides-int_eq}
use Rattle.std.proofs.lemmas.Nat.{one_shl}
use Rattle.std.proofs.lemmas.List.{take_more, map_push, length-map, length-take-le}
use Rattle.std.proofs.lemmas.Int.{ints}
use Rattle.std.specs.Int.{from_bool}
use Rattle.std.specs.List.{flat_map}
use Rattle.bag.specs.Bag.{is_zero}
use Rattle.bag.specs.Bytes.{in_four}
use Rattle.message.specs.Encode.{bit_value, bits_value, column_bytes}
use Rattle.message.proofs.Maps.{bits_push}

pub zero_by_bits : (v : ℤ) → SFits w32 v → of_z w32 v ≡ 0 → is_zero v ≡ true
zero_by_bits (pos n) f e = ap (λ k. is_zero (pos k)) e
zero_by_bits (negsuc n) f e = absurd (omega (arith, ints))

pub nonzero_by_bits : (v : ℤ) → SFits w32 v → (of_z w32 v ≡ 0 → ⊥) → is_zero v ≡ false
nonzero_by_bits (pos zero) f e = absurd (e refl)
nonzero_by_bits (pos (suc n)) f e = refl
nonzero_by_bits (negsuc n) f e = refl

-- a column's field, as its bits say whether it stands
pub column_field_is : (v : ℤ) → SFits w32 v → (bytes : List ℕ) → bytes ≡ in_four v → cond (not (eqb (of_z w32 v) 0)) bytes [] ≡ column_bytes v
column_field_is v f bytes e = by (eqb (of_z w32 v) 0) refl
  where
    by : (t : Bool) → eqb (of_z w32 v) 0 ≡ t → cond (not (eqb (of_z w32 v) 0)) bytes [] ≡ column_bytes v
    by true h = rw (h, zero_by_bits v f (eqb-true (of_z w32 v) 0 h)) refl
    by false h = rw (h, nonzero_by_bits v f (eqb-false (of_z w32 v) 0 h)) e

-- the bit of a column, as its bits say it
pub column_bit : (v : ℤ) → SFits w32 v → from_bool (not (eqb (of_z w32 v) 0)) ≡ bit_value (not (is_zero v))
column_bit v f = by (eqb (of_z w32 v) 0) refl
  where
    by : (t : Bool) → eqb (of_z w32 v) 0 ≡ t → from_bool (not (eqb (of_z w32 v) 0)) ≡ bit_value (not (is_zero v))
    by true h = rw (h, zero_by_bits v f (eqb-true (of_z w32 v) 0 h)) refl
    by false h = rw (h, nonzero_by_bits v f (eqb-false (of_z w32 v) 0 h)) refl

equals_zero : (v : ℤ) → int_eq v (pos 0) ≡ is_zero v
equals_zero v = same_from_decides (int_eq v (pos 0)) (is_zero v) (Decides-int_eq v (pos 0)) (zero_is v)
  where
    zero_is : (v : ℤ) → Decides (is_zero v) (v ≡ pos 0)
    zero_is (pos zero) = (λ e. refl, λ e. refl)
    zero_is (pos (suc n)) = (λ e. cc, λ e. cc)
    zero_is (negsuc n) = (λ e. cc, λ e. cc)

-- four bytes for each column that is not 0
pub columns_length_is : (row : List ℤ) → 4 * length (filter (λ v. not (int_eq v (pos 0))) row) ≡ length (flat_map column_bytes row)
columns_length_is [] = refl
columns_length_is (v ∷ row) = by (is_zero v) refl (columns_length_is row)
  where
    by : (t : Bool) → is_zero v ≡ t → 4 * length (filter (λ v. not (int_eq v (pos 0))) row) ≡ length (flat_map column_bytes row) → 4 * length (filter (λ v. not (int_eq v (pos 0))) (v ∷ row)) ≡ length (flat_map column_bytes (v ∷ row))
    by true e h = rw (equals_zero v, e) h
    by false e h = rw (equals_zero v, e) (omega arith)

-- the map's columns, one more
module _ (row : List ℤ) (k : ℕ) (lt : k < length row) (m : ℕ) (was : m ≡ bits_value (map (λ v. not (is_zero v)) (take k row))) (under : m < 2 ^ k) where
  pushed : bits_value (map (λ v. not (is_zero v)) (take (k + 1) row)) ≡ m + bit_value (not (is_zero (get_or row k (pos 0)))) * 2 ^ k
  pushed =
      let xs = map (λ (v : ℤ). not (is_zero v)) (take k row) in
      let long : length xs ≡ k = length-map (take k row) (λ (v : ℤ). not (is_zero v)) ∙ length-take-le k row (omega arith) in
      ap (λ l. bits_value (map (λ (v : ℤ). not (is_zero v)) l)) (take_more row k (pos 0) lt)
      ∙ (ap bits_value (map_push (λ (v : ℤ). not (is_zero v)) (take k row) (get_or row k (pos 0)))
      ∙ (bits_push xs (not (is_zero (get_or row k (pos 0))))
      ∙ (ap (λ n. bits_value xs + bit_value (not (is_zero (get_or row k (pos 0)))) * 2 ^ n) long ∙ ap (λ n. n + bit_value (not (is_zero (get_or row k (pos 0)))) * 2 ^ k) (sym was))))

  -- with the bit of the next column
  pub column_more : (b : Bool) (n : ℕ) → is_zero (get_or row k (pos 0)) ≡ b → n ≡ bit_value (not b) → k < 8 → (m + n * 2 ^ k % 65536 ≡ bits_value (map (λ v. not (is_zero v)) (take (k + 1) row))) × (m + n * 2 ^ k % 65536 < 2 ^ (k + 1))
  column_more true n z e h =
      let p : bits_value (map (λ v. not (is_zero v)) (take (k + 1) row)) ≡ m + 0 * 2 ^ k = rw z at pushed in
      let q : 2 ^ (k + 1) ≡ 2 * 2 ^ k = rw add-one (pow-succ' 2 k) in
      rw e (omega arith, omega arith)
  column_more false n z e h =
      let p : bits_value (map (λ v. not (is_zero v)) (take (k + 1) row)) ≡ m + 1 * 2 ^ k = rw z at pushed in
      let q : 2 ^ (k + 1) ≡ 2 * 2 ^ k = rw add-one (pow-succ' 2 k) in
      let s : (1 * 2 ^ k) % 65536 ≡ 2 ^ k = one_shl k 16 (omega arith) in
      rw e (omega arith, omega arith)
