-- The number that bits make, and the bits of a number.
use Rattle.std.proofs.Common.{◌≡◌, ℕ, zero, suc, ◌+◌, ◌*◌, ◌/◌, ◌%◌, ◌^◌, ◌<◌, Bool, true, false, eqb, List, [], ◌∷◌, ◌++◌, length, get_or, sym, refl, ap, ◌∙◌, mul_assoc, arith}
use native.Mathlib.Nat.{pow-zero, pow-succ', add-mul-mod_self_left, div-div-eq-div-mul}
use Rattle.std.proofs.lemmas.Bool.{eqb-true, eqb-false}
use Rattle.message.specs.Decode.{bit}
use Rattle.message.specs.Encode.{bit_value, bits_value}

pub bits_none : bits_value [] ≡ 0
unfolding bits_value
bits_none = refl

pub bits_append : (xs ys : List Bool) → bits_value (xs ++ ys) ≡ bits_value xs + 2 ^ length xs * bits_value ys
unfolding bits_value
bits_append [] ys = rw (pow-zero 2) (omega arith)
bits_append (x ∷ xs) ys =
    let p = 2 ^ length xs in
    let v = bits_value ys in
    let e : 2 ^ suc (length xs) * v ≡ 2 * (p * v) = ap (λ n. n * v) (pow-succ' 2 (length xs)) ∙ mul_assoc 2 p v in
    omega (arith, bits_append xs ys)

pub bits_push : (xs : List Bool) (b : Bool) → bits_value (xs ++ b ∷ []) ≡ bits_value xs + bit_value b * 2 ^ length xs
unfolding bits_value
bits_push xs true = bits_append xs (true ∷ []) ∙ (let e : 2 ^ length xs * 1 ≡ 2 ^ length xs = omega arith in omega arith)
bits_push xs false = bits_append xs (false ∷ []) ∙ omega arith

pub bits_below : (xs : List Bool) → bits_value xs < 2 ^ length xs
unfolding bits_value
bits_below [] = rw (pow-zero 2) (omega arith)
bits_below (true ∷ xs) = rw (pow-succ' 2 (length xs)) (omega (arith, bits_below xs))
bits_below (false ∷ xs) = rw (pow-succ' 2 (length xs)) (omega (arith, bits_below xs))

-- the lowest bit, and the bits above it
low : (b : Bool) (n : ℕ) → bit (bit_value b + 2 * n) 0 ≡ b
low true n =
    let e : (1 + 2 * n) / 2 ^ 0 ≡ 1 + 2 * n = shr_zero (1 + 2 * n) in
    let f : (1 + 2 * n) % 2 ≡ 1 = add-mul-mod_self_left 1 2 n in
    rw (e, f) refl
  where
    shr_zero : (m : ℕ) → m / 2 ^ 0 ≡ m
    shr_zero m = omega arith
low false n =
    let e : (0 + 2 * n) / 2 ^ 0 ≡ 0 + 2 * n = shr_zero (0 + 2 * n) in
    let f : (0 + 2 * n) % 2 ≡ 0 = add-mul-mod_self_left 0 2 n in
    rw (e, f) refl
  where
    shr_zero : (m : ℕ) → m / 2 ^ 0 ≡ m
    shr_zero m = omega arith

pub bit_half : (m k : ℕ) → bit m (suc k) ≡ bit (m / 2) k
bit_half m k =
    let e : m / 2 / 2 ^ k ≡ m / 2 ^ suc k = div-div-eq-div-mul m 2 (2 ^ k) ∙ ap (λ n. m / n) (sym (pow-succ' 2 k)) in
    ap (λ n. eqb (n % 2) 1) (sym e)

half : (b : Bool) (n : ℕ) → (bit_value b + 2 * n) / 2 ≡ n
half true n = omega arith
half false n = omega arith

pub bit_of_bits : (xs : List Bool) (k : ℕ) → bit (bits_value xs) k ≡ get_or xs k false
unfolding bits_value
bit_of_bits [] k = zeros k
  where
    zeros : (k : ℕ) → bit 0 k ≡ false
    zeros zero = refl
    zeros (suc k) = bit_half 0 k ∙ zeros k
bit_of_bits (x ∷ xs) zero = low x (bits_value xs)
bit_of_bits (x ∷ xs) (suc k) = bit_half (bit_value x + 2 * bits_value xs) k ∙ (ap (λ n. bit n k) (half x (bits_value xs)) ∙ bit_of_bits xs k)

-- a number of as many bits is made by its bits
pub bits_make : (xs : List Bool) (m : ℕ) → m < 2 ^ length xs → ((k : ℕ) → k < length xs → get_or xs k false ≡ bit m k) → bits_value xs ≡ m
unfolding bits_value
bits_make [] m h f = let h' : m < 1 = rw (pow-zero 2) at h in omega arith
bits_make (x ∷ xs) m h f =
    let h' : m < 2 * 2 ^ length xs = rw (pow-succ' 2 (length xs)) at h in
    let t : bits_value xs ≡ m / 2 = bits_make xs (m / 2) (omega arith) (λ k l. f (suc k) (omega arith) ∙ bit_half m k) in
    let x_is : bit_value x ≡ m % 2 = first x (f 0 (omega arith)) in
    omega arith
  where
    first : (b : Bool) → b ≡ bit m 0 → bit_value b ≡ m % 2
    first true e =
        let g : m / 2 ^ 0 % 2 ≡ 1 = eqb-true (m / 2 ^ 0 % 2) 1 (sym e) in
        omega arith
    first false e =
        let g : m / 2 ^ 0 % 2 ≡ 1 → ⊥ = eqb-false (m / 2 ^ 0 % 2) 1 (sym e) in
        omega arith
