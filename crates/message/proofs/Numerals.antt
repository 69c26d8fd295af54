-- Numbers in bytes, there and back.
use Rattle.std.proofs.Common.{◌≡◌, ℕ, ◌+◌, ◌*◌, ◌/◌, ◌%◌, ◌^◌, ◌<◌, List, [], ◌∷◌, ◌++◌, ℤ, Some, refl, subst, mod-eq_of_lt, arith, w32, SFits, to_z, of_z}
use Rattle.std.proofs.lemmas.Int.{to_z-of_z, of_z-to_z, ints}
use Rattle.std.proofs.lemmas.Nat.{shr-shr, shr_split, shr_below}
use Rattle.bag.specs.Bytes.{first_four, first_two, in_four, in_two}

-- a number of four bytes is the sum of its bytes
digits : (n : ℕ) → n < 2 ^ 32 → n / 16777216 % 256 * 16777216 + n / 65536 % 256 * 65536 + n / 256 % 256 * 256 + n % 256 ≡ n
digits n h =
    let q : n / 256 / 256 ≡ n / 65536 = shr-shr n 8 8 in
    let r : n / 65536 / 256 ≡ n / 16777216 = shr-shr n 16 8 in
    let a : n / 256 * 256 + n % 256 ≡ n = shr_split n 8 in
    let b : n / 65536 * 256 + n / 256 % 256 ≡ n / 256 = subst (λ m. m * 256 + n / 256 % 256 ≡ n / 256) q (shr_split (n / 256) 8) in
    let d : n / 16777216 * 256 + n / 65536 % 256 ≡ n / 65536 = subst (λ m. m * 256 + n / 65536 % 256 ≡ n / 65536) r (shr_split (n / 65536) 8) in
    let t : n / 16777216 < 256 = shr_below n 8 24 h in
    let u : n / 16777216 % 256 ≡ n / 16777216 = mod-eq_of_lt t in
    omega arith

ofZ_below : (v : ℤ) → SFits w32 v → of_z w32 v < 2 ^ 32
ofZ_below v f = omega (arith, ints)

pub four_read : (v : ℤ) (rest : List ℕ) → SFits w32 v → first_four (in_four v ++ rest) ≡ Some (v, rest)
four_read v rest f = rw (digits (of_z w32 v) (ofZ_below v f), to_z-of_z w32 v f) refl

pub two_read : (n : ℕ) (rest : List ℕ) → n < 65536 → first_two (in_two n ++ rest) ≡ Some (n, rest)
two_read n rest h = let e : n / 256 % 256 * 256 + n % 256 ≡ n = omega arith in rw e refl

pub two_written : (a b : ℕ) → a < 256 → b < 256 → in_two (a * 256 + b) ≡ a ∷ b ∷ []
two_written a b h k =
    let x : (a * 256 + b) / 256 % 256 ≡ a = omega arith in
    let y : (a * 256 + b) % 256 ≡ b = omega arith in
    rw (x, y) refl

pub four_written : (a b c d : ℕ) → a < 256 → b < 256 → c < 256 → d < 256 → in_four (to_z w32 (a * 16777216 + b * 65536 + c * 256 + d)) ≡ a ∷ b ∷ c ∷ d ∷ []
four_written a b c d ha hb hc hd =
    let n = a * 16777216 + b * 65536 + c * 256 + d in
    let e : of_z w32 (to_z w32 n) ≡ n = of_z-to_z w32 n (omega arith) in
    let x : n / 16777216 % 256 ≡ a = omega arith in
    let y : n / 65536 % 256 ≡ b = omega arith in
    let z : n / 256 % 256 ≡ c = omega arith in
    let w : n % 256 ≡ d = omega arith in
    rw (e, x, y, z, w) refl
