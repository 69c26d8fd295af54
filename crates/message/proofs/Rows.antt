-- Columns read one after the other.
use Rattle.std.proofs.Common.{◌≡◌, ℕ, zero, suc, ◌+◌, ◌≤◌, List, [], ◌∷◌, ◌++◌, ℤ, Some, None, refl, subst, ⊎_elim, add-one, arith}
use Rattle.std.proofs.lemmas.Bool.{cases_lt}
use Rattle.message.specs.Decode.{bit, columns, column_field}

module _ (map : ℕ) (bytes : List ℕ) where
  pub columns_none : columns 0 map bytes ≡ Some ([], bytes)
  unfolding columns
  columns_none = refl

  pub columns_more : (k : ℕ) (row : List ℤ) (rest : List ℕ) (v : ℤ) (left : List ℕ) → columns k map bytes ≡ Some (row, rest) → column_field (bit map k) rest ≡ Some (v, left) → columns (k + 1) map bytes ≡ Some (row ++ v ∷ [], left)
  unfolding columns
  columns_more k row rest v left e f = rw (add-one, e, f) refl

  pub columns_stop : (k : ℕ) (row : List ℤ) (rest : List ℕ) → columns k map bytes ≡ Some (row, rest) → column_field (bit map k) rest ≡ None → columns (k + 1) map bytes ≡ None
  unfolding columns
  columns_stop k row rest e f = rw (add-one, e, f) refl

  torn_more : (k : ℕ) → columns k map bytes ≡ None → columns (suc k) map bytes ≡ None
  unfolding columns
  torn_more k e = rw e refl

  pub columns_torn : (n k : ℕ) → k ≤ n → columns k map bytes ≡ None → columns n map bytes ≡ None
  columns_torn zero k h e = let z : k ≡ 0 = omega arith in subst (λ j. columns j map bytes ≡ None) z e
  columns_torn (suc m) k h e =
      ⊎_elim
      (λ l. torn_more m (columns_torn m k (omega arith) e))
      (λ l. let z : k ≡ suc m = omega arith in subst (λ j. columns j map bytes ≡ None) z e)
      (cases_lt k (suc m))
