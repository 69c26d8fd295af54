-- The test of the columns, one after the other.
use Rattle.std.proofs.Common.{◌≡◌, ℕ, Bool, true, false, not, ◌&&◌, ◌||◌, List, [], ◌∷◌, length, get_or, ℤ, pos, ◌+◌, add-one, refl, arith}
use Rattle.std.specs.List.{list_all, enumerate_from}
use Rattle.message.specs.Decode.{bit, column_allowed, columns_allowed}

module _ (map : ℕ) (row : List ℤ) where
  pub ok_none : columns_allowed 0 map row ≡ true
  unfolding columns_allowed
  ok_none = refl

  pub ok_more : (k : ℕ) (t : Bool) → columns_allowed k map row ≡ true → (not (bit map k) || column_allowed (get_or row k (pos 0))) ≡ t → columns_allowed (k + 1) map row ≡ t
  unfolding columns_allowed
  ok_more k t e f = rw (add-one, e) f

-- the test of one column and its number
abbrev pub allowed_at : ℕ → ℕ × ℤ → Bool
allowed_at map p = not (bit map p.0) || column_allowed p.1

regrouped : (a b c d e f g h : Bool) → (a && (b && (c && (d && (e && (f && (g && (h && true)))))))) ≡ (((((((a && b) && c) && d) && e) && f) && g) && h)
regrouped false b c d e f g h = refl
regrouped true false c d e f g h = refl
regrouped true true false d e f g h = refl
regrouped true true true false e f g h = refl
regrouped true true true true false f g h = refl
regrouped true true true true true false g h = refl
regrouped true true true true true true false h = refl
regrouped true true true true true true true false = refl
regrouped true true true true true true true true = refl

pub all_allowed : (map : ℕ) (row : List ℤ) → length row ≡ 8 → list_all (allowed_at map) (enumerate_from 0 row) ≡ columns_allowed 8 map row
unfolding columns_allowed
all_allowed map (a ∷ b ∷ c ∷ d ∷ e ∷ f ∷ g ∷ h ∷ []) eight =
    regrouped (allowed_at map (0, a)) (allowed_at map (1, b)) (allowed_at map (2, c)) (allowed_at map (3, d)) (allowed_at map (4, e)) (allowed_at map (5, f)) (allowed_at map (6, g)) (allowed_at map (7, h))
all_allowed map [] eight = absurd (omega arith)
all_allowed map (a ∷ []) eight = absurd (omega arith)
all_allowed map (a ∷ b ∷ []) eight = absurd (omega arith)
all_allowed map (a ∷ b ∷ c ∷ []) eight = absurd (omega arith)
all_allowed map (a ∷ b ∷ c ∷ d ∷ []) eight = absurd (omega arith)
all_allowed map (a ∷ b ∷ c ∷ d ∷ e ∷ []) eight = absurd (omega arith)
all_allowed map (a ∷ b ∷ c ∷ d ∷ e ∷ f ∷ []) eight = absurd (omega arith)
all_allowed map (a ∷ b ∷ c ∷ d ∷ e ∷ f ∷ g ∷ []) eight = absurd (omega arith)
all_allowed map (a ∷ b ∷ c ∷ d ∷ e ∷ f ∷ g ∷ h ∷ i ∷ row) eight = absurd (omega arith)
