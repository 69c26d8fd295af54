-- Rows made column by column. Assumes nothing.
--     column_listed, column_past      a column of the listed ones, and 0 past them
--     made_row                        a row whose columns are those of a list
use Rattle.std.proofs.Common.{◌≡◌, ℕ, zero, suc, ◌+◌, ◌<◌, ◌≤◌, ◌⊎◌, List, [], ◌∷◌, length, get_or, ℤ, pos, inl, inr, sym, refl, ap, ◌∙◌, subst, arith}
use Rattle.std.specs.Fn.{Mut, Called}
use Rattle.std.specs.Array.{IsFromFnResult, IsFromFnResultFrom}
use Rattle.std.proofs.lemmas.List.{ext_get_or}
use Rattle.std.proofs.lemmas.Bool.{cases_lt}
use Rattle.bag.specs.Order.{Row}
use Rattle.bag.specs.Columns.{column_of, columns_at, padded}
use Rattle.bag.proofs.ColumnKinds.{length_padded}
use Rattle.bag.proofs.ColumnLaws.{column_of_padded}

pub column_listed : (is : List ℕ) (r : Row) (i d : ℕ) → i < length is → column_of r (get_or is i d) ≡ column_of (columns_at is r) i
unfolding columns_at
column_listed [] r i d h = absurd (let z : ⊥ = omega arith in z)
column_listed (j ∷ is) r zero d h = refl
column_listed (j ∷ is) r (suc i) d h = column_listed is r i d (omega arith)

pub column_past : (is : List ℕ) (r : Row) (i : ℕ) → length is ≤ i → pos 0 ≡ column_of (columns_at is r) i
unfolding columns_at
column_past [] r i h = refl
column_past (j ∷ is) r zero h = absurd (let z : ⊥ = omega arith in z)
column_past (j ∷ is) r (suc i) h = column_past is r i (omega arith)

made_at : {F B : Type 0} (g : Mut F (ℕ × Unit {0}) B) (h : ℕ → B) (f : F) (m : ℕ) → ((i : ℕ) (y : B) (q : F) → i < m → Called g f (i, tt) y q → (y ≡ h i) × (q ≡ f)) →
    (ys : List B) (i n : ℕ) → i + n ≡ m → IsFromFnResultFrom g f ys i n → (k : ℕ) (e : B) → i ≤ k → k < m → get_or ys k e ≡ h k
made_at g h f m same ys i zero s r k e l u = absurd (let z : ⊥ = omega arith in z)
made_at g h f m same ys i (suc n) s r k e l u =
    let call = same i r.1 r.0 (omega arith) r.3 in
    by call (cases_lt i k) (λ b. made_at g h f m same ys (i + 1) n (omega arith) (subst (λ q. IsFromFnResultFrom g q ys (i + 1) n) call.1 r.4) k e (omega arith) u)
  where
    by : (r.1 ≡ h i) × (r.0 ≡ f) → (i < k) ⊎ (k ≤ i) → ((i < k) → get_or ys k e ≡ h k) → get_or ys k e ≡ h k
    by call (inl b) rest = rest b
    by call (inr b) rest = let q : k ≡ i = omega arith in ap (λ j. get_or ys j e) q ∙ r.2.1 e ∙ call.0 ∙ ap h (sym q)

pub made_row : {F : Type 0} (g : Mut F (ℕ × Unit {0}) ℤ) (zs : List ℤ) (f : F) → ((i : ℕ) (y : ℤ) (q : F) → i < 8 → Called g f (i, tt) y q → (y ≡ column_of zs i) × (q ≡ f)) →
    (row : Row) → IsFromFnResult g f row 8 → row ≡ padded zs
made_row g zs f same row made =
    ext_get_or (pos 0) row (padded zs) (made.long ∙ sym (length_padded zs)) (λ k l.
    let u : k < 8 = let e = made.long in omega arith in
    made_at g (column_of zs) f 8 same row 0 8 refl made.each k (pos 0) (omega arith) u ∙ sym (column_of_padded zs k u))
