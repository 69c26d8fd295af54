-- Which columns agree, and which stand where in a row that is listed or joined. Assumes nothing.
--     column_of_padded      filling up with zeros changes no column
--     column_followed_front, column_followed_behind      the columns of a row that is followed by another
--     columns_are_as_said   the law
use Rattle.std.proofs.Common.{◌≡◌, ℕ, zero, suc, ◌-◌, ◌<◌, ◌≤◌, List, [], ◌∷◌, ◌++◌, length, get_or, take, replicate, ℤ, pos, Decides, sym, refl, ◌∙◌, ⊎_elim, arith}
use Rattle.std.specs.List.{AllByRecursion}
use Rattle.std.proofs.lemmas.List.{get_or_append_left, get_or-append_right, get_or-take, get_or_past, length-take}
use Rattle.std.proofs.lemmas.Bool.{cases_lt}
use Rattle.std.proofs.lemmas.Bool.Decides.{Decides-and}
use Rattle.bag.specs.Order.{Row}
use Rattle.bag.specs.Condition.{same_number}
use Rattle.bag.specs.Columns.{column_of, columns_at, padded, followed, agree}
use Rattle.bag.specs.Laws.{ColumnsAreAsSaid}
use Rattle.bag.proofs.Conditions.{same_number_decides}

zeros : (n k : ℕ) → get_or (replicate n (pos 0)) k (pos 0) ≡ pos 0
zeros zero k = refl
zeros (suc n) zero = refl
zeros (suc n) (suc k) = zeros n k

behind_zeros : (zs : List ℤ) (n i : ℕ) → column_of (zs ++ replicate n (pos 0)) i ≡ column_of zs i
behind_zeros zs n i =
    ⊎_elim
    (λ h. get_or_append_left zs (replicate n (pos 0)) (pos 0) i h)
    (λ h. get_or-append_right zs (replicate n (pos 0)) (length zs) i (pos 0) refl h ∙ (zeros n (i - length zs) ∙ sym (get_or_past zs i (pos 0) h)))
    (cases_lt i (length zs))

pub column_of_padded : (zs : List ℤ) (i : ℕ) → i < 8 → column_of (padded zs) i ≡ column_of zs i
column_of_padded zs i h = get_or-take 8 (zs ++ replicate 8 (pos 0)) i (pos 0) h ∙ behind_zeros zs 8 i

column_at : (is : List ℕ) (r : Row) (i d : ℕ) → i < length is → column_of (columns_at is r) i ≡ column_of r (get_or is i d)
unfolding columns_at
column_at [] r i d h = absurd (omega arith)
column_at (j ∷ is) r zero d h = refl
column_at (j ∷ is) r (suc i) d h = column_at is r i d (omega arith)

agreeing : (ps : List (ℕ × ℕ)) (a b : Row) → Decides (agree ps a b) (AllByRecursion (λ p. column_of a p.0 ≡ column_of b p.1) ps)
unfolding agree
agreeing [] a b = ((λ e. tt), (λ h. refl))
agreeing (p ∷ ps) a b =
    Decides-and (same_number (column_of a p.0) (column_of b p.1)) (agree ps a b) (same_number_decides (column_of a p.0) (column_of b p.1)) (agreeing ps a b)

pub column_followed_front : (w : ℕ) (a b : Row) (i : ℕ) → length a ≡ 8 → i < 8 → i < w → column_of (followed w a b) i ≡ column_of a i
column_followed_front w a b i e h l =
    column_of_padded (take w a ++ b) i h ∙ get_or_append_left (take w a) b (pos 0) i (omega (arith, length-take w a)) ∙ get_or-take w a i (pos 0) l

pub column_followed_behind : (w : ℕ) (a b : Row) (i : ℕ) → length a ≡ 8 → i < 8 → w ≤ i → column_of (followed w a b) i ≡ column_of b (i - w)
column_followed_behind w a b i e h l =
    column_of_padded (take w a ++ b) i h ∙ get_or-append_right (take w a) b w i (pos 0) (omega (arith, length-take w a)) l

pub columns_are_as_said : ColumnsAreAsSaid
columns_are_as_said = record {
  agreeing = agreeing;
  of_listed = λ is r i d h k. column_of_padded (columns_at is r) i k ∙ column_at is r i d h;
  of_left = column_followed_front;
  of_right = column_followed_behind;
}
