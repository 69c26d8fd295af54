-- Rows of eight columns, column by column. Assumes nothing.
--     padded_same, padded_behind     only eight columns matter, and no zero behind them
--     exactly_within, exactly_self, exactly_take, length_exactly      as many columns as asked for
use Rattle.std.specs.Prelude.{◌≡◌, ℕ, zero, suc, ◌<◌, ◌≤◌, min, List, [], ◌∷◌, ◌++◌, length, take, replicate, ℤ, pos, refl}
use Rattle.std.proofs.Common.{sym, ap, ◌∙◌, arith}
use Rattle.std.proofs.lemmas.List.{ext_get_or, get_or-take, length-take, take-take, take_all, take-append-le}
use Rattle.bag.specs.Columns.{column_of, padded}
use Rattle.bag.proofs.ColumnKinds.{length_padded}
use Rattle.bag.proofs.ColumnLaws.{column_of_padded}
use Rattle.measure.specs.SideBySide.{exactly}

pub padded_same : (xs ys : List ℤ) → ((i : ℕ) → i < 8 → column_of xs i ≡ column_of ys i) → padded xs ≡ padded ys
padded_same xs ys h =
    ext_get_or (pos 0) (padded xs) (padded ys) (length_padded xs ∙ sym (length_padded ys)) (λ i l. let e = length_padded xs in let k : i < 8 = omega arith in column_of_padded xs i k ∙ h i k ∙ sym (column_of_padded ys i k))

pub padded_behind : (xs zs : List ℤ) → padded (xs ++ padded zs) ≡ padded (xs ++ zs)
padded_behind xs zs = padded_same (xs ++ padded zs) (xs ++ zs) (same xs)
  where
    same : (xs : List ℤ) (i : ℕ) → i < 8 → column_of (xs ++ padded zs) i ≡ column_of (xs ++ zs) i
    same [] i h = column_of_padded zs i h
    same (x ∷ xs) zero h = refl
    same (x ∷ xs) (suc i) h = same xs i (omega arith)

pub exactly_within : (k : ℕ) (zs : List ℤ) → k ≤ length zs → k ≤ 8 → exactly k zs ≡ take k zs
exactly_within k zs l h = take-take k 8 (zs ++ replicate 8 (pos 0)) h ∙ take-append-le k zs (replicate 8 (pos 0)) l

pub exactly_self : (k : ℕ) (zs : List ℤ) → length zs ≡ k → k ≤ 8 → exactly k zs ≡ zs
exactly_self k zs e h = exactly_within k zs (omega arith) h ∙ take_all k zs (omega arith)

pub exactly_take : (k : ℕ) (zs : List ℤ) → exactly k (take k zs) ≡ exactly k zs
exactly_take k zs =
    ext_get_or (pos 0) (exactly k (take k zs)) (exactly k zs) (long (take k zs) ∙ sym (long zs)) (λ i l. column i (omega (arith, long (take k zs))) (omega (arith, long (take k zs))))
  where
    long : (ys : List ℤ) → length (exactly k ys) ≡ min k 8
    long ys = length-take k (padded ys) ∙ ap (min k) (length_padded ys)

    column : (i : ℕ) → i < k → i < 8 → column_of (exactly k (take k zs)) i ≡ column_of (exactly k zs) i
    column i l h =
        get_or-take k (padded (take k zs)) i (pos 0) l ∙ column_of_padded (take k zs) i h ∙ get_or-take k zs i (pos 0) l
        ∙ sym (get_or-take k (padded zs) i (pos 0) l ∙ column_of_padded zs i h)

pub length_exactly : (k : ℕ) (zs : List ℤ) → k ≤ 8 → length (exactly k zs) ≡ k
length_exactly k zs h = length-take k (padded zs) ∙ ap (min k) (length_padded zs) ∙ omega arith
