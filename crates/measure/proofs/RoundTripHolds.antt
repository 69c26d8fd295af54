-- A value that is shown comes back from its row, and the row is as owed. Assumes nothing.
--     round_trip        the law, of every measure with fewer than eight columns
--     row_of            the row of a value that fits
use Rattle.std.proofs.Common.{◌≡◌, ℕ, zero, suc, ◌<◌, Bool, true, false, cond, List, [], ◌∷◌, length, ℤ, pos, negsuc, nat_abs, Some, None, sym, refl, ap, ◌∙◌, arith}
use Rattle.std.proofs.lemmas.List.{get_or_past}
use Rattle.bag.specs.Order.{Row}
use Rattle.bag.specs.Columns.{column_of, padded}
use Rattle.bag.specs.Measure.{Measure, MeasureLaws, ShowingLaws, ShownColumn, ShownColumns}
use Rattle.bag.proofs.ColumnLaws.{column_of_padded}
use Rattle.bag.proofs.Widths.{width_padded}
use Rattle.measure.specs.Shown.{read_from}
use Rattle.measure.specs.RoundTrip.{RowOf, RoundTrip}
use Rattle.measure.specs.Rows.{exactly_self}

shown_at : (zs : List ℤ) (j : ℕ) → ShownColumns zs → j < length zs → ShownColumn (column_of zs j)
shown_at [] j h l = absurd (omega arith)
shown_at (z ∷ zs) zero h l = h.0
shown_at (z ∷ zs) (suc j) h l = shown_at zs j h.1 (omega arith)

not_lowest : (c : ℤ) → ShownColumn c → c ≡ negsuc 2147483647 → ⊥
not_lowest c h e = let k : nat_abs c ≡ 2147483648 = ap nat_abs e in absurd (omega arith)

module _ {V : Type 0} {ok : V → Type 0} (M : Measure V) (L : MeasureLaws ok M) (few : M.shows < 8) where
  S : ShowingLaws ok M
  S = L.showing few

  comes_back : (v : V) → ok v → M.fits v ≡ true → read_from M (padded (M.columns v)) ≡ v
  comes_back v a f = ap M.reads (exactly_self M.shows (M.columns v) (S.as_many v a f) (omega arith)) ∙ S.read_back v a f

  row_of : (v : V) → ok v → M.fits v ≡ true → RowOf M v (padded (M.columns v))
  row_of v a f = record {
    reads_back = comes_back v a f;
    zero_behind = width_padded M.shows (M.columns v) (λ j h. get_or_past (M.columns v) j (pos 0) (let e = S.as_many v a f in omega arith));
    never_lowest = λ j h e.
        let l = S.as_many v a f in
        not_lowest (column_of (M.columns v) j) (shown_at (M.columns v) j (S.never_lowest v a f) (omega arith)) (sym (column_of_padded (M.columns v) j (omega arith)) ∙ e);
  }

  pub round_trip : RoundTrip ok M
  round_trip = record { of_each_value = λ v a row e. by v a row (M.fits v) refl e; zero_is_shown = ap (λ t. cond t (Some (padded (M.columns M.group.zero))) None) S.zero_fits }
    where
      by : (v : V) → ok v → (row : Row) (t : Bool) → M.fits v ≡ t → cond t (Some (padded (M.columns v))) None ≡ Some row → RowOf M v row
      by v a row true f e = let r : padded (M.columns v) ≡ row = cc in rw (sym r) (row_of v a f)
      by v a row false f e = let z : ◌≡◌ {A = ℕ} 0 1 = cc in absurd (omega arith)
