-- Two lawful measures side by side keep the laws of a measure, and the code's steps show and read what they should. Assumes nothing.
--     side_by_side_laws              all of the laws
--     columns_as_far, columns_are    the columns of a pair that fits, where the first leaves room, and below eight columns
--     shown_both                     what is shown, from what the parts show
--     read_both                      what is read, from what the parts read
use Rattle.std.specs.Prelude.{◌≡◌, ℕ, ◌+◌, ◌<◌, ◌≤◌, min, Bool, true, false, cond, ◌&&◌, ◌⊎◌, List, [], ◌∷◌, ◌++◌, length, take, drop, ℤ, Some, None}
use Rattle.std.proofs.Common.{sym, ap, ap₂, ◌∙◌, inl, inr, arith}
use Rattle.std.proofs.lemmas.List.{length-append, take_all, take-take, take_at, drop_at, drop-take}
use Rattle.std.proofs.lemmas.Bool.{and_parts, cases_lt}
use Rattle.bag.specs.Order.{Row}
use Rattle.bag.specs.Columns.{padded, followed}
use Rattle.bag.specs.Group.{GroupLaws, AddsUp}
use Rattle.bag.specs.Measure.{Measure, MeasureLaws, ShowingLaws, ShownColumns}
use Rattle.measure.specs.Shown.{shown, read_from}
use Rattle.measure.specs.SideBySide.{exactly, OkPair, beside, side_by_side}
use Rattle.measure.specs.Rows.{padded_behind, exactly_self, exactly_take, length_exactly}

pair : {V W : Type 0} {a b : V} {c d : W} → a ≡ b → c ≡ d → ◌≡◌ {A = V × W} (a, c) (b, d)
pair {V = V} {W = W} p q = ap₂ {C = V × W} (λ x y. (x, y)) p q

shown-++ : (a b : List ℤ) → ShownColumns a → ShownColumns b → ShownColumns (a ++ b)
shown-++ [] b h k = k
shown-++ (c ∷ a) b h k = (h.0, shown-++ a b h.1 k)

module _ {V W : Type 0} {ok : V → Type 0} {ok' : W → Type 0} (A : Measure V) (B : Measure W) (L : MeasureLaws ok A) (K : MeasureLaws ok' B) where
  group : GroupLaws (OkPair ok ok') (beside A.group B.group)
  group = record {
    ok_zero = (G.ok_zero, H.ok_zero);
    ok_plus = λ x y a b. (G.ok_plus x.0 y.0 a.0 b.0, H.ok_plus x.1 y.1 a.1 b.1);
    ok_minus = λ x a. (G.ok_minus x.0 a.0, H.ok_minus x.1 a.1);
    associative = λ x y z a b c. pair (G.associative x.0 y.0 z.0 a.0 b.0 c.0) (H.associative x.1 y.1 z.1 a.1 b.1 c.1);
    commutative = λ x y a b. pair (G.commutative x.0 y.0 a.0 b.0) (H.commutative x.1 y.1 a.1 b.1);
    neutral = λ x a. pair (G.neutral x.0 a.0) (H.neutral x.1 a.1);
    inverse = λ x a. pair (G.inverse x.0 a.0) (H.inverse x.1 a.1);
  }
    where
      G : GroupLaws ok A.group
      G = L.group_laws

      H : GroupLaws ok' B.group
      H = K.group_laws

  copies : AddsUp (OkPair ok ok') (beside A.group B.group) (side_by_side A B).worth
  copies = record {
    ok_worth = λ v n. (L.adds_up.ok_worth v n, K.adds_up.ok_worth v n);
    at_zero = λ v. pair (L.adds_up.at_zero v) (K.adds_up.at_zero v);
    adds = λ v m n. pair (L.adds_up.adds v m n) (K.adds_up.adds v m n);
  }

  -- where the value fits, its columns are the first's and then the second's, as far as there is room
  pub columns_as_far : A.shows < 8 → (v : V × W) → OkPair ok ok' v → (side_by_side A B).fits v ≡ true → (side_by_side A B).columns v ≡ A.columns v.0 ++ B.columns v.1
  columns_as_far less v a f =
      let t = and_parts (A.fits v.0) (B.fits v.1) f in
      ap (λ zs. zs ++ B.columns v.1) (exactly_self A.shows (A.columns v.0) ((L.showing less).as_many v.0 a.0 t.0) (omega arith))

  module _ (few : A.shows + B.shows < 8) where
    S : ShowingLaws ok A
    S = L.showing (omega arith)

    T : ShowingLaws ok' B
    T = K.showing (omega arith)

    many : (v : V × W) → OkPair ok ok' v → (side_by_side A B).fits v ≡ true → length ((side_by_side A B).columns v) ≡ min 8 (A.shows + B.shows)
    many v a f =
        let t = and_parts (A.fits v.0) (B.fits v.1) f in
        let e = length-append (exactly A.shows (A.columns v.0)) (B.columns v.1) in
        let p = length_exactly A.shows (A.columns v.0) (omega arith) in
        let q = T.as_many v.1 a.1 t.1 in omega arith

    -- where the value fits, its columns are the first's and then the second's
    pub columns_are : (v : V × W) → OkPair ok ok' v → (side_by_side A B).fits v ≡ true → (side_by_side A B).columns v ≡ A.columns v.0 ++ B.columns v.1
    columns_are v a f = columns_as_far (omega arith) v a f

    back : (v : V × W) → OkPair ok ok' v → (side_by_side A B).fits v ≡ true → (side_by_side A B).reads ((side_by_side A B).columns v) ≡ v
    back v a f =
        ap (side_by_side A B).reads (columns_are v a f)
        ∙ pair
        (ap A.reads (take_at (A.columns v.0) (B.columns v.1) A.shows p) ∙ S.read_back v.0 a.0 t.0)
        (ap (λ zs. B.reads (exactly B.shows zs)) (drop_at (A.columns v.0) (B.columns v.1) A.shows p)
        ∙ ap B.reads (exactly_self B.shows (B.columns v.1) (T.as_many v.1 a.1 t.1) (omega arith))
        ∙ T.read_back v.1 a.1 t.1)
      where
        t : (A.fits v.0 ≡ true) × (B.fits v.1 ≡ true)
        t = and_parts (A.fits v.0) (B.fits v.1) f

        p : length (A.columns v.0) ≡ A.shows
        p = S.as_many v.0 a.0 t.0

    lowest : (v : V × W) → OkPair ok ok' v → (side_by_side A B).fits v ≡ true → ShownColumns ((side_by_side A B).columns v)
    lowest v a f =
        let t = and_parts (A.fits v.0) (B.fits v.1) f in
        rw (columns_are v a f) (shown-++ (A.columns v.0) (B.columns v.1) (S.never_lowest v.0 a.0 t.0) (T.never_lowest v.1 a.1 t.1))

    showing : ShowingLaws (OkPair ok ok') (side_by_side A B)
    showing = record { as_many = many; read_back = back; never_lowest = lowest; zero_fits = ap₂ (λ a b. a && b) S.zero_fits T.zero_fits }

  pub side_by_side_laws : MeasureLaws (OkPair ok ok') (side_by_side A B)
  side_by_side_laws = record { group_laws = group; adds_up = copies; at_most_eight = omega arith; showing = λ few. showing (omega arith) }

module _ {V W : Type 0} (A : Measure V) (B : Measure W) (v : V × W) where
  pub shown_both : (a b : Row) → shown A v.0 ≡ Some a → shown B v.1 ≡ Some b → Some (followed A.shows a b) ≡ shown (side_by_side A B) v
  shown_both a b d e = by (A.fits v.0) (B.fits v.1) d e
    where
      by : (p q : Bool) → cond p (Some (padded (A.columns v.0))) None ≡ Some a → cond q (Some (padded (B.columns v.1))) None ≡ Some b → Some (followed A.shows a b) ≡ cond (p && q) (Some (padded ((side_by_side A B).columns v))) None
      by true true d e =
          let x : padded (A.columns v.0) ≡ a = cc in
          let y : padded (B.columns v.1) ≡ b = cc in
          sym (ap₂ (λ a b. Some (followed A.shows a b)) x y) ∙ ap Some (padded_behind (exactly A.shows (A.columns v.0)) (B.columns v.1))
      by true false d e = let z : ◌≡◌ {A = ℕ} 0 1 = cc in absurd (omega arith)
      by false q d e = let z : ◌≡◌ {A = ℕ} 0 1 = cc in absurd (omega arith)

module _ {V W : Type 0} (A : Measure V) (B : Measure W) (row : Row) (few : A.shows ≤ 8) (long : length row ≡ 8) where
  pub read_both : ◌≡◌ {A = V × W} (read_from A row, read_from B (padded (drop A.shows row))) (read_from (side_by_side A B) row)
  read_both = pair (sym (ap A.reads (take-take A.shows (min 8 (A.shows + B.shows)) row (omega arith)))) (ap B.reads (by (cases_lt (A.shows + B.shows) 8)))
    where
      by : (A.shows + B.shows < 8) ⊎ (8 ≤ A.shows + B.shows) → exactly B.shows (drop A.shows row) ≡ exactly B.shows (drop A.shows (take (min 8 (A.shows + B.shows)) row))
      by (inl h) =
          let e : min 8 (A.shows + B.shows) ≡ A.shows + B.shows = omega arith in
          sym (ap (λ n. exactly B.shows (drop A.shows (take n row))) e ∙ ap (exactly B.shows) (drop-take A.shows B.shows row) ∙ exactly_take B.shows (drop A.shows row))
      by (inr h) = ap (λ zs. exactly B.shows (drop A.shows zs)) (sym (take_all (min 8 (A.shows + B.shows)) row (omega arith)))
