-- Side by side: two measures of the same numbers, whose values are pairs. Assumes nothing.
--     side_by_side A B      the measure
--     beside G H            its group: each part in its own group
--     OkPair ok ok' v       each part is a value of which its measure's laws are asked
--     exactly k zs          k columns: those of zs, then 0, cut off behind k
use Rattle.std.specs.Prelude.{ℕ, ◌+◌, min, ◌&&◌, List, ◌++◌, take, drop, ℤ}
use Rattle.bag.specs.Columns.{padded}
use Rattle.bag.specs.Group.{Group}
use Rattle.bag.specs.Measure.{Measure}

abbrev pub exactly : ℕ → List ℤ → List ℤ
exactly k zs = take k (padded zs)

module _ {V W : Type 0} where
  abbrev pub OkPair : (V → Type 0) → (W → Type 0) → V × W → Type 0
  OkPair ok ok' v = ok v.0 × ok' v.1

  abbrev pub beside : Group V → Group W → Group (V × W)
  beside G H = record {
    zero = (G.zero, H.zero);
    plus = λ a b. (G.plus a.0 b.0, H.plus a.1 b.1);
    minus = λ a. (G.minus a.0, H.minus a.1);
  }

  -- A measure whose value fits shows exactly K columns, so the columns are the first's and then the second's. Past eight columns
  -- the pair is free of the rules on showing: a row then has the front of them, and `reads` takes those that are missing as 0.
  abbrev pub side_by_side : Measure V → Measure W → Measure (V × W)
  side_by_side A B = record {
    group = beside A.group B.group;
    worth = λ v n. (A.worth v n, B.worth v n);
    fits = λ v. A.fits v.0 && B.fits v.1;
    shows = min 8 (A.shows + B.shows);
    columns = λ v. exactly A.shows (A.columns v.0) ++ B.columns v.1;
    reads = λ columns. (A.reads (take A.shows columns), B.reads (exactly B.shows (drop A.shows columns)));
  }
