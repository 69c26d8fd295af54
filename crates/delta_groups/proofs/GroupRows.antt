-- Rows of groups as code makes and reads them. Assumes nothing.
--     made_row        the values, the copies, and what the measure shows
--     below_is        the row below a group
--     front_is, belongs_is      whether a row begins with the values of a group
--     shown_is        what stands behind the copies
--     row_is          the row of a group that has copies, if its value fits
--     read_is, read_some      copies and value of a group, read from a row, and from the row that a look finds
use Rattle.std.proofs.Common.{◌≡◌, ℕ, suc, ◌+◌, ◌-◌, ◌≤◌, Bool, true, false, cond, List, [], ◌∷◌, ◌++◌, length, take, drop, replicate, ℤ, pos, negsuc, Some, None, Option, sym, ap, ◌∙◌, ap₂, append_assoc, arith, take-take}
use lib.Seq.{take-append-add}
use Rattle.std.proofs.lemmas.List.{length-append, length-take, length-drop, length-replicate, take-append-le, take-replicate}
use Rattle.std.specs.Ordering.{is_eq}
use Rattle.std.specs.Option.{option_map}
use Rattle.bag.specs.Order.{Row, row_order}
use Rattle.bag.specs.Columns.{column_of, padded, followed}
use Rattle.bag.specs.Bag.{Line, is_zero}
use Rattle.bag.specs.Measure.{Measure}
use Rattle.bag.specs.Propagation.{below_group, read_row}
use Rattle.bag.proofs.GroupKeys.{take_padded, order_keys}
use Rattle.stock.specs.Holding.{row_and_count}
use Rattle.measure.specs.Shown.{shown}
use Rattle.measure.specs.Rows.{padded_behind}
use Rattle.delta_groups.specs.Groups.{IsGroup, RoomForGroup, row_if_fits, row_if_there}

pub made_row : (a : List ℤ) (c : ℤ) (cols : List ℤ) → padded (a ++ padded (c ∷ padded cols)) ≡ padded (a ++ (c ∷ cols))
made_row a c cols =
    padded_behind a (c ∷ padded cols) ∙ ap padded (sym (append_assoc a (c ∷ []) (padded cols))) ∙ padded_behind (a ++ (c ∷ [])) cols
    ∙ ap padded (append_assoc a (c ∷ []) cols)

-- eight columns or more need no zeros behind them
pub padded_long : (a : List ℤ) → 8 ≤ length a → padded a ≡ take 8 a
padded_long a h = take-append-le 8 a (replicate 8 (pos 0)) h

front_long : (a : List ℤ) (z : ℤ) → 8 ≤ length (a ++ replicate 8 z)
front_long a z = let l = length-append a (replicate 8 z) in let m = length-replicate 8 z in omega arith

pub below_is : (n : ℕ) (k : Row) → length k ≡ 8 → n ≤ 8 → followed n k (replicate 8 (negsuc 2147483647)) ≡ below_group n k
below_is n k e h =
    let z = negsuc 2147483647 in
    let t = length-take n k in
    let l : 8 ≡ length (take n k) + (8 - n) = omega arith in
    padded_long (take n k ++ replicate 8 z) (front_long (take n k) z)
    ∙ ap (λ j. take j (take n k ++ replicate 8 z)) l
    ∙ take-append-add (take n k) (replicate 8 z) (8 - n)
    ∙ ap (λ x. take n k ++ x) (take-replicate (8 - n) 8 z (omega arith))

pub front_is : (n : ℕ) (r : Row) → followed n r (replicate 8 (pos 0)) ≡ padded (take n r)
front_is n r = padded_long (take n r ++ replicate 8 (pos 0)) (front_long (take n r) (pos 0))

pub belongs_is : (n : ℕ) (r k : Row) → n ≤ 7 → length r ≡ 8 → IsGroup n k → is_eq (row_order (padded (take n r)) k) ≡ is_eq (row_order (take n r) (take n k))
belongs_is n r k h e key =
    let l : length (take n r) ≡ n = let t = length-take n r in omega arith in
    let t = take_padded (take n r) n l (omega arith) in
    ap is_eq (order_keys n h (padded (take n r)) k (ap length t ∙ l, ap padded (sym t)) key ∙ ap (λ x. row_order x (take n k)) t)

pub shown_is : (n m : ℕ) (r : Row) → n + 1 + m ≤ 8 → length r ≡ 8 → take m (padded (drop (suc n) r)) ≡ take m (drop (suc n) r)
shown_is n m r h e =
    let l = length-drop (suc n) r in
    take-take m 8 (drop (suc n) r ++ replicate 8 (pos 0)) (omega arith) ∙ take-append-le m (drop (suc n) r) (replicate 8 (pos 0)) (omega arith)

module _ {V : Type 0} (M : Measure V) (n : ℕ) (k : Row) where
  pub row_is : (c z : ℤ) (v : V) (s behind row : Row) → is_zero c ≡ false → Some s ≡ shown M v → behind ≡ padded (z ∷ s) → z ≡ c → row ≡ followed n k behind → Some row ≡ row_if_there M n k c v
  row_is c z v s behind row some is e f g = by (M.fits v) is ∙ sym (ap (λ t. cond t None (row_if_fits M n k c v)) some)
    where
      by : (t : Bool) → Some s ≡ cond t (Some (padded (M.columns v))) None → Some row ≡ cond t (Some (padded (take n k ++ (c ∷ M.columns v)))) None
      by true q =
          let p : s ≡ padded (M.columns v) = cc in
          ap Some (g ∙ ap (λ x. padded (take n k ++ x)) (e ∙ ap₂ (λ x y. padded (x ∷ y)) f p) ∙ made_row (take n k) c (M.columns v))
      by false q = let z : ◌≡◌ {A = ℕ} 0 1 = cc in absurd (let w : ⊥ = omega arith in w)

  pub read_is : (r : Row) (m c : ℤ) (v : V) (s : Row) → RoomForGroup M n → length r ≡ 8 → true ≡ is_eq (row_order (take n r) (take n k)) → c ≡ column_of r n → s ≡ padded (drop (n + 1) r) → v ≡ M.reads (take M.shows s) →
      ◌≡◌ {A = ℤ × V} (c, v) (read_row M n k (Some (r, m)))
  read_is r m c v s room e t p q w =
      let one : n + 1 ≡ suc n = omega arith in
      ap₂ {C = ℤ × V} (λ x y. (x, y)) p (w ∙ ap (λ x. M.reads (take M.shows x)) (q ∙ ap (λ j. padded (drop j r)) one) ∙ ap M.reads (shown_is n M.shows r room e))
      ∙ ap (λ b. cond b (column_of r n, M.reads (take M.shows (drop (suc n) r))) (pos 0, M.group.zero)) t

  pub read_some : (o : Option Line) (found : Row × ℕ) (x : ℤ × V) → Some found ≡ option_map row_and_count o → ((m : ℤ) → x ≡ read_row M n k (Some (found.0, m))) → x ≡ read_row M n k o
  read_some None found x q h = let z : ◌≡◌ {A = ℕ} 0 1 = cc in absurd (let w : ⊥ = omega arith in w)
  read_some (Some e) found x q h =
      let p : found ≡ row_and_count e = cc in
      h e.1 ∙ ap (λ (f : Row × ℕ). read_row M n k (Some (f.0, e.1))) p
