-- The sixteen shelves of ascending lines, and how they change where one key answers otherwise. Assumes nothing.
--     length_shelves, shelf_at, shelf_past      the sixteen shelves, one by one
--     no_lines             they are empty where there is no line
--     one_key_changed      where only one key's answer changes, only its row changes its count
--     lawful_entry, absent_count      what looking up says of counts
use Rattle.std.proofs.Common.{◌≡◌, ℕ, zero, suc, ◌+◌, ◌<◌, ◌≤◌, Bool, true, false, cond, List, [], ◌∷◌, length, get_or, set, replicate, ℤ, pos, ◌+ℤ◌, is_some, Some, None, Option, Equal, sym, refl, ap, ◌∙◌, subst, ⊎_elim, arith}
use lib.IntN.{+ℤ_idl}
use Rattle.std.specs.List.{AllByRecursion}
use Rattle.std.proofs.lemmas.List.{length-set, get_or-set_same, get_or-set_other, get_or_past, ext_get_or}
use Rattle.std.proofs.lemmas.Bool.{cases_eq}
use Rattle.bag.specs.declared.lines.StockLine.{StockLine}
use Rattle.bag.specs.Order.{Row, row_order, stock_line_order}
use Rattle.bag.specs.Bag.{Lines, if_equal, count, add_copies}
use Rattle.bag.specs.RowOrder.{order_itself, order_equal}
use Rattle.bag.proofs.CanonicalForm.{canonical_add_copies, equal_counts}
use Rattle.bag.specs.Integers.{count_add_copies}
use Rattle.table.specs.Order.{Lawful, same_key}
use Rattle.table.specs.Entries.{Ascending, has_key, entry_of}
use Rattle.table.proofs.Lookups.{has_key_entry}
use Rattle.stock.specs.Holding.{LawfulLine}
use Rattle.ordered_stock.specs.OnTable.{on_shelf, shelves_from, shelves_of}
use Rattle.ordered_stock.proofs.KeyParts.{other_shelf, other_row}
use Rattle.stock.proofs.Rows.{not_equal, equal_by}
use Rattle.ordered_stock.proofs.OnShelf.{found_count, count_on_shelf, bag_on_shelf}

length_shelves_from : (s n : ℕ) (xs : List StockLine) → length (shelves_from s n xs) ≡ n
unfolding shelves_from
length_shelves_from s zero xs = refl
length_shelves_from s (suc n) xs = ap suc (length_shelves_from (suc s) n xs)

pub length_shelves : (xs : List StockLine) → length (shelves_of xs) ≡ 16
length_shelves xs = length_shelves_from 0 16 xs

getD_shelves : (s n i : ℕ) (xs : List StockLine) → i < n → get_or (shelves_from s n xs) i [] ≡ on_shelf (s + i) xs
unfolding shelves_from
getD_shelves s zero i xs l = absurd (let z : ⊥ = omega arith in z)
getD_shelves s (suc n) zero xs l = let e : s ≡ s + 0 = omega arith in ap (λ m. on_shelf m xs) e
getD_shelves s (suc n) (suc i) xs l = let e : suc s + i ≡ s + suc i = omega arith in getD_shelves (suc s) n i xs (omega arith) ∙ ap (λ m. on_shelf m xs) e

pub shelf_at : (i : ℕ) (xs : List StockLine) → i ≤ 15 → get_or (shelves_of xs) i [] ≡ on_shelf i xs
shelf_at i xs l = let e : 0 + i ≡ i = omega arith in getD_shelves 0 16 i xs (omega arith) ∙ ap (λ m. on_shelf m xs) e

pub no_lines : shelves_of [] ≡ replicate 16 []
unfolding shelves_from on_shelf
no_lines = refl

pub shelf_past : (i : ℕ) (xs : List StockLine) → 15 < i → get_or (shelves_of xs) i [] ≡ []
shelf_past i xs l = let e = length_shelves xs in get_or_past (shelves_of xs) i [] (omega arith)

one_shelf_changed : (xs ys : List StockLine) (s : ℕ) (b : Lines) → s ≤ 15 → on_shelf s ys ≡ b → ((t : ℕ) → (t ≡ s → ⊥) → on_shelf t ys ≡ on_shelf t xs) → shelves_of ys ≡ set (shelves_of xs) s b
one_shelf_changed xs ys s b l here other =
    let m = length_shelves xs in
    let n = length_shelves ys in
    ext_get_or [] (shelves_of ys) (set (shelves_of xs) s b) (n ∙ sym (length-set (shelves_of xs) s b ∙ m)) (λ i h. by i (omega arith))
  where
    by : (i : ℕ) → i ≤ 15 → get_or (shelves_of ys) i [] ≡ get_or (set (shelves_of xs) s b) i []
    by i h =
        ⊎_elim (λ (e : i ≡ s). let m = length_shelves xs in ap (λ j. get_or (shelves_of ys) j []) e ∙ shelf_at s ys l ∙ here ∙ sym (get_or-set_same (shelves_of xs) s b [] (omega arith)) ∙ ap (λ j. get_or (set (shelves_of xs) s b) j []) (sym e))
        (λ (e : i ≡ s → ⊥). shelf_at i ys h ∙ other i e ∙ sym (shelf_at i xs h) ∙ sym (get_or-set_other (shelves_of xs) s i b [] e))
        (cases_eq i s)

module _ (law : Lawful stock_line_order) (e : StockLine) (xs ys : List StockLine)
    (up : Ascending stock_line_order xs) (vp : Ascending stock_line_order ys) (all : AllByRecursion LawfulLine xs) (bll : AllByRecursion LawfulLine ys)
    (others : (k : StockLine) → same_key stock_line_order k e ≡ false → entry_of stock_line_order k ys ≡ entry_of stock_line_order k xs) where
  abbrev key_at : ℕ → Row → StockLine
  key_at t q = record { shelf = t; row = q; count = 0 }

  counts_kept : (t : ℕ) (q : Row) → same_key stock_line_order (key_at t q) e ≡ false → count (on_shelf t ys) q ≡ count (on_shelf t xs) q
  counts_kept t q h = count_on_shelf law (key_at t q) ys vp ∙ ap (λ o. pos (found_count o)) (others (key_at t q) h) ∙ sym (count_on_shelf law (key_at t q) xs up)

  pub one_key_changed : (z : ℤ) → e.shelf ≤ 15 → pos (found_count (entry_of stock_line_order e ys)) ≡ z +ℤ count (on_shelf e.shelf xs) e.row → shelves_of ys ≡ set (shelves_of xs) e.shelf (add_copies e.row z (on_shelf e.shelf xs))
  one_key_changed z l h =
      one_shelf_changed xs ys e.shelf (add_copies e.row z old) l
      (equal_counts (on_shelf e.shelf ys) (add_copies e.row z old) (bag_on_shelf e.shelf ys vp bll).0 (canonical_add_copies e.row z old (bag_on_shelf e.shelf xs up all).0) (λ q. ⊎_elim (at q) (elsewhere q) (equal_by (row_order e.row q)) ∙ sym (count_add_copies e.row z old q)))
      (λ t ne. equal_counts (on_shelf t ys) (on_shelf t xs) (bag_on_shelf t ys vp bll).0 (bag_on_shelf t xs up all).0 (λ q. counts_kept t q (other_shelf (key_at t q) e ne)))
    where
      old : Lines
      old = on_shelf e.shelf xs

      P : Row → Type 0
      P q = count (on_shelf e.shelf ys) q ≡ if_equal (row_order e.row q) z +ℤ count old q

      at : (q : Row) → row_order e.row q ≡ Equal → P q
      at q same = subst P (order_equal e.row q same) (count_on_shelf law e ys vp ∙ h ∙ sym (ap (λ o. if_equal o z +ℤ count old e.row) (order_itself e.row)))

      elsewhere : (q : Row) → (row_order e.row q ≡ Equal → ⊥) → P q
      elsewhere q ne = counts_kept e.shelf q (other_row (key_at e.shelf q) e ne) ∙ sym (ap (λ n. n +ℤ count old q) (not_equal (row_order e.row q) z ne) ∙ +ℤ_idl (count old q))

pub lawful_entry : (P : StockLine → Type 0) (k : StockLine) (xs : List StockLine) (x : StockLine) → AllByRecursion P xs → entry_of stock_line_order k xs ≡ Some x → P x
lawful_entry P k [] x all h = let z : ◌≡◌ {A = ℕ} 0 1 = cc in absurd (let y : ⊥ = omega arith in y)
lawful_entry P k (y ∷ xs) x all h = by (same_key stock_line_order k y) h (λ q. lawful_entry P k xs x all.1 q)
  where
    by : (b : Bool) → cond b (Some y) (entry_of stock_line_order k xs) ≡ Some x → (entry_of stock_line_order k xs ≡ Some x → P x) → P x
    by true q rec = let e : y ≡ x = cc in subst P e all.0
    by false q rec = rec q

pub absent_count : (k : StockLine) (xs : List StockLine) → has_key stock_line_order k xs ≡ false → found_count (entry_of stock_line_order k xs) ≡ 0
absent_count k xs h = by (entry_of stock_line_order k xs) (sym (has_key_entry stock_line_order k xs) ∙ h)
  where
    by : (o : Option StockLine) → is_some o ≡ false → found_count o ≡ 0
    by None q = refl
    by (Some x) q = let z : ◌≡◌ {A = ℕ} 0 1 = cc in absurd (let y : ⊥ = omega arith in y)

pub most_counted : (k : StockLine) (xs : List StockLine) → AllByRecursion LawfulLine xs → found_count (entry_of stock_line_order k xs) ≤ 65535
most_counted k xs all = by (entry_of stock_line_order k xs) refl
  where
    by : (o : Option StockLine) → entry_of stock_line_order k xs ≡ o → found_count o ≤ 65535
    by None q = omega arith
    by (Some x) q = (lawful_entry LawfulLine k xs x all q).most
