-- What stored lines count: the copies of a row on a shelf, summed over the lines. Assumes nothing.
--     tally t q ls, worth t q s r z      the copies of q on shelf t in the lines; in z copies of r on shelf s
--     tally_none, tally_found            a row without a line counts 0, a row with one what that line says
--     shelf_count                        the bags of the shelves count the same
--     shelves_moved                      lines that count as many copies more have the shelves with those copies added
--     lines_are_length                   there are as many lines as are stored
use Rattle.std.proofs.Common.{◌≡◌, ℕ, zero, suc, ◌+◌, ◌<◌, ◌≤◌, Bool, true, false, cond, eqb, ◌⊎◌, List, [], ◌∷◌, ◌++◌, length, get_or, set, ℤ, pos, ◌+ℤ◌, ◌≤ℤ◌, Ordering, Less, Equal, Greater, sym, refl, ap, ◌∙◌, subst, inl, inr, arith}
use lib.IntN.{+ℤ_idr}
use Rattle.std.specs.List.{flat_map, AllByRecursion}
use Rattle.std.proofs.lemmas.Int.{ints}
use Rattle.std.proofs.lemmas.Bool.{cases_eq, cases_lt, eq-eqb, ne_eqb}
use Rattle.std.proofs.lemmas.List.{ext_get_or, get_or_past, get_or-set_same, get_or-set_other, length-set}
use Rattle.std.proofs.ByRecursion.{All-get_or}
use Rattle.std.proofs.lemmas.List.FromFn.{length-map-range_with_len, get_or-map-range_with_len}
use Rattle.bag.specs.Order.{Row, row_order}
use Rattle.bag.specs.Bag.{Lines, is_zero, if_equal, copies_at, count, add_copies, collect, Canonical}
use Rattle.bag.specs.Lines.{blank_stock_line}
use Rattle.bag.specs.declared.lines.StockLine.{StockLine}
use Rattle.bag.specs.RowOrder.{order_equal, order_itself}
use Rattle.bag.proofs.CanonicalForm.{canonical_add_copies, canonical_collect, equal_counts}
use Rattle.bag.specs.Integers.{count_add_copies, count_collect, count-++}
use Rattle.bag.proofs.NextRow.{length_new}
use Rattle.stock.specs.Holding.{lines_on}
use Rattle.stock.specs.Holding.{LawfulLine}
use Rattle.byte_stock.specs.ByteStored.{Stored, line_of, Apart, put_on, line_on, bag_on, shelves_of}

abbrev pub tally : ℕ → Row → Stored → ℤ
tally t q ls = count (flat_map (line_on t) ls) q

abbrev pub worth : ℕ → Row → ℕ → Row → ℤ → ℤ
worth t q s r z = count (put_on t s r z) q

abbrev pub line_worth : ℕ → Row → StockLine → ℤ
line_worth t q l = worth t q l.shelf l.row (pos l.count)

abbrev pub Absent : ℕ → Row → Stored → Type 0
Absent s r ls = (k : ℕ) → k < length ls → (line_of ls k).shelf ≡ s → (line_of ls k).row ≡ r → ⊥

pub worth_on : (t : ℕ) (q : Row) (s : ℕ) (r : Row) (z : ℤ) → s ≡ t → worth t q s r z ≡ copies_at q r z
unfolding count
worth_on t q s r z e = ap (λ b. count (cond b ((r, z) ∷ []) []) q) (eq-eqb s t e) ∙ +ℤ_idr (copies_at q r z)

pub worth_off : (t : ℕ) (q : Row) (s : ℕ) (r : Row) (z : ℤ) → (s ≡ t → ⊥) → worth t q s r z ≡ pos 0
unfolding count
worth_off t q s r z e = ap (λ b. count (cond b ((r, z) ∷ []) []) q) (ne_eqb s t e)

pub worth_adds : (t : ℕ) (q : Row) (s : ℕ) (r : Row) (y z : ℤ) → worth t q s r y +ℤ worth t q s r z ≡ worth t q s r (y +ℤ z)
unfolding count
worth_adds t q s r y z = by (eqb s t)
  where
    here : (o : Ordering) → (if_equal o y +ℤ pos 0) +ℤ (if_equal o z +ℤ pos 0) ≡ if_equal o (y +ℤ z) +ℤ pos 0
    here Less = refl
    here Equal = omega (arith, ints)
    here Greater = refl

    by : (b : Bool) → count (cond b ((r, y) ∷ []) []) q +ℤ count (cond b ((r, z) ∷ []) []) q ≡ count (cond b ((r, y +ℤ z) ∷ []) []) q
    by true = here (row_order r q)
    by false = refl

pub key_cases : (l : StockLine) (t : ℕ) (q : Row) → ((l.shelf ≡ t) × (l.row ≡ q)) ⊎ ((l.shelf ≡ t → l.row ≡ q → ⊥) × (line_worth t q l ≡ pos 0))
key_cases l t q = by (cases_eq l.shelf t)
  where
    row : (o : Ordering) → row_order l.row q ≡ o → l.shelf ≡ t → ((l.shelf ≡ t) × (l.row ≡ q)) ⊎ ((l.shelf ≡ t → l.row ≡ q → ⊥) × (line_worth t q l ≡ pos 0))
    row Less p e = inr ((λ x y. let z : row_order l.row q ≡ Equal = ap (row_order l.row) (sym y) ∙ order_itself l.row in let w : ◌≡◌ {A = ℕ} 0 1 = cc in omega arith), worth_on t q l.shelf l.row (pos l.count) e ∙ ap (λ o. if_equal o (pos l.count)) p)
    row Equal p e = inl (e, order_equal l.row q p)
    row Greater p e = inr ((λ x y. let z : row_order l.row q ≡ Equal = ap (row_order l.row) (sym y) ∙ order_itself l.row in let w : ◌≡◌ {A = ℕ} 0 1 = cc in omega arith), worth_on t q l.shelf l.row (pos l.count) e ∙ ap (λ o. if_equal o (pos l.count)) p)

    by : (l.shelf ≡ t) ⊎ (l.shelf ≡ t → ⊥) → ((l.shelf ≡ t) × (l.row ≡ q)) ⊎ ((l.shelf ≡ t → l.row ≡ q → ⊥) × (line_worth t q l ≡ pos 0))
    by (inl e) = row (row_order l.row q) refl e
    by (inr e) = inr ((λ x y. e x), worth_off t q l.shelf l.row (pos l.count) e)

worth_key : (l : StockLine) (t : ℕ) (q : Row) → l.shelf ≡ t → l.row ≡ q → line_worth t q l ≡ pos l.count
worth_key l t q e f = worth_on t q l.shelf l.row (pos l.count) e ∙ ap (λ o. if_equal o (pos l.count)) (ap (row_order l.row) (sym f) ∙ order_itself l.row)

pub tally_cons : (t : ℕ) (q : Row) (l : StockLine) (ls : Stored) → tally t q (l ∷ ls) ≡ line_worth t q l +ℤ tally t q ls
tally_cons t q l ls = count-++ (line_on t l) (flat_map (line_on t) ls) q

pub tally_push : (t : ℕ) (q : Row) (ls : Stored) (l : StockLine) → tally t q (ls ++ l ∷ []) ≡ tally t q ls +ℤ line_worth t q l
unfolding count
tally_push t q [] l = let a = tally_cons t q l [] in omega (arith, ints)
tally_push t q (k ∷ ls) l = let a = tally_cons t q k (ls ++ l ∷ []) in let b = tally_cons t q k ls in let h = tally_push t q ls l in omega (arith, ints)

pub tally_set : (t : ℕ) (q : Row) (ls : Stored) (i : ℕ) (l : StockLine) → i < length ls → tally t q (set ls i l) +ℤ line_worth t q (line_of ls i) ≡ tally t q ls +ℤ line_worth t q l
tally_set t q [] i l h = absurd (omega arith)
tally_set t q (k ∷ ls) zero l h = let a = tally_cons t q k ls in let b = tally_cons t q l ls in omega (arith, ints)
tally_set t q (k ∷ ls) (suc i) l h = let a = tally_cons t q k ls in let b = tally_cons t q k (set ls i l) in let c = tally_set t q ls i l (omega arith) in omega (arith, ints)

pub tally_none : (t : ℕ) (q : Row) (ls : Stored) → Absent t q ls → tally t q ls ≡ pos 0
unfolding count
tally_none t q [] h = refl
tally_none t q (l ∷ ls) h = by (key_cases l t q) (tally_none t q ls (λ k b. h (suc k) (omega arith)))
  where
    by : ((l.shelf ≡ t) × (l.row ≡ q)) ⊎ ((l.shelf ≡ t → l.row ≡ q → ⊥) × (line_worth t q l ≡ pos 0)) → tally t q ls ≡ pos 0 → tally t q (l ∷ ls) ≡ pos 0
    by (inl e) ih = absurd (h 0 (omega arith) e.0 e.1)
    by (inr e) ih = let a = tally_cons t q l ls in let b = e.1 in omega (arith, ints)

apart_tail : (l : StockLine) (ls : Stored) → Apart (l ∷ ls) → Apart ls
apart_tail l ls p i j a b e f = let z = p (suc i) (suc j) (omega arith) (omega arith) e f in omega arith

apart_head : (l : StockLine) (ls : Stored) (t : ℕ) (q : Row) → Apart (l ∷ ls) → l.shelf ≡ t → l.row ≡ q → Absent t q ls
apart_head l ls t q p e f k h a b = let z = p 0 (suc k) (omega arith) (omega arith) (e ∙ sym a) (f ∙ sym b) in omega arith

pub tally_found : (t : ℕ) (q : Row) (ls : Stored) (i : ℕ) → Apart ls → i < length ls → (line_of ls i).shelf ≡ t → (line_of ls i).row ≡ q → tally t q ls ≡ pos (line_of ls i).count
tally_found t q [] i p h e f = absurd (omega arith)
tally_found t q (l ∷ ls) zero p h e f =
    let a = tally_cons t q l ls in let b = worth_key l t q e f in let c = tally_none t q ls (apart_head l ls t q p e f) in omega (arith, ints)
tally_found t q (l ∷ ls) (suc i) p h e f = by (key_cases l t q) (tally_found t q ls i (apart_tail l ls p) (omega arith) e f)
  where
    by : ((l.shelf ≡ t) × (l.row ≡ q)) ⊎ ((l.shelf ≡ t → l.row ≡ q → ⊥) × (line_worth t q l ≡ pos 0)) → tally t q ls ≡ pos (line_of ls i).count → tally t q (l ∷ ls) ≡ pos (line_of ls i).count
    by (inl k) ih = absurd (apart_head l ls t q p k.0 k.1 i (omega arith) e f)
    by (inr k) ih = let a = tally_cons t q l ls in let b = k.1 in omega (arith, ints)

pub tally_low : (t : ℕ) (q : Row) (ls : Stored) → pos 0 ≤ℤ tally t q ls
unfolding count
tally_low t q [] = omega (arith, ints)
tally_low t q (l ∷ ls) = by (key_cases l t q) (tally_low t q ls)
  where
    by : ((l.shelf ≡ t) × (l.row ≡ q)) ⊎ ((l.shelf ≡ t → l.row ≡ q → ⊥) × (line_worth t q l ≡ pos 0)) → pos 0 ≤ℤ tally t q ls → pos 0 ≤ℤ tally t q (l ∷ ls)
    by (inl k) ih = let a = tally_cons t q l ls in let b = worth_key l t q k.0 k.1 in omega (arith, ints)
    by (inr k) ih = let a = tally_cons t q l ls in let b = k.1 in omega (arith, ints)

pub tally_most : (t : ℕ) (q : Row) (ls : Stored) → AllByRecursion LawfulLine ls → Apart ls → tally t q ls ≤ℤ pos 65535
unfolding count
tally_most t q [] g p = omega (arith, ints)
tally_most t q (l ∷ ls) g p = by (key_cases l t q) (tally_most t q ls g.1 (apart_tail l ls p))
  where
    by : ((l.shelf ≡ t) × (l.row ≡ q)) ⊎ ((l.shelf ≡ t → l.row ≡ q → ⊥) × (line_worth t q l ≡ pos 0)) → tally t q ls ≤ℤ pos 65535 → tally t q (l ∷ ls) ≤ℤ pos 65535
    by (inl k) ih =
        let a = tally_cons t q l ls in
        let b = worth_key l t q k.0 k.1 in
        let c = tally_none t q ls (apart_head l ls t q p k.0 k.1) in
        let m = g.0.most in
        omega (arith, ints)
    by (inr k) ih = let a = tally_cons t q l ls in let b = k.1 in omega (arith, ints)

-- the shelves
pub shelf_within : (ls : Stored) (s : ℕ) → s < 16 → get_or (shelves_of ls) s [] ≡ bag_on s ls
unfolding shelves_of
shelf_within ls s h = get_or-map-range_with_len (λ t. bag_on t ls) 0 16 s s [] h (omega arith)

pub shelves_sixteen : (ls : Stored) → length (shelves_of ls) ≡ 16
unfolding shelves_of
shelves_sixteen ls = length-map-range_with_len (λ t. bag_on t ls) 0 16

pub any_shelf : (P : Lines → Type 0) (ls : Stored) (s : ℕ) → P [] → P (bag_on s ls) → P (get_or (shelves_of ls) s [])
any_shelf P ls s n h = by (cases_lt s 16)
  where
    by : (s < 16) ⊎ (16 ≤ s) → P (get_or (shelves_of ls) s [])
    by (inl l) = subst P (sym (shelf_within ls s l)) h
    by (inr l) = subst P (sym (get_or_past (shelves_of ls) s [] (let k = shelves_sixteen ls in omega arith))) n

pub count_bag : (ls : Stored) (s : ℕ) (q : Row) → count (bag_on s ls) q ≡ tally s q ls
unfolding bag_on
count_bag ls s q = count_collect (flat_map (line_on s) ls) q

pub canonical_bag : (ls : Stored) (s : ℕ) → Canonical (bag_on s ls)
unfolding bag_on
canonical_bag ls s = canonical_collect (flat_map (line_on s) ls)

pub canonical_shelf : (ls : Stored) (s : ℕ) → Canonical (get_or (shelves_of ls) s [])
canonical_shelf ls s = any_shelf Canonical ls s tt (canonical_bag ls s)

pub shelf_count : (ls : Stored) (s : ℕ) (q : Row) → AllByRecursion LawfulLine ls → count (get_or (shelves_of ls) s []) q ≡ tally s q ls
unfolding count
shelf_count ls s q a = by (cases_lt s 16)
  where
    by : (s < 16) ⊎ (16 ≤ s) → count (get_or (shelves_of ls) s []) q ≡ tally s q ls
    by (inl l) = ap (λ b. count b q) (shelf_within ls s l) ∙ count_bag ls s q
    by (inr l) =
        ap (λ b. count b q) (get_or_past (shelves_of ls) s [] (let k = shelves_sixteen ls in omega arith))
        ∙ sym (tally_none s q ls (λ k h e f. let m = (All-get_or LawfulLine ls k blank_stock_line h a).shelf in omega arith))

pub shelves_moved : (ls ks : Stored) (s : ℕ) (r : Row) (z : ℤ) → s ≤ 15 → ((t : ℕ) (q : Row) → tally t q ks ≡ tally t q ls +ℤ worth t q s r z) →
    shelves_of ks ≡ set (shelves_of ls) s (add_copies r z (get_or (shelves_of ls) s []))
shelves_moved ls ks s r z small m =
    let k = shelves_sixteen ks in
    let l = shelves_sixteen ls in
    let g = get_or (shelves_of ls) s [] in
    ext_get_or [] (shelves_of ks) (set (shelves_of ls) s (add_copies r z g)) (k ∙ sym (length-set (shelves_of ls) s (add_copies r z g) ∙ l)) (λ t h. by t (omega arith) (cases_eq t s))
  where
    at_shelf : (t : ℕ) → t ≡ s → (q : Row) → count (bag_on t ks) q ≡ count (add_copies r z (bag_on s ls)) q
    at_shelf t e q =
        let a : count (bag_on t ks) q ≡ tally t q ks = count_bag ks t q in
        let b : tally t q ks ≡ tally t q ls +ℤ worth t q s r z = m t q in
        let c : worth t q s r z ≡ copies_at q r z = worth_on t q s r z (sym e) in
        let d : tally t q ls ≡ count (bag_on s ls) q = ap (λ u. tally u q ls) e ∙ sym (count_bag ls s q) in
        let f = count_add_copies r z (bag_on s ls) q in
        omega (arith, ints)

    by : (t : ℕ) → t < 16 → (t ≡ s) ⊎ (t ≡ s → ⊥) → get_or (shelves_of ks) t [] ≡ get_or (set (shelves_of ls) s (add_copies r z (get_or (shelves_of ls) s []))) t []
    by t h (inl e) =
        let l = shelves_sixteen ls in
        shelf_within ks t h
        ∙ equal_counts (bag_on t ks) (add_copies r z (bag_on s ls)) (canonical_bag ks t) (canonical_add_copies r z (bag_on s ls) (canonical_bag ls s)) (at_shelf t e)
        ∙ sym (ap (λ u. get_or (set (shelves_of ls) s (add_copies r z (get_or (shelves_of ls) s []))) u []) e
        ∙ get_or-set_same (shelves_of ls) s (add_copies r z (get_or (shelves_of ls) s [])) [] (omega arith)
        ∙ ap (add_copies r z) (shelf_within ls s (omega arith)))
    by t h (inr e) =
        shelf_within ks t h
        ∙ equal_counts (bag_on t ks) (bag_on t ls) (canonical_bag ks t) (canonical_bag ls t) (λ q. count_bag ks t q ∙ m t q ∙ ap (λ y. tally t q ls +ℤ y) (worth_off t q s r z (λ x. e (sym x))) ∙ +ℤ_idr (tally t q ls) ∙ sym (count_bag ls t q))
        ∙ sym (get_or-set_other (shelves_of ls) s t (add_copies r z (get_or (shelves_of ls) s [])) [] e ∙ shelf_within ls t h)

lines_on_set : (bags : List Lines) (s : ℕ) (bag : Lines) → s < length bags → lines_on (set bags s bag) + length (get_or bags s []) ≡ lines_on bags + length bag
unfolding lines_on
lines_on_set [] s bag h = absurd (omega arith)
lines_on_set (b ∷ bags) zero bag h = omega arith
lines_on_set (b ∷ bags) (suc s) bag h = let i = lines_on_set bags s bag (omega arith) in omega arith

pub some_copies : (n : ℕ) → 1 ≤ n → is_zero (pos n) ≡ false
some_copies zero h = absurd (omega arith)
some_copies (suc n) h = refl

pub lines_are_length : (ls : Stored) → AllByRecursion LawfulLine ls → Apart ls → lines_on (shelves_of ls) ≡ length ls
unfolding lines_on shelves_of bag_on collect
lines_are_length [] a p = refl
lines_are_length (l ∷ ls) a p = more (lines_are_length ls a.1 (apart_tail l ls p))
  where
    more : lines_on (shelves_of ls) ≡ length ls → lines_on (shelves_of (l ∷ ls)) ≡ suc (length ls)
    more ih =
        let s = l.shelf in
        let z = pos l.count in
        let bag = get_or (shelves_of ls) s [] in
        let k = shelves_sixteen ls in
        let low = a.0.shelf in
        let none : count bag l.row ≡ pos 0 = shelf_count ls s l.row a.1 ∙ tally_none s l.row ls (apart_head l ls s l.row p refl refl) in
        let e : shelves_of (l ∷ ls) ≡ set (shelves_of ls) s (add_copies l.row z bag) = shelves_moved ls (l ∷ ls) s l.row z low (λ t q. let b = tally_cons t q l ls in omega (arith, ints)) in
        let n = length_new l.row z bag (canonical_shelf ls s) none (some_copies l.count a.0.some) in
        let g = lines_on_set (shelves_of ls) s (add_copies l.row z bag) (omega arith) in
        ap lines_on e ∙ omega arith
