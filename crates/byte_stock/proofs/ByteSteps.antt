-- What a put and a take make of stored lines, case by case. Assumes nothing.
--     place_found, place_none                     where a line is
--     Kept, kept_set, kept_push, kept_freed       the lines after are lawful, apart and fit
--     put_over .. put_new, take_short .. take_idle what each case answers and leaves
use Rattle.std.proofs.Common.{◌≡◌, ℕ, zero, suc, ◌+◌, ◌-◌, ◌<◌, ◌≤◌, Bool, true, false, cond, eqb, ltb, ◌⊎◌, [], ◌∷◌, ◌++◌, length, take, set, ℤ, pos, ◌+ℤ◌, neg_ℤ, Some, None, Ok, Err, Option, Result, Ordering, Less, Equal, Greater, sym, refl, ap, ◌∙◌, ap₂, inl, inr, arith}
use Rattle.std.specs.Ordering.{is_eq}
use Rattle.std.specs.List.{AllByRecursion}
use Rattle.std.specs.Option.{option_map}
use Rattle.std.proofs.lemmas.Int.{ints}
use Rattle.std.proofs.lemmas.Bool.{cases_eq, cond-true, cond-false, lt-ltb, le-ltb, eq-eqb, ne_eqb, and_from, and_left, and_right}
use Rattle.std.proofs.lemmas.List.{get_or-set_same, get_or-set_other, length-set, length_push, get_or_push, get_or_append_left, get_or-take, length-take-le, take_more, take_all}
use Rattle.std.proofs.ByRecursion.{All-get_or, All-set, All-push, All-take}
use Rattle.bag.specs.Order.{Row, row_order}
use Rattle.bag.specs.Bag.{if_equal, count}
use Rattle.bag.specs.Lines.{blank_stock_line}
use Rattle.bag.specs.declared.lines.StockLine.{StockLine}
use Rattle.bag.specs.RowOrder.{order_equal, order_itself}
use Rattle.bag.specs.Refusal.{Refusal, refusal, left_by}
use Rattle.bag.specs.Columns.{IsRow}
use Rattle.stock.specs.Holding.{Holding, copies, with_copies, lacks_room, put_answer, after_put, take_answer, after_take}
use Rattle.stock.specs.Holding.{LawfulLine}
use Rattle.byte_stock.specs.ByteStored.{Stored, line_of, Apart, holding_of, has_key, place_of, new_line, added_at, added, freed, removed_at, removed, lines_after_put, lines_after_take}
use Rattle.byte_stock.specs.ByteTally.{tally, worth, line_worth, Absent, worth_adds, tally_push, tally_set, shelves_moved, lines_are_length}
use Rattle.byte_stock.specs.ByteLawful.{copies_found, copies_none}

-- where a line is
pub key_true : (l : StockLine) (s : ℕ) (r : Row) → l.shelf ≡ s → l.row ≡ r → has_key s r l ≡ true
key_true l s r e f = and_from (eqb l.shelf s) (is_eq (row_order l.row r)) (eq-eqb l.shelf s e) (ap is_eq (ap (row_order l.row) (sym f) ∙ order_itself l.row))

key_false : (l : StockLine) (s : ℕ) (r : Row) → (l.shelf ≡ s → l.row ≡ r → ⊥) → has_key s r l ≡ false
key_false l s r h = by (cases_eq l.shelf s)
  where
    row : l.shelf ≡ s → (o : Ordering) → row_order l.row r ≡ o → is_eq o ≡ false
    row e Less p = refl
    row e Equal p = absurd (h e (order_equal l.row r p))
    row e Greater p = refl

    by : (l.shelf ≡ s) ⊎ (l.shelf ≡ s → ⊥) → has_key s r l ≡ false
    by (inl e) = and_right (eqb l.shelf s) (is_eq (row_order l.row r)) (row e (row_order l.row r) refl)
    by (inr e) = and_left (eqb l.shelf s) (is_eq (row_order l.row r)) (ne_eqb l.shelf s e)

pub place_none : (s : ℕ) (r : Row) (ls : Stored) → Absent s r ls → place_of s r ls ≡ None
unfolding place_of
place_none s r [] h = refl
place_none s r (l ∷ ls) h =
    cond-false (has_key s r l) (Some 0) (option_map suc (place_of s r ls)) (key_false l s r (h 0 (omega arith)))
    ∙ ap (option_map suc) (place_none s r ls (λ k b. h (suc k) (omega arith)))

pub place_found : (s : ℕ) (r : Row) (ls : Stored) (i : ℕ) → Apart ls → i < length ls → (line_of ls i).shelf ≡ s → (line_of ls i).row ≡ r → place_of s r ls ≡ Some i
unfolding place_of
place_found s r [] i p h e f = absurd (omega arith)
place_found s r (l ∷ ls) zero p h e f = cond-true (has_key s r l) (Some 0) (option_map suc (place_of s r ls)) (key_true l s r e f)
place_found s r (l ∷ ls) (suc i) p h e f =
    cond-false (has_key s r l) (Some 0) (option_map suc (place_of s r ls)) (key_false l s r (λ x y. let z = p 0 (suc i) (omega arith) (omega arith) (x ∙ sym e) (y ∙ sym f) in omega arith))
    ∙ ap (option_map suc) (place_found s r ls i (λ j k a b x y. let z = p (suc j) (suc k) (omega arith) (omega arith) x y in omega arith) (omega arith) e f)

-- what is kept
pub record Kept (c : ℕ) (ls : Stored) : Type 0 where
  pub lawful : AllByRecursion LawfulLine ls
  pub apart : Apart ls
  pub room : length ls ≤ c

-- lines that stand at other places of lines that are apart
apart_from : (ls ks : Stored) (origin : ℕ → ℕ) → Apart ls → ((k : ℕ) → k < length ks → origin k < length ls) →
    ((k : ℕ) → k < length ks → (line_of ks k).shelf ≡ (line_of ls (origin k)).shelf) → ((k : ℕ) → k < length ks → (line_of ks k).row ≡ (line_of ls (origin k)).row) →
    ((j k : ℕ) → j < length ks → k < length ks → origin j ≡ origin k → j ≡ k) → Apart ks
apart_from ls ks origin p inside shelf row one j k a b e f =
    one j k a b (p (origin j) (origin k) (inside j a) (inside k b) (sym (shelf j a) ∙ e ∙ shelf k b) (sym (row j a) ∙ f ∙ row k b))

pub kept_set : (c : ℕ) (ls : Stored) (i : ℕ) (l : StockLine) → Kept c ls → i < length ls → LawfulLine l → (line_of ls i).shelf ≡ l.shelf → (line_of ls i).row ≡ l.row → Kept c (set ls i l)
kept_set c ls i l h k g e f =
    let n = length-set ls i l in
    let m = h.room in
    record {
      lawful = All-set LawfulLine ls i l g h.lawful;
      apart = apart_from ls (set ls i l) (λ j. j) h.apart (λ j a. omega arith) (λ j a. shelf j (cases_eq j i)) (λ j a. row j (cases_eq j i)) (λ j m a b x. x);
      room = omega arith;
    }
  where
    shelf : (j : ℕ) → (j ≡ i) ⊎ (j ≡ i → ⊥) → (line_of (set ls i l) j).shelf ≡ (line_of ls j).shelf
    shelf j (inl x) = ap (λ m. (line_of (set ls i l) m).shelf) x ∙ ap (λ (y : StockLine). y.shelf) (get_or-set_same ls i l blank_stock_line k) ∙ sym e ∙ ap (λ m. (line_of ls m).shelf) (sym x)
    shelf j (inr x) = ap (λ (y : StockLine). y.shelf) (get_or-set_other ls i j l blank_stock_line x)

    row : (j : ℕ) → (j ≡ i) ⊎ (j ≡ i → ⊥) → (line_of (set ls i l) j).row ≡ (line_of ls j).row
    row j (inl x) = ap (λ m. (line_of (set ls i l) m).row) x ∙ ap (λ (y : StockLine). y.row) (get_or-set_same ls i l blank_stock_line k) ∙ sym f ∙ ap (λ m. (line_of ls m).row) (sym x)
    row j (inr x) = ap (λ (y : StockLine). y.row) (get_or-set_other ls i j l blank_stock_line x)

pub kept_push : (c : ℕ) (ls : Stored) (l : StockLine) → Kept c ls → length ls < c → LawfulLine l → Absent l.shelf l.row ls → Kept c (ls ++ l ∷ [])
kept_push c ls l h k g none =
    let n = length_push ls l in
    record { lawful = All-push LawfulLine ls l h.lawful g; apart = λ i j a b. by i j (omega arith) (omega arith) (cases_eq i (length ls)) (cases_eq j (length ls)); room = omega arith }
  where
    old : (i : ℕ) → i < length ls → line_of (ls ++ l ∷ []) i ≡ line_of ls i
    old i a = get_or_append_left ls (l ∷ []) blank_stock_line i a

    new : (i : ℕ) → i ≡ length ls → line_of (ls ++ l ∷ []) i ≡ l
    new i e = get_or_push ls l blank_stock_line i (sym e)

    by : (i j : ℕ) → i ≤ length ls → j ≤ length ls → (i ≡ length ls) ⊎ (i ≡ length ls → ⊥) → (j ≡ length ls) ⊎ (j ≡ length ls → ⊥) →
        (line_of (ls ++ l ∷ []) i).shelf ≡ (line_of (ls ++ l ∷ []) j).shelf → (line_of (ls ++ l ∷ []) i).row ≡ (line_of (ls ++ l ∷ []) j).row → i ≡ j
    by i j a b (inl x) (inl y) e f = x ∙ sym y
    by i j a b (inl x) (inr y) e f =
        let jl : j < length ls = omega arith in
        absurd (none j jl (sym (ap (λ (z : StockLine). z.shelf) (old j jl)) ∙ sym e ∙ ap (λ (z : StockLine). z.shelf) (new i x)) (sym (ap (λ (z : StockLine). z.row) (old j jl)) ∙ sym f ∙ ap (λ (z : StockLine). z.row) (new i x)))
    by i j a b (inr x) (inl y) e f =
        let il : i < length ls = omega arith in
        absurd (none i il (sym (ap (λ (z : StockLine). z.shelf) (old i il)) ∙ e ∙ ap (λ (z : StockLine). z.shelf) (new j y)) (sym (ap (λ (z : StockLine). z.row) (old i il)) ∙ f ∙ ap (λ (z : StockLine). z.row) (new j y)))
    by i j a b (inr x) (inr y) e f =
        let il : i < length ls = omega arith in
        let jl : j < length ls = omega arith in
        h.apart i j il jl (sym (ap (λ (z : StockLine). z.shelf) (old i il)) ∙ e ∙ ap (λ (z : StockLine). z.shelf) (old j jl)) (sym (ap (λ (z : StockLine). z.row) (old i il)) ∙ f ∙ ap (λ (z : StockLine). z.row) (old j jl))

-- the last line takes the place of line i
pub length_freed : (ls : Stored) (i : ℕ) → i < length ls → length (freed i ls) ≡ length ls - 1
length_freed ls i h = length-take-le (length ls - 1) (set ls i (line_of ls (length ls - 1))) (let n = length-set ls i (line_of ls (length ls - 1)) in omega arith)

moved_here : (ls : Stored) (i j : ℕ) → j < length ls - 1 → i < length ls → j ≡ i → line_of (freed i ls) j ≡ line_of ls (length ls - 1)
moved_here ls i j h k e =
    let l = line_of ls (length ls - 1) in
    get_or-take (length ls - 1) (set ls i l) j blank_stock_line h ∙ ap (λ m. line_of (set ls i l) m) e ∙ get_or-set_same ls i l blank_stock_line k

stays : (ls : Stored) (i j : ℕ) → j < length ls - 1 → (j ≡ i → ⊥) → line_of (freed i ls) j ≡ line_of ls j
stays ls i j h e =
    let l = line_of ls (length ls - 1) in
    get_or-take (length ls - 1) (set ls i l) j blank_stock_line h ∙ get_or-set_other ls i j l blank_stock_line e

pub kept_freed : (c : ℕ) (ls : Stored) (i : ℕ) → Kept c ls → i < length ls → Kept c (freed i ls)
kept_freed c ls i h k =
    let n = length_freed ls i k in
    let m = h.room in
    let l = line_of ls (length ls - 1) in
    record {
      lawful = All-take LawfulLine (length ls - 1) (set ls i l) (All-set LawfulLine ls i l (All-get_or LawfulLine ls (length ls - 1) blank_stock_line (omega arith) h.lawful) h.lawful);
      apart = λ a b x y. by a b (omega arith) (omega arith) (cases_eq a i) (cases_eq b i);
      room = omega arith;
    }
  where
    by : (a b : ℕ) → a < length ls - 1 → b < length ls - 1 → (a ≡ i) ⊎ (a ≡ i → ⊥) → (b ≡ i) ⊎ (b ≡ i → ⊥) →
        (line_of (freed i ls) a).shelf ≡ (line_of (freed i ls) b).shelf → (line_of (freed i ls) a).row ≡ (line_of (freed i ls) b).row → a ≡ b
    by a b x y (inl u) (inl v) e f = u ∙ sym v
    by a b x y (inl u) (inr v) e f =
        let z = h.apart (length ls - 1) b (omega arith) (omega arith)
        (sym (ap (λ (z : StockLine). z.shelf) (moved_here ls i a x k u)) ∙ e ∙ ap (λ (z : StockLine). z.shelf) (stays ls i b y v))
        (sym (ap (λ (z : StockLine). z.row) (moved_here ls i a x k u)) ∙ f ∙ ap (λ (z : StockLine). z.row) (stays ls i b y v)) in
        absurd (omega arith)
    by a b x y (inr u) (inl v) e f =
        let z = h.apart a (length ls - 1) (omega arith) (omega arith)
        (sym (ap (λ (z : StockLine). z.shelf) (stays ls i a x u)) ∙ e ∙ ap (λ (z : StockLine). z.shelf) (moved_here ls i b y k v))
        (sym (ap (λ (z : StockLine). z.row) (stays ls i a x u)) ∙ f ∙ ap (λ (z : StockLine). z.row) (moved_here ls i b y k v)) in
        absurd (omega arith)
    by a b x y (inr u) (inr v) e f =
        h.apart a b (omega arith) (omega arith)
        (sym (ap (λ (z : StockLine). z.shelf) (stays ls i a x u)) ∙ e ∙ ap (λ (z : StockLine). z.shelf) (stays ls i b y v))
        (sym (ap (λ (z : StockLine). z.row) (stays ls i a x u)) ∙ f ∙ ap (λ (z : StockLine). z.row) (stays ls i b y v))

tally_freed : (t : ℕ) (q : Row) (ls : Stored) (i : ℕ) → i < length ls → tally t q (freed i ls) +ℤ line_worth t q (line_of ls i) ≡ tally t q ls
tally_freed t q ls i h =
    let m = length ls - 1 in
    let l = line_of ls m in
    let ks = set ls i l in
    let n = length-set ls i l in
    let e : ks ≡ take m ks ++ line_of ks m ∷ [] = sym (take_all (m + 1) ks (omega arith)) ∙ take_more ks m blank_stock_line (omega arith) in
    let g : tally t q ks ≡ tally t q (take m ks) +ℤ line_worth t q (line_of ks m) = ap (tally t q) e ∙ tally_push t q (take m ks) (line_of ks m) in
    let w : line_worth t q (line_of ks m) ≡ line_worth t q l = ap (line_worth t q) (by (cases_eq m i)) in
    let d = tally_set t q ls i l h in
    omega (arith, ints)
  where
    by : (length ls - 1 ≡ i) ⊎ (length ls - 1 ≡ i → ⊥) → line_of (set ls i (line_of ls (length ls - 1))) (length ls - 1) ≡ line_of ls (length ls - 1)
    by (inl e) = ap (λ m. line_of (set ls i (line_of ls (length ls - 1))) m) e ∙ get_or-set_same ls i (line_of ls (length ls - 1)) blank_stock_line h
    by (inr e) = get_or-set_other ls i (length ls - 1) (line_of ls (length ls - 1)) blank_stock_line e

worth_none : (t : ℕ) (q : Row) (s : ℕ) (r : Row) → worth t q s r (pos 0) ≡ pos 0
unfolding count
worth_none t q s r = by (eqb s t)
  where
    here : (o : Ordering) → if_equal o (pos 0) +ℤ pos 0 ≡ pos 0
    here Less = refl
    here Equal = refl
    here Greater = refl

    by : (b : Bool) → count (cond b ((r, pos 0) ∷ []) []) q ≡ pos 0
    by true = here (row_order r q)
    by false = refl

-- the holding with the copies of the lines after
held_after : (c : ℕ) (ls ks : Stored) (s : ℕ) (r : Row) (z : ℤ) → s ≤ 15 → ((t : ℕ) (q : Row) → tally t q ks ≡ tally t q ls +ℤ worth t q s r z) → with_copies (holding_of c ls) s r z ≡ holding_of c ks
held_after c ls ks s r z h m = ap {B = Holding} (λ x. record { capacity = c; shelves = x }) (sym (shelves_moved ls ks s r z h m))

-- a call answers x and leaves the lines ks, where it is to answer a, to leave the lines `made`, and to mean `holding` then
pub record Makes (c : ℕ) (a : Result (Unit {0}) Refusal) (holding : Holding) (made ks : Stored) (x : Result (Unit {0}) Refusal) : Type 0 where
  pub answer : a ≡ x
  pub lines : made ≡ ks
  pub after : holding ≡ holding_of c ks
  pub kept : Kept c ks

abbrev pub PutMakes : ℕ → ℕ → Row → ℕ → Stored → Stored → Result (Unit {0}) Refusal → Type 0
PutMakes c s r n ls = Makes c (put_answer (holding_of c ls) s r n) (after_put (holding_of c ls) s r n) (lines_after_put c s r n ls)

abbrev pub TakeMakes : ℕ → ℕ → Row → ℕ → Stored → Stored → Result (Unit {0}) Refusal → Type 0
TakeMakes c s r n ls = Makes c (take_answer (holding_of c ls) s r n) (after_take (holding_of c ls) s r n) (lines_after_take c s r n ls)

module _ (c : ℕ) (s : ℕ) (r : Row) (n : ℕ) (ls : Stored) (h : Kept c ls) where
  -- a call that answers a, and makes `made` of the lines by adding z copies where that is Ok
  module _ (a : Result (Unit {0}) Refusal) (z : ℤ) (made : Stored) where
    refused : (e : Refusal) → a ≡ Err e → Makes c a (left_by a (holding_of c ls) (with_copies (holding_of c ls) s r z)) (left_by a ls made) ls (Err e)
    refused e q = record { answer = q; lines = ap (λ x. left_by x ls made) q; after = ap (λ x. left_by x (holding_of c ls) (with_copies (holding_of c ls) s r z)) q; kept = h }

    accepted : (ks : Stored) → s ≤ 15 → a ≡ Ok tt → made ≡ ks → ((t : ℕ) (q : Row) → tally t q ks ≡ tally t q ls +ℤ worth t q s r z) → Kept c ks →
        Makes c a (left_by a (holding_of c ls) (with_copies (holding_of c ls) s r z)) (left_by a ls made) ks (Ok tt)
    accepted ks small q f m k =
        record {
          answer = q;
          lines = ap (λ x. left_by x ls made) q ∙ f;
          after = ap (λ x. left_by x (holding_of c ls) (with_copies (holding_of c ls) s r z)) q ∙ held_after c ls ks s r z small m;
          kept = k;
        }

  put_refused : (e : Refusal) → put_answer (holding_of c ls) s r n ≡ Err e → PutMakes c s r n ls ls (Err e)
  put_refused = refused (put_answer (holding_of c ls) s r n) (pos n) (added s r n ls)

  take_refused : (e : Refusal) → take_answer (holding_of c ls) s r n ≡ Err e → TakeMakes c s r n ls ls (Err e)
  take_refused = refused (take_answer (holding_of c ls) s r n) (neg_ℤ (pos n)) (removed s r n ls)

  put_accepted : (place : Option ℕ) (ks : Stored) → s ≤ 15 → put_answer (holding_of c ls) s r n ≡ Ok tt → place_of s r ls ≡ place → added_at place s r n ls ≡ ks → ((t : ℕ) (q : Row) → tally t q ks ≡ tally t q ls +ℤ worth t q s r (pos n)) → Kept c ks → PutMakes c s r n ls ks (Ok tt)
  put_accepted place ks small q e f = accepted (put_answer (holding_of c ls) s r n) (pos n) (added s r n ls) ks small q (ap (λ x. added_at x s r n ls) e ∙ f)

  take_accepted : (place : Option ℕ) (ks : Stored) → s ≤ 15 → take_answer (holding_of c ls) s r n ≡ Ok tt → place_of s r ls ≡ place → removed_at place s r n ls ≡ ks → ((t : ℕ) (q : Row) → tally t q ks ≡ tally t q ls +ℤ worth t q s r (neg_ℤ (pos n))) → Kept c ks → TakeMakes c s r n ls ks (Ok tt)
  take_accepted place ks small q e f = accepted (take_answer (holding_of c ls) s r n) (neg_ℤ (pos n)) (removed s r n ls) ks small q (ap (λ x. removed_at x s r n ls) e ∙ f)

  module _ (small : s ≤ 15) where
    over : 65535 < copies (holding_of c ls) s r + n → put_answer (holding_of c ls) s r n ≡ Err (refusal 6 s)
    over g = cond-false (ltb 15 s) _ _ (le-ltb 15 s small) ∙ cond-true (ltb 65535 (copies (holding_of c ls) s r + n)) _ _ (lt-ltb _ _ g)

    room : copies (holding_of c ls) s r + n ≤ 65535 → lacks_room (holding_of c ls) s r n ≡ true → put_answer (holding_of c ls) s r n ≡ Err (refusal 9 c)
    room g k = cond-false (ltb 15 s) _ _ (le-ltb 15 s small) ∙ cond-false (ltb 65535 (copies (holding_of c ls) s r + n)) _ _ (le-ltb _ _ g) ∙ cond-true (lacks_room (holding_of c ls) s r n) _ _ k

    fine : copies (holding_of c ls) s r + n ≤ 65535 → lacks_room (holding_of c ls) s r n ≡ false → put_answer (holding_of c ls) s r n ≡ Ok tt
    fine g k = cond-false (ltb 15 s) _ _ (le-ltb 15 s small) ∙ cond-false (ltb 65535 (copies (holding_of c ls) s r + n)) _ _ (le-ltb _ _ g) ∙ cond-false (lacks_room (holding_of c ls) s r n) _ _ k

    short : copies (holding_of c ls) s r < n → take_answer (holding_of c ls) s r n ≡ Err (refusal 5 s)
    short g = cond-false (ltb 15 s) _ _ (le-ltb 15 s small) ∙ cond-true (ltb (copies (holding_of c ls) s r) n) _ _ (lt-ltb _ _ g)

    enough : n ≤ copies (holding_of c ls) s r → take_answer (holding_of c ls) s r n ≡ Ok tt
    enough g = cond-false (ltb 15 s) _ _ (le-ltb 15 s small) ∙ cond-false (ltb (copies (holding_of c ls) s r) n) _ _ (le-ltb _ _ g)

    -- a line of the row stands at place i
    module _ (i : ℕ) (inside : i < length ls) (e : (line_of ls i).shelf ≡ s) (f : (line_of ls i).row ≡ r) where
      counted : copies (holding_of c ls) s r ≡ (line_of ls i).count
      counted = copies_found c ls h.lawful h.apart s r i inside e f

      here : place_of s r ls ≡ Some i
      here = place_found s r ls i h.apart inside e f

      old_worth : (t : ℕ) (q : Row) → line_worth t q (line_of ls i) ≡ worth t q s r (pos (line_of ls i).count)
      old_worth t q = ap₂ (λ x y. worth t q x y (pos (line_of ls i).count)) e f

      pub put_over : 65535 < (line_of ls i).count + n → PutMakes c s r n ls ls (Err (refusal 6 s))
      put_over g = put_refused (refusal 6 s) (over (let k = counted in omega arith))

      pub put_more : IsRow r → (line_of ls i).count + n ≤ 65535 → PutMakes c s r n ls (set ls i (new_line s r ((line_of ls i).count + n))) (Ok tt)
      put_more w g =
          let k = counted in
          let old = All-get_or LawfulLine ls i blank_stock_line inside h.lawful in
          let some = old.some in
          let m = (line_of ls i).count in
          put_accepted (Some i) (set ls i (new_line s r (m + n))) small
          (fine (omega arith) (and_right (ltb 0 n) _ (and_left (eqb (copies (holding_of c ls) s r) 0) _ (ne_eqb _ _ (λ z. omega arith)))))
          here refl
          (λ t q.
          let a = tally_set t q ls i (new_line s r (m + n)) inside in
          let b = old_worth t q in
          let d : worth t q s r (pos m) +ℤ worth t q s r (pos n) ≡ worth t q s r (pos (m + n)) = worth_adds t q s r (pos m) (pos n) in
          omega (arith, ints))
          (kept_set c ls i (new_line s r (m + n)) h inside (record { shelf = small; row = w; some = omega arith; most = g }) e f)

      pub take_short : (line_of ls i).count < n → TakeMakes c s r n ls ls (Err (refusal 5 s))
      take_short g = take_refused (refusal 5 s) (short (let k = counted in omega arith))

      pub take_all_copies : (line_of ls i).count ≡ n → TakeMakes c s r n ls (freed i ls) (Ok tt)
      take_all_copies g =
          let k = counted in
          let m = (line_of ls i).count in
          take_accepted (Some i) (freed i ls) small (enough (omega arith)) here
          (cond-true (eqb m n) (freed i ls) (set ls i (new_line s r (m - n))) (eq-eqb m n g))
          (λ t q.
          let a = tally_freed t q ls i inside in
          let b = old_worth t q in
          let d = worth_adds t q s r (pos m) (neg_ℤ (pos n)) in
          let z : pos m +ℤ neg_ℤ (pos n) ≡ pos 0 = omega (arith, ints) in
          let x : worth t q s r (pos m +ℤ neg_ℤ (pos n)) ≡ pos 0 = ap (worth t q s r) z ∙ worth_none t q s r in
          omega (arith, ints))
          (kept_freed c ls i h inside)

      pub take_some : IsRow r → n < (line_of ls i).count → TakeMakes c s r n ls (set ls i (new_line s r ((line_of ls i).count - n))) (Ok tt)
      take_some w g =
          let k = counted in
          let old = All-get_or LawfulLine ls i blank_stock_line inside h.lawful in
          let most = old.most in
          let m = (line_of ls i).count in
          take_accepted (Some i) (set ls i (new_line s r (m - n))) small (enough (omega arith)) here
          (cond-false (eqb m n) (freed i ls) (set ls i (new_line s r (m - n))) (ne_eqb m n (λ z. omega arith)))
          (λ t q.
          let a = tally_set t q ls i (new_line s r (m - n)) inside in
          let b = old_worth t q in
          let d = worth_adds t q s r (pos m) (neg_ℤ (pos n)) in
          let z : pos m +ℤ neg_ℤ (pos n) ≡ pos (m - n) = omega (arith, ints) in
          let x : worth t q s r (pos m +ℤ neg_ℤ (pos n)) ≡ worth t q s r (pos (m - n)) = ap (worth t q s r) z in
          omega (arith, ints))
          (kept_set c ls i (new_line s r (m - n)) h inside (record { shelf = small; row = w; some = omega arith; most = omega arith }) e f)

    -- no line has the row
    module _ (none : Absent s r ls) where
      nothing : copies (holding_of c ls) s r ≡ 0
      nothing = copies_none c ls h.lawful h.apart s r none

      nowhere : place_of s r ls ≡ None
      nowhere = place_none s r ls none

      pub put_idle : n ≡ 0 → PutMakes c s r n ls ls (Ok tt)
      put_idle g =
          let k = nothing in
          put_accepted None ls small (fine (omega arith) (and_left (ltb 0 n) _ (le-ltb 0 n (omega arith)))) nowhere
          (cond-true (eqb n 0) ls (ls ++ new_line s r n ∷ []) (eq-eqb n 0 g))
          (λ t q. let x : worth t q s r (pos n) ≡ pos 0 = ap (λ m. worth t q s r (pos m)) g ∙ worth_none t q s r in omega (arith, ints))
          h

      pub put_full : n ≤ 65535 → 0 < n → length ls ≡ c → PutMakes c s r n ls ls (Err (refusal 9 c))
      put_full most g w =
          let k = nothing in
          put_refused (refusal 9 c) (room (omega arith) (and_from (ltb 0 n) _ (lt-ltb 0 n g) (and_from _ _ (eq-eqb _ 0 k) (eq-eqb _ c (lines_are_length ls h.lawful h.apart ∙ w)))))

      pub put_new : IsRow r → n ≤ 65535 → 0 < n → length ls < c → PutMakes c s r n ls (ls ++ new_line s r n ∷ []) (Ok tt)
      put_new w most g m =
          let k = nothing in
          let l = lines_are_length ls h.lawful h.apart in
          put_accepted None (ls ++ new_line s r n ∷ []) small
          (fine (omega arith) (and_right (ltb 0 n) _ (and_right (eqb (copies (holding_of c ls) s r) 0) _ (ne_eqb _ _ (λ z. omega arith)))))
          nowhere
          (cond-false (eqb n 0) ls (ls ++ new_line s r n ∷ []) (ne_eqb n 0 (λ z. omega arith)))
          (λ t q. tally_push t q ls (new_line s r n))
          (kept_push c ls (new_line s r n) h m (record { shelf = small; row = w; some = g; most = most }) none)

      pub take_none : 0 < n → TakeMakes c s r n ls ls (Err (refusal 5 s))
      take_none g = take_refused (refusal 5 s) (short (let k = nothing in omega arith))

      pub take_idle : n ≡ 0 → TakeMakes c s r n ls ls (Ok tt)
      take_idle g =
          take_accepted None ls small (enough (omega arith)) nowhere refl
          (λ t q. let x : worth t q s r (neg_ℤ (pos n)) ≡ pos 0 = ap (λ m. worth t q s r (neg_ℤ (pos m))) g ∙ worth_none t q s r in omega (arith, ints))
          h
