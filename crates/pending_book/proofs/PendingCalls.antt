-- What a put and a take of the sum are answered, and how many lines they leave. Assumes nothing.
--     put_ok, put_full, full_answer      the answers
--     no_copies                      no copies change nothing
--     some_gain, some_loss           a number of copies is a change
--     accepts_gain, accepts_loss     a put or a take that is accepted leaves a lawful holding
--     lines_more, lines_kept, lines_less, lines_left      the lines that it leaves
use Rattle.std.proofs.Common.{w32, SFits, to_z, of_z, ◌-ℤ◌, rules, ◌≡◌, ℕ, zero, suc, ◌+◌, ◌-◌, ◌<◌, ◌≤◌, Bool, true, false, ◌&&◌, eqb, ltb, length, ℤ, pos, ◌+ℤ◌, neg_ℤ, Ok, Err, sym, refl, ap, ◌∙◌, subst, arith}
use Rattle.std.proofs.lemmas.List.{length-set}
use Rattle.std.proofs.lemmas.Int.{ints, to_z-of_z}
use Rattle.std.proofs.Math.Facts.{to_z_pos}
use Rattle.std.proofs.lemmas.Bool.{le-ltb, lt-ltb, eq-eqb, ne_eqb}
use Rattle.bag.specs.Order.{Row, row_order}
use Rattle.bag.specs.Bag.{is_zero, count, add_copies}
use Rattle.bag.specs.Propagation.{one_if}
use Rattle.bag.specs.Integers.{if_equal_zero}
use Rattle.bag.specs.Refusal.{refusal}
use Rattle.bag.specs.Columns.{IsRow}
use Rattle.stock.specs.Holding.{Holding, LawfulHolding, shelf_of, copies, lines_of, with_copies, lacks_room, put_answer}
use Rattle.settling.specs.Keys.{key}
use Rattle.pending_book.specs.Sums.{Accepts, gain_of, loss_of}
use Rattle.settling.proofs.HoldingCounts.{same_holding, count_with_copies, canonical_with_copies, copies_are, canonical_of}
use Rattle.settling.proofs.HoldingLines.{lines_with_copies}

module _ (h : Holding) (s : ℕ) (r : Row) (n : ℕ) where
  pub put_ok : s ≤ 15 → copies h s r + n ≤ 65535 → lacks_room h s r n ≡ false → put_answer h s r n ≡ Ok tt
  put_ok l m room = rw (le-ltb 15 s l, le-ltb 65535 (copies h s r + n) m, room)

  pub put_full : s ≤ 15 → copies h s r + n ≤ 65535 → lacks_room h s r n ≡ true → put_answer h s r n ≡ Err (refusal 9 h.capacity)
  put_full l m room = rw (le-ltb 15 s l, le-ltb 65535 (copies h s r + n) m, room)

  pub full_answer : (capacity : ℕ) → s ≤ 15 → copies h s r + n ≤ 65535 → lacks_room h s r n ≡ true → capacity ≡ h.capacity → Err (refusal 9 capacity) ≡ put_answer h s r n
  full_answer capacity l m room same = ap (λ c. Err (refusal 9 c)) same ∙ sym (put_full l m room)

  pub room_present : 0 < copies h s r → lacks_room h s r n ≡ false
  room_present l = rw (ne_eqb (copies h s r) 0 (λ e. omega (arith, e))) (and_false (ltb 0 n))
    where
      and_false : (b : Bool) → (b && false) ≡ false
      and_false true = refl
      and_false false = refl

  pub room_free : lines_of h < h.capacity → lacks_room h s r n ≡ false
  room_free l = rw (ne_eqb (lines_of h) h.capacity (λ e. omega (arith, e))) (and_false (ltb 0 n) (eqb (copies h s r) 0))
    where
      and_false : (b c : Bool) → (b && (c && false)) ≡ false
      and_false true true = refl
      and_false true false = refl
      and_false false c = refl

  pub room_none : n ≡ 0 → lacks_room h s r n ≡ false
  room_none e = ap (λ m. ltb 0 m && (eqb (copies h s r) 0 && eqb (lines_of h) h.capacity)) e

  pub room_lacking : 0 < n → copies h s r ≡ 0 → lines_of h ≡ h.capacity → lacks_room h s r n ≡ true
  room_lacking l c e = rw (lt-ltb 0 n l, eq-eqb (copies h s r) 0 c, eq-eqb (lines_of h) h.capacity e)

pub no_copies : (h : Holding) (s : ℕ) (r : Row) → LawfulHolding h → with_copies h s r (pos 0) ≡ h
no_copies h s r l =
    same_holding (with_copies h s r (pos 0)) h refl long (canonical_with_copies h s r (pos 0) (canonical_of h l)) (canonical_of h l)
    (λ t b q. let a = count_with_copies h s r (pos 0) t q (subst (λ n. t < n) long b) in let z = if_equal_zero (row_order (key s r) (key t q)) in omega (arith, ints, a, z))
  where
    long : length (with_copies h s r (pos 0)).shelves ≡ length h.shelves
    long = length-set h.shelves s (add_copies r (pos 0) (shelf_of h s))

pub some_gain : (n : ℕ) → 0 < n → is_zero (pos n) ≡ false
some_gain zero l = absurd (let z : ⊥ = omega arith in z)
some_gain (suc n) l = refl

pub some_loss : (n : ℕ) → 0 < n → is_zero (neg_ℤ (pos n)) ≡ false
some_loss zero l = absurd (let z : ⊥ = omega arith in z)
some_loss (suc n) l = refl

one_at : (z : ℤ) (m : ℕ) → z ≡ pos m → 0 < m → one_if (is_zero z) ≡ 0
one_at z m e l = ap (λ y. one_if (is_zero y)) e ∙ ap one_if (some_gain m l)

one_none : (z : ℤ) → z ≡ pos 0 → one_if (is_zero z) ≡ 1
one_none z e = ap (λ y. one_if (is_zero y)) e

module _ (h : Holding) (s : ℕ) (r : Row) (n : ℕ) (l : LawfulHolding h) (low : s ≤ 15) (some : 0 < n) where
  grown : (z : ℤ) → is_zero z ≡ false → lines_of (with_copies h s r z) + one_if (is_zero (count (shelf_of h s) r +ℤ z)) ≡ lines_of h + one_if (is_zero (count (shelf_of h s) r))
  grown z e = let six = l.sixteen in lines_with_copies h s r z (omega arith) (canonical_of h l s) e

  pub lines_more : copies h s r ≡ 0 → lines_of (with_copies h s r (pos n)) ≡ lines_of h + 1
  lines_more c =
      let are = copies_are h l s r in
      let g = grown (pos n) (some_gain n some) in
      let a = one_none (count (shelf_of h s) r) (sym are ∙ ap pos c) in
      let b = one_at (count (shelf_of h s) r +ℤ pos n) n (omega (arith, ints, are, c)) some in
      omega (arith, g, a, b)

  pub lines_kept : 0 < copies h s r → lines_of (with_copies h s r (pos n)) ≡ lines_of h
  lines_kept c =
      let are = copies_are h l s r in
      let g = grown (pos n) (some_gain n some) in
      let a = one_at (count (shelf_of h s) r) (copies h s r) (sym are) c in
      let b = one_at (count (shelf_of h s) r +ℤ pos n) (copies h s r + n) (omega (arith, ints, are)) (omega arith) in
      omega (arith, g, a, b)

  pub lines_left : n < copies h s r → lines_of (with_copies h s r (neg_ℤ (pos n))) ≡ lines_of h
  lines_left c =
      let are = copies_are h l s r in
      let g = grown (neg_ℤ (pos n)) (some_loss n some) in
      let a = one_at (count (shelf_of h s) r) (copies h s r) (sym are) (omega arith) in
      let m = less_by n (copies h s r) c in
      let b = one_at (count (shelf_of h s) r +ℤ neg_ℤ (pos n)) m.0 (let q = m.2 in omega (arith, ints, are, q)) m.1 in
      omega (arith, g, a, b)
    where
      less_by : (a b : ℕ) → a < b → (m : ℕ) × (0 < m) × (b ≡ a + m)
      less_by a b h = (b - a, omega arith, omega arith)

  pub lines_less : copies h s r ≡ n → lines_of (with_copies h s r (neg_ℤ (pos n))) + 1 ≡ lines_of h
  lines_less c =
      let are = copies_are h l s r in
      let g = grown (neg_ℤ (pos n)) (some_loss n some) in
      let a = one_at (count (shelf_of h s) r) (copies h s r) (sym are) (omega arith) in
      let b = one_none (count (shelf_of h s) r +ℤ neg_ℤ (pos n)) (omega (arith, ints, are, c)) in
      omega (arith, g, a, b)

  pub accepts_gain : IsRow r → copies h s r + n ≤ 65535 → lines_of (with_copies h s r (pos n)) ≤ h.capacity → Accepts h (gain_of s r n)
  accepts_gain row m room =
      let are = copies_are h l s r in
      record { some = some_gain n some; shelf = low; row = row; counts = (omega (arith, ints, are), omega (arith, ints, are)); room = room }

  pub accepts_loss : IsRow r → n ≤ copies h s r → lines_of (with_copies h s r (neg_ℤ (pos n))) ≤ h.capacity → Accepts h (loss_of s r n)
  accepts_loss row m room =
      let are = copies_are h l s r in
      let most = l.counts s r in
      record { some = some_loss n some; shelf = low; row = row; counts = (omega (arith, ints, are), omega (arith, ints, are)); room = room }

-- the changes, as the signed numbers that they are made of
pub gain_number : (n : ℕ) → n < 65536 → to_z w32 n ≡ pos n
gain_number n m = to_z_pos w32 {n = n} (omega (arith, m))

pub loss_number : (n : ℕ) → n < 65536 → to_z w32 (of_z w32 (pos 0 -ℤ to_z w32 n)) ≡ neg_ℤ (pos n)
loss_number n m =
    let f : SFits w32 (neg_ℤ (pos n)) = search (rules, m) in
    ap (λ z. to_z w32 (of_z w32 z)) (let e = gain_number n m in let q : pos 0 -ℤ to_z w32 n ≡ neg_ℤ (pos n) = omega (arith, ints, e) in q) ∙ to_z-of_z w32 (neg_ℤ (pos n)) f
