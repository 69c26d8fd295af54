-- When puts and takes are accepted, and what they leave then, for every lawful holding. Assumes nothing.
--     count_is_copies      a count in a lawful holding is not negative
--     none_more            0 copies more change nothing
--     RoomFor s r h        the row is there, or the lines do not equal the capacity
--     room_from            it is so where the test of both fails
--     put_accepted, take_accepted        the answer is Ok
--     left_by_put, left_by_take          and the copies are there or gone
use Rattle.std.proofs.Common.{◌≡◌, ℕ, ◌+◌, ◌≤◌, Bool, true, false, ◌&&◌, eqb, ltb, ◌⊎◌, [], set, ℤ, pos, negsuc, ◌+ℤ◌, neg_ℤ, nat_abs, ◌≤ℤ◌, Ok, sym, refl, ap, ◌∙◌, inl, inr, ⊎_elim, arith}
use lib.IntN.{+ℤ_idl}
use Rattle.std.proofs.lemmas.Int.{ints}
use Rattle.std.proofs.lemmas.List.{set-get_or}
use Rattle.std.proofs.lemmas.Bool.{le-ltb, ne_eqb, eqb-false, and_cases}
use Rattle.bag.specs.Order.{Row, row_order}
use Rattle.bag.specs.Bag.{count, add_copies}
use Rattle.bag.proofs.CanonicalForm.{canonical_add_copies, equal_counts}
use Rattle.bag.specs.Integers.{count_add_copies, if_equal_zero}
use Rattle.bag.proofs.OperatorBags.{count_low}
use Rattle.bag.specs.Refusal.{left_by}
use Rattle.stock.specs.Holding.{Holding, LawfulHolding, shelf_of, copies, lines_of, with_copies, lacks_room, put_answer, after_put, take_answer, after_take}

not_negative : (z : ℤ) → pos 0 ≤ℤ z → z ≡ pos (nat_abs z)
not_negative (pos n) h = refl
not_negative (negsuc n) h = absurd (let y : ⊥ = omega (arith, ints) in y)

pub count_is_copies : (h : Holding) → LawfulHolding h → (s : ℕ) (r : Row) → count (shelf_of h s) r ≡ pos (copies h s r)
count_is_copies h lawful s r = not_negative (count (shelf_of h s) r) (count_low (shelf_of h s) (lawful.bags s).1 r)

pub none_more : (h : Holding) → LawfulHolding h → (s : ℕ) (r : Row) → with_copies h s r (pos 0) ≡ h
none_more h lawful s r =
    let bag = shelf_of h s in
    let same : add_copies r (pos 0) bag ≡ bag = equal_counts (add_copies r (pos 0) bag) bag (canonical_add_copies r (pos 0) bag (lawful.bags s).0) (lawful.bags s).0 (λ q. count_add_copies r (pos 0) bag q ∙ ap (λ n. n +ℤ count bag q) (if_equal_zero (row_order r q)) ∙ +ℤ_idl (count bag q)) in
    ap (λ v. record { capacity = h.capacity; shelves = v }) (ap (set h.shelves s) same ∙ set-get_or h.shelves s [])

abbrev pub RoomFor : ℕ → Row → Holding → Type 0
RoomFor s r h = (1 ≤ copies h s r) ⊎ (lines_of h ≡ h.capacity → ⊥)

pub room_from : (h : Holding) (s : ℕ) (r : Row) (m lines capacity : ℕ) → m ≡ copies h s r → lines ≡ lines_of h → capacity ≡ h.capacity → (eqb m 0 && eqb lines capacity) ≡ false → RoomFor s r h
room_from h s r m lines capacity e f g t =
    ⊎_elim (λ (q : eqb m 0 ≡ false). let ne = eqb-false m 0 q in inl (omega (arith, ne)))
    (λ (q : eqb lines capacity ≡ false). inr (λ full. eqb-false lines capacity q (f ∙ full ∙ sym g)))
    (and_cases (eqb m 0) (eqb lines capacity) t)

module _ (h : Holding) (s : ℕ) (r : Row) (n : ℕ) (low : s ≤ 15) where
  room_enough : (n ≡ 0) ⊎ RoomFor s r h → lacks_room h s r n ≡ false
  room_enough (inl none) = ap (λ b. b && (eqb (copies h s r) 0 && eqb (lines_of h) h.capacity)) (le-ltb 0 n (omega arith))
  room_enough (inr (inl there)) = by (ltb 0 n) (ne_eqb (copies h s r) 0 (λ e. let y : ⊥ = omega arith in y))
    where
      by : (a : Bool) → eqb (copies h s r) 0 ≡ false → (a && (eqb (copies h s r) 0 && eqb (lines_of h) h.capacity)) ≡ false
      by true e = ap (λ b. b && eqb (lines_of h) h.capacity) e
      by false e = refl
  room_enough (inr (inr free)) = by (ltb 0 n) (eqb (copies h s r) 0) (ne_eqb (lines_of h) h.capacity free)
    where
      by : (a b : Bool) → eqb (lines_of h) h.capacity ≡ false → (a && (b && eqb (lines_of h) h.capacity)) ≡ false
      by true true e = e
      by true false e = refl
      by false b e = refl

  pub put_accepted : copies h s r + n ≤ 65535 → (n ≡ 0) ⊎ RoomFor s r h → Ok tt ≡ put_answer h s r n
  put_accepted most room = sym (rw (le-ltb 15 s low, le-ltb 65535 (copies h s r + n) most, room_enough room) refl)

  pub take_accepted : n ≤ copies h s r → Ok tt ≡ take_answer h s r n
  take_accepted enough = sym (rw (le-ltb 15 s low, le-ltb (copies h s r) n enough) refl)

  pub left_by_put : Ok tt ≡ put_answer h s r n → with_copies h s r (pos n) ≡ after_put h s r n
  left_by_put e = ap (λ a. left_by a h (with_copies h s r (pos n))) e

  pub left_by_take : Ok tt ≡ take_answer h s r n → with_copies h s r (neg_ℤ (pos n)) ≡ after_take h s r n
  left_by_take e = ap (λ a. left_by a h (with_copies h s r (neg_ℤ (pos n)))) e
