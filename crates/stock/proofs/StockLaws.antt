-- The laws of what a stock means. Assumes nothing.
--     stock_laws      all of them
use Rattle.std.proofs.Common.{◌≡◌, ℕ, zero, suc, ◌+◌, ◌-◌, ◌<◌, ◌≤◌, false, eqb, ◌⊎◌, [], ℤ, pos, negsuc, ◌+ℤ◌, neg_ℤ, nat_abs, None, Ok, sym, refl, ap, ◌∙◌, subst, inl, inr, ⊎_elim, arith, w32, SFits}
use lib.IntN.{+ℤ_comm}
use mir.Facts.{sfits_lit}
use Rattle.std.specs.Option.{option_map}
use Rattle.std.proofs.lemmas.Int.{ints}
use Rattle.std.proofs.lemmas.List.{get_or_past}
use Rattle.std.proofs.lemmas.Bool.{cases_eq, cases_lt, lt-ltb, eq-eqb, eqb-false}
use Rattle.bag.specs.Order.{Row}
use Rattle.bag.specs.Bag.{is_zero, count, next, lowest_row}
use Rattle.bag.specs.Propagation.{one_if}
use Rattle.bag.proofs.LineCounts.{length_add_copies}
use Rattle.bag.specs.Refusal.{left_by}
use Rattle.bag.specs.Columns.{IsRow}
use Rattle.stock.specs.Holding.{Holding, LawfulHolding, shelf_of, copies, lines_of, row_and_count, next_answer, with_copies, put_answer, after_put, take_answer, after_take}
use Rattle.stock.specs.Laws.{StockLaws}
use Rattle.stock.proofs.Rows.{some_not_zero}
use Rattle.stock.proofs.Accepted.{count_is_copies, none_more, take_accepted, left_by_put, left_by_take}
use Rattle.stock.proofs.Copies.{put_says, take_says, left_either, copies_here, copies_elsewhere, lines_after, lawful_moved}

added : (c n : ℕ) → pos n +ℤ pos c ≡ pos (c + n)
added c n = omega (arith, ints)

taken_off : (c n : ℕ) → n ≤ c → neg_ℤ (pos n) +ℤ pos c ≡ pos (c - n)
taken_off c n l = omega (arith, ints)

none_zero : (n : ℕ) → 1 ≤ n → is_zero (neg_ℤ (pos n)) ≡ false
none_zero zero l = absurd (let z : ⊥ = omega arith in z)
none_zero (suc n) l = refl

module _ (h : Holding) (lawful : LawfulHolding h) (s : ℕ) (r : Row) where
  past_empty : 15 < s → shelf_of h s ≡ []
  past_empty l = let e = lawful.sixteen in get_or_past h.shelves s [] (omega arith)

  no_copies_past : 15 < s → copies h s r ≡ 0
  unfolding count
  no_copies_past l = ap (λ b. nat_abs (count b r)) (past_empty l)

  no_row_past : 15 < s → next_answer h s r ≡ None
  unfolding next
  no_row_past l = ap (λ b. option_map row_and_count (next b r)) (past_empty l)

  -- a row that is there stays one line, and one that is not becomes one
  lines_at : (z : ℤ) (m : ℕ) → s ≤ 15 → z +ℤ pos (copies h s r) ≡ pos m → is_zero z ≡ false → lines_of (with_copies h s r z) + one_if (is_zero (pos m)) ≡ lines_of h + one_if (is_zero (pos (copies h s r)))
  lines_at z m low sum some =
      let c = count_is_copies h lawful s r in
      let l = lines_after h lawful s r low z m sum in
      let a = length_add_copies r z (shelf_of h s) (lawful.bags s).0 some in
      let e : one_if (is_zero (count (shelf_of h s) r +ℤ z)) ≡ one_if (is_zero (pos m)) = ap (λ k. one_if (is_zero k)) (ap (λ k. k +ℤ z) c ∙ +ℤ_comm (pos (copies h s r)) z ∙ sum) in
      let f : one_if (is_zero (count (shelf_of h s) r)) ≡ one_if (is_zero (pos (copies h s r))) = ap (λ k. one_if (is_zero k)) c in
      omega arith

  room_freed : 1 ≤ copies h s r → suc (lines_of (after_take h s r (copies h s r))) ≡ lines_of h
  room_freed there = ⊎_elim (λ (past : 15 < s). let z = no_copies_past past in absurd (let y : ⊥ = omega arith in y)) freed (cases_lt 15 s)
    where
      freed : s ≤ 15 → suc (lines_of (after_take h s r (copies h s r))) ≡ lines_of h
      freed low =
          let c = copies h s r in
          let same : neg_ℤ (pos c) +ℤ pos c ≡ pos 0 = omega (arith, ints) in
          let l = lines_at (neg_ℤ (pos c)) 0 low same (none_zero c there) in
          let f : one_if (is_zero (pos c)) ≡ 0 = ap one_if (some_not_zero c there) in
          let e = ap lines_of (left_by_take h s r c low (take_accepted h s r c low (omega arith))) in
          omega arith

  module _ (n : ℕ) where
    put_here : Ok tt ≡ put_answer h s r n → copies (after_put h s r n) s r ≡ copies h s r + n
    put_here ok =
        let low = (put_says h s r n ok).0 in
        sym (ap (λ k. copies k s r) (left_by_put h s r n low ok)) ∙ copies_here h lawful s r low (pos n) (copies h s r + n) (added (copies h s r) n)

    put_elsewhere : (t : ℕ) (q : Row) → ((t ≡ s) × (q ≡ r) → ⊥) → copies (after_put h s r n) t q ≡ copies h t q
    put_elsewhere t q apart =
        left_either (λ k. copies k t q ≡ copies h t q) (put_answer h s r n) h (with_copies h s r (pos n)) refl (λ ok. copies_elsewhere h lawful s r (put_says h s r n ok).0 (pos n) (copies h s r + n) (added (copies h s r) n) t q apart)

    take_here : Ok tt ≡ take_answer h s r n → copies (after_take h s r n) s r + n ≡ copies h s r
    take_here ok =
        let p = take_says h s r n ok in
        let enough = p.1 in
        let e = sym (ap (λ k. copies k s r) (left_by_take h s r n p.0 ok)) ∙ copies_here h lawful s r p.0 (neg_ℤ (pos n)) (copies h s r - n) (taken_off (copies h s r) n enough) in
        omega arith

    take_elsewhere : (t : ℕ) (q : Row) → ((t ≡ s) × (q ≡ r) → ⊥) → copies (after_take h s r n) t q ≡ copies h t q
    take_elsewhere t q apart =
        left_either (λ k. copies k t q ≡ copies h t q) (take_answer h s r n) h (with_copies h s r (neg_ℤ (pos n))) refl (λ ok. let p = take_says h s r n ok in
        copies_elsewhere h lawful s r p.0 (neg_ℤ (pos n)) (copies h s r - n) (taken_off (copies h s r) n p.1) t q apart)

    room_kept : (low : s ≤ 15) → 1 ≤ n → Ok tt ≡ put_answer h s r n → lines_of (with_copies h s r (pos n)) ≤ h.capacity
    room_kept low some ok = by (cases_eq (copies h s r) 0)
      where
        l : lines_of (with_copies h s r (pos n)) + one_if (is_zero (pos (copies h s r + n))) ≡ lines_of h + one_if (is_zero (pos (copies h s r)))
        l = lines_at (pos n) (copies h s r + n) low (added (copies h s r) n) (some_not_zero n some)

        by : (copies h s r ≡ 0) ⊎ (copies h s r ≡ 0 → ⊥) → lines_of (with_copies h s r (pos n)) ≤ h.capacity
        by (inl none) =
            let f : one_if (is_zero (pos (copies h s r))) ≡ 1 = ap (λ k. one_if (is_zero (pos k))) none in
            let full : eqb (lines_of h) h.capacity ≡ false = rw (lt-ltb 0 n some, eq-eqb (copies h s r) 0 none) at (put_says h s r n ok).2 in
            let ne = eqb-false (lines_of h) h.capacity full in
            let room = lawful.room in
            let k = l in
            let less : lines_of h < h.capacity = omega (arith, ne) in
            omega arith
        by (inr there) =
            let f : one_if (is_zero (pos (copies h s r))) ≡ 0 = ap one_if (some_not_zero (copies h s r) (omega (arith, there))) in
            let room = lawful.room in
            let k = l in
            omega arith

    put_lawful : IsRow r → LawfulHolding (after_put h s r n)
    put_lawful row = left_either LawfulHolding (put_answer h s r n) h (with_copies h s r (pos n)) lawful (λ ok. by ok (cases_eq n 0))
      where
        by : Ok tt ≡ put_answer h s r n → (n ≡ 0) ⊎ (n ≡ 0 → ⊥) → LawfulHolding (with_copies h s r (pos n))
        by ok (inl none) = subst (λ k. LawfulHolding (with_copies h s r (pos k))) (sym none) (subst LawfulHolding (sym (none_more h lawful s r)) lawful)
        by ok (inr some) =
            let p = put_says h s r n ok in
            lawful_moved h lawful s r p.0 (pos n) (copies h s r + n) (added (copies h s r) n) p.1 row (room_kept p.0 (omega (arith, some)) ok)

    take_lawful : IsRow r → LawfulHolding (after_take h s r n)
    take_lawful row = left_either LawfulHolding (take_answer h s r n) h (with_copies h s r (neg_ℤ (pos n))) lawful (λ ok. by ok (cases_eq n 0))
      where
        by : Ok tt ≡ take_answer h s r n → (n ≡ 0) ⊎ (n ≡ 0 → ⊥) → LawfulHolding (with_copies h s r (neg_ℤ (pos n)))
        by ok (inl none) = subst (λ k. LawfulHolding (with_copies h s r (neg_ℤ (pos k)))) (sym none) (subst LawfulHolding (sym (none_more h lawful s r)) lawful)
        by ok (inr some) =
            let p = take_says h s r n ok in
            let enough = p.1 in
            let most = lawful.counts s r in
            let room = lawful.room in
            let sum = taken_off (copies h s r) n enough in
            let l = lines_at (neg_ℤ (pos n)) (copies h s r - n) p.0 sum (none_zero n (omega (arith, some))) in
            let there : 1 ≤ copies h s r = omega (arith, some) in
            let f : one_if (is_zero (pos (copies h s r))) ≡ 0 = ap one_if (some_not_zero (copies h s r) there) in
            lawful_moved h lawful s r p.0 (neg_ℤ (pos n)) (copies h s r - n) sum (omega arith) row (omega arith)

lowest_fits : SFits w32 (negsuc 2147483647)
lowest_fits = sfits_lit tt

lowest_is_a_row : IsRow lowest_row
lowest_is_a_row = let f = lowest_fits in (refl, (f, (f, (f, (f, (f, (f, (f, (f, tt)))))))))

pub stock_laws : StockLaws
stock_laws =
    record {
      put_here = put_here;
      put_elsewhere = put_elsewhere;
      take_here = take_here;
      take_elsewhere = take_elsewhere;
      put_refused = λ h s r n e q. ap (λ a. left_by a h (with_copies h s r (pos n))) (sym q);
      take_refused = λ h s r n e q. ap (λ a. left_by a h (with_copies h s r (neg_ℤ (pos n)))) (sym q);
      put_none = λ h lawful s r. left_either (λ k. k ≡ h) (put_answer h s r 0) h (with_copies h s r (pos 0)) refl (λ ok. none_more h lawful s r);
      take_none = λ h lawful s r. left_either (λ k. k ≡ h) (take_answer h s r 0) h (with_copies h s r (neg_ℤ (pos 0))) refl (λ ok. none_more h lawful s r);
      no_copies_past = no_copies_past;
      no_row_past = no_row_past;
      room_freed = room_freed;
      put_lawful = put_lawful;
      take_lawful = take_lawful;
      lowest_is_a_row = lowest_is_a_row;
    }
