-- What putting and taking do to an ordered stock, told from what the table did. Assumes nothing.
--     Done a b h answer                    b is sound and means h, and the answer is as said
--     put_done, take_done, take_freed      a line stored anew by a put or a take, or taken out
--     nothing_put, nothing_taken           0 copies
use Rattle.std.proofs.Common.{◌≡◌, ℕ, ◌+◌, ◌-◌, ◌<◌, ◌≤◌, pos, ◌+ℤ◌, neg_ℤ, Ok, Result, sym, ap, ◌∙◌, inl, inr, arith}
use Rattle.std.proofs.lemmas.Int.{ints}
use Rattle.bag.specs.declared.lines.StockLine.{StockLine}
use Rattle.bag.specs.Order.{Row, stock_line_order}
use Rattle.bag.specs.Bag.{count}
use Rattle.table.specs.Entries.{with_entry, without_key}
use Rattle.table.specs.Tables.{items, SameRun}
use Rattle.table.specs.LineTables.{StockTable}
use Rattle.bag.specs.Refusal.{Refusal}
use Rattle.bag.specs.Columns.{IsRow}
use Rattle.stock.specs.Holding.{Holding, copies, shelf_of, with_copies, put_answer, after_put, take_answer, after_take}
use Rattle.ordered_stock.specs.OnTable.{held_in as held, SoundOn}
use Rattle.stock.proofs.Accepted.{RoomFor, count_is_copies, none_more, put_accepted, take_accepted, left_by_put, left_by_take}
use Rattle.ordered_stock.proofs.Stored.{stored, freed}

pub record Done (b : StockTable) (h : Holding) (answer : Result (Unit {0}) Refusal) : Type 0 where
  pub sound : SoundOn b
  pub after : held b ≡ h
  pub accepted : Ok tt ≡ answer

abbrev pub line : ℕ → Row → ℕ → StockLine
line s r n = record { shelf = s; row = r; count = n }

module _ (a : StockTable) (sa : SoundOn a) (s : ℕ) (r : Row) (n : ℕ) (low : s ≤ 15) (m : ℕ) (there : m ≡ copies (held a) s r) where
  counted : count (shelf_of (held a) s) r ≡ pos m
  counted = count_is_copies (held a) sa.holding s r ∙ ap pos (sym there)

  pub nothing_put : n ≡ 0 → m ≤ 65535 → Done a (after_put (held a) s r n) (put_answer (held a) s r n)
  nothing_put none most =
      let ok = put_accepted (held a) s r n low (omega arith) (inl none) in
      record { sound = sa; after = sym (none_more (held a) sa.holding s r) ∙ ap (λ k. with_copies (held a) s r (pos k)) (sym none) ∙ left_by_put (held a) s r n low ok; accepted = ok }

  pub nothing_taken : n ≡ 0 → Done a (after_take (held a) s r n) (take_answer (held a) s r n)
  nothing_taken none =
      let ok = take_accepted (held a) s r n low (omega arith) in
      record { sound = sa; after = sym (none_more (held a) sa.holding s r) ∙ ap (λ k. with_copies (held a) s r (neg_ℤ (pos k))) (sym none) ∙ left_by_take (held a) s r n low ok; accepted = ok }

  module _ (b : StockTable) (same : SameRun a b) where
    pub put_done : IsRow r → m + n ≤ 65535 → 1 ≤ n → RoomFor s r (held a) → items b ≡ (with_entry stock_line_order (line s r (m + n)) (items a)) → Done b (after_put (held a) s r n) (put_answer (held a) s r n)
    put_done row most some room h =
        let ok = put_accepted (held a) s r n low (omega arith) (inr room) in
        let sum : pos (m + n) ≡ pos n +ℤ pos m = omega (arith, ints) in
        let d = stored a b sa same (line s r (m + n)) low (pos n) h (record { shelf = low; row = row; some = omega arith; most = most }) room (sum ∙ ap (λ k. pos n +ℤ k) (sym counted)) in
        record { sound = d.sound; after = d.after ∙ left_by_put (held a) s r n low ok; accepted = ok }

    pub take_done : IsRow r → m ≤ 65535 → n < m → items b ≡ (with_entry stock_line_order (line s r (m - n)) (items a)) → Done b (after_take (held a) s r n) (take_answer (held a) s r n)
    take_done row most some h =
        let ok = take_accepted (held a) s r n low (omega arith) in
        let sum : pos (m - n) ≡ neg_ℤ (pos n) +ℤ pos m = omega (arith, ints) in
        let d = stored a b sa same (line s r (m - n)) low (neg_ℤ (pos n)) h (record { shelf = low; row = row; some = omega arith; most = omega arith }) (inl (omega arith)) (sum ∙ ap (λ k. neg_ℤ (pos n) +ℤ k) (sym counted)) in
        record { sound = d.sound; after = d.after ∙ left_by_take (held a) s r n low ok; accepted = ok }

    pub take_freed : n ≡ m → items b ≡ (without_key stock_line_order (line s r (m - n)) (items a)) → Done b (after_take (held a) s r n) (take_answer (held a) s r n)
    take_freed all h =
        let ok = take_accepted (held a) s r n low (omega arith) in
        let sum : pos 0 ≡ neg_ℤ (pos n) +ℤ pos m = omega (arith, ints) in
        let d = freed a b sa same (line s r (m - n)) low (neg_ℤ (pos n)) h (sum ∙ ap (λ k. neg_ℤ (pos n) +ℤ k) (sym counted)) in
        record { sound = d.sound; after = d.after ∙ left_by_take (held a) s r n low ok; accepted = ok }
