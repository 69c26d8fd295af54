-- The laws of what a stock means: what puts and takes do to counts, and what they keep. Assumes nothing.
--     StockLaws       held by the contract of `stock_laws`
use Rattle.std.specs.Prelude.{◌≡◌, ℕ, suc, ◌+◌, ◌<◌, ◌≤◌, None, Ok, Err}
use Rattle.bag.specs.Order.{Row}
use Rattle.bag.specs.Bag.{lowest_row}
use Rattle.bag.specs.Refusal.{Refusal}
use Rattle.bag.specs.Columns.{IsRow}
use Rattle.stock.specs.Holding.{Holding, LawfulHolding, copies, lines_of, next_answer, put_answer, after_put, take_answer, after_take}

pub record StockLaws : Type 0 where
  -- an accepted put or take changes the count of its row by its copies, and no other count
  pub put_here : (h : Holding) → LawfulHolding h → (s : ℕ) (r : Row) (n : ℕ) → Ok tt ≡ put_answer h s r n → copies (after_put h s r n) s r ≡ copies h s r + n
  pub put_elsewhere : (h : Holding) → LawfulHolding h → (s : ℕ) (r : Row) (n t : ℕ) (q : Row) → ((t ≡ s) × (q ≡ r) → ⊥) → copies (after_put h s r n) t q ≡ copies h t q
  pub take_here : (h : Holding) → LawfulHolding h → (s : ℕ) (r : Row) (n : ℕ) → Ok tt ≡ take_answer h s r n → copies (after_take h s r n) s r + n ≡ copies h s r
  pub take_elsewhere : (h : Holding) → LawfulHolding h → (s : ℕ) (r : Row) (n t : ℕ) (q : Row) → ((t ≡ s) × (q ≡ r) → ⊥) → copies (after_take h s r n) t q ≡ copies h t q
  -- a refusal changes nothing, and neither do 0 copies
  pub put_refused : (h : Holding) (s : ℕ) (r : Row) (n : ℕ) (e : Refusal) → Err e ≡ put_answer h s r n → after_put h s r n ≡ h
  pub take_refused : (h : Holding) (s : ℕ) (r : Row) (n : ℕ) (e : Refusal) → Err e ≡ take_answer h s r n → after_take h s r n ≡ h
  pub put_none : (h : Holding) → LawfulHolding h → (s : ℕ) (r : Row) → after_put h s r 0 ≡ h
  pub take_none : (h : Holding) → LawfulHolding h → (s : ℕ) (r : Row) → after_take h s r 0 ≡ h
  -- there is nothing on a shelf above 15
  pub no_copies_past : (h : Holding) → LawfulHolding h → (s : ℕ) (r : Row) → 15 < s → copies h s r ≡ 0
  pub no_row_past : (h : Holding) → LawfulHolding h → (s : ℕ) (r : Row) → 15 < s → next_answer h s r ≡ None
  -- a line that falls to 0 frees its room
  pub room_freed : (h : Holding) → LawfulHolding h → (s : ℕ) (r : Row) → 1 ≤ copies h s r → suc (lines_of (after_take h s r (copies h s r))) ≡ lines_of h
  -- puts and takes of rows keep a holding lawful, and the lowest row is one
  pub put_lawful : (h : Holding) → LawfulHolding h → (s : ℕ) (r : Row) (n : ℕ) → IsRow r → LawfulHolding (after_put h s r n)
  pub take_lawful : (h : Holding) → LawfulHolding h → (s : ℕ) (r : Row) (n : ℕ) → IsRow r → LawfulHolding (after_take h s r n)
  pub lowest_is_a_row : IsRow lowest_row
