-- What adding a line to the table, or taking one out, makes of the stock on it. Assumes nothing.
--     stored               the line e added, and so z copies more of its row
--     freed                the line with e's key taken out
--     never_full           the table has room where the stock has
--     accepted             so it accepts the line
--     still_accepted       which stays so where only a refusal is told otherwise
use Rattle.std.proofs.Common.{◌≡◌, ℕ, suc, ◌<◌, ◌≤◌, min, Bool, true, false, cond, List, [], length, get_or, set, ℤ, pos, ◌+ℤ◌, Some, Ok, Err, Result, MatchResult, sym, refl, ap, ◌∙◌, subst, ap₂, inl, inr, arith}
use Rattle.std.specs.List.{AllByRecursion}
use Rattle.bag.specs.declared.lines.StockLine.{StockLine}
use Rattle.bag.specs.Order.{Row, stock_line_order}
use Rattle.bag.specs.Bag.{Lines, count, add_copies}
use Rattle.table.specs.declared.full.Full.{Full}
use Rattle.table.specs.Order.{same_key}
use Rattle.table.specs.Entries.{Ascending, has_key, entry_of, with_entry, without_key}
use Rattle.table.specs.Refusals.{refusal_of, refusal_in}
use Rattle.table.specs.Tables.{items, capacity, SameRun, add_answer}
use Rattle.table.proofs.Ascends.{all_with, all_without}
use Rattle.table.proofs.Lookups.{entry_of_with, entry_of_with_other, entry_of_without, entry_of_without_other, length_with, length_without}
use Rattle.table.proofs.Answered.{refused_since}
use Rattle.table.specs.LineTables.{StockTable}
use Rattle.stock.specs.Holding.{copies, lines_of, with_copies}
use Rattle.stock.specs.Holding.{LawfulLine}
use Rattle.ordered_stock.specs.OnTable.{shelves_of, held_in as held, SoundOn}
use Rattle.stock.proofs.Accepted.{RoomFor}
use Rattle.ordered_stock.proofs.OnShelf.{found_count}
use Rattle.ordered_stock.proofs.Shelves.{shelf_at, one_key_changed, absent_count}
use Rattle.ordered_stock.proofs.SoundOrdered.{stock_law, lines_held, copies_found, sound_from}

pub record Changed (a b : StockTable) (s : ℕ) (r : Row) (z : ℤ) : Type 0 where
  pub sound : SoundOn b
  pub after : held b ≡ with_copies (held a) s r z

module _ (a b : StockTable) (sa : SoundOn a) (same : SameRun a b) (e : StockLine) (low : e.shelf ≤ 15) (z : ℤ) where
  abbrev old : Lines
  old = get_or (held a).shelves e.shelf []

  changed : (ys : List StockLine) → items b ≡ ys → AllByRecursion LawfulLine ys → length ys ≤ 4096
      → pos (found_count (entry_of stock_line_order e ys)) ≡ z +ℤ count old e.row
      → ((k : StockLine) → same_key stock_line_order k e ≡ false → entry_of stock_line_order k ys ≡ entry_of stock_line_order k (items a))
      → Changed a b e.shelf e.row z
  changed ys q all few here others =
      let lines : AllByRecursion LawfulLine (items b) = subst (AllByRecursion LawfulLine) (sym q) all in
      let up : Ascending stock_line_order ys = subst (Ascending stock_line_order) q b.ascending in
      let at = shelf_at e.shelf (items a) low in
      let shelves = one_key_changed stock_law e (items a) ys a.ascending up sa.lines all others z low (here ∙ ap (λ v. z +ℤ count v e.row) at) in
      record {
        sound = sound_from b lines (subst (λ v. length v ≤ 4096) (sym q) few);
        after = ap₂ (λ c (v : List Lines). record { capacity = c; shelves = v }) (ap (λ n. min n 4096) same.long) (ap shelves_of q ∙ shelves ∙ ap (λ v. set (shelves_of (items a)) e.shelf (add_copies e.row z v)) (sym at));
      }

  few_with : RoomFor e.shelf e.row (held a) → length (with_entry stock_line_order e (items a)) ≤ 4096
  few_with room = by (has_key stock_line_order e (items a)) refl (length_with stock_law e (items a) a.ascending) room
    where
      by : (b : Bool) → has_key stock_line_order e (items a) ≡ b
          → length (with_entry stock_line_order e (items a)) ≡ cond b (length (items a)) (suc (length (items a)))
          → RoomFor e.shelf e.row (held a) → length (with_entry stock_line_order e (items a)) ≤ 4096
      by true h l room = let n = lines_held a sa.lines in let m = sa.holding.room in omega arith
      by false h l (inl there) =
          let none = copies_found a sa.lines e.shelf e.row low e refl refl ∙ absent_count e (items a) h in
          absurd (let y : ⊥ = omega arith in y)
      by false h l (inr free) =
          let n = lines_held a sa.lines in
          let m = sa.holding.room in
          let less : lines_of (held a) < (held a).capacity = omega (arith, free) in
          omega arith

  few_without : length (without_key stock_line_order e (items a)) ≤ 4096
  few_without = by (has_key stock_line_order e (items a)) (length_without stock_line_order e (items a))
    where
      by : (b : Bool) → length (items a) ≡ cond b (suc (length (without_key stock_line_order e (items a)))) (length (without_key stock_line_order e (items a)))
          → length (without_key stock_line_order e (items a)) ≤ 4096
      by true l = let n = lines_held a sa.lines in let m = sa.holding.room in omega arith
      by false l = let n = lines_held a sa.lines in let m = sa.holding.room in omega arith

  pub stored : items b ≡ (with_entry stock_line_order e (items a)) → LawfulLine e → RoomFor e.shelf e.row (held a) → pos e.count ≡ z +ℤ count old e.row → Changed a b e.shelf e.row z
  stored h lawful room here = changed (with_entry stock_line_order e (items a)) h (all_with stock_line_order LawfulLine e (items a) lawful sa.lines) (few_with room) (ap (λ o. pos (found_count o)) (entry_of_with stock_law e (items a)) ∙ here) (λ k n. entry_of_with_other stock_law e k (items a) n)

  pub freed : items b ≡ (without_key stock_line_order e (items a)) → pos 0 ≡ z +ℤ count old e.row → Changed a b e.shelf e.row z
  freed h here = changed (without_key stock_line_order e (items a)) h (all_without stock_line_order LawfulLine e (items a) sa.lines) few_without (ap (λ o. pos (found_count o)) (entry_of_without stock_law e (items a) a.ascending) ∙ here) (λ k n. entry_of_without_other stock_law e k (items a) n)

pub never_full : (a : StockTable) → SoundOn a → (e : StockLine) → e.shelf ≤ 15 → RoomFor e.shelf e.row (held a) → (f : Full) → Some (refusal_of f) ≡ add_answer stock_line_order (capacity a) e (items a) → ⊥
never_full a sa e low room f q = by room
  where
    none : copies (held a) e.shelf e.row ≡ 0
    none = copies_found a sa.lines e.shelf e.row low e refl refl ∙ absent_count e (items a) (refused_since stock_line_order (capacity a) e (items a) f q).absent

    by : RoomFor e.shelf e.row (held a) → ⊥
    by (inl there) = let n = none in omega arith
    by (inr free) =
        let n = lines_held a sa.lines in
        let m = sa.holding.room in
        let full = (refused_since stock_line_order (capacity a) e (items a) f q).full in
        free (omega arith)

pub accepted : (a : StockTable) → SoundOn a → (e : StockLine) → e.shelf ≤ 15 → RoomFor e.shelf e.row (held a) → (r : Result (Unit {0}) Full) → refusal_in r ≡ add_answer stock_line_order (capacity a) e (items a) → r ≡ Ok tt
accepted a sa e low room (Ok u) q = refl
accepted a sa e low room (Err f) q = absurd (never_full a sa e low room f q)

pub still_accepted : {E F : Type 0} (P : E → Type 0) (q : Result (Unit {0}) E) (r : Result (Unit {0}) F) → q ≡ Ok tt → MatchResult q (λ x. r ≡ Ok x) P → r ≡ Ok tt
still_accepted P (Ok u) r e m = m
still_accepted P (Err f) r e m = absurd (let z : ◌≡◌ {A = ℕ} 0 1 = cc in let y : ⊥ = omega arith in y)
