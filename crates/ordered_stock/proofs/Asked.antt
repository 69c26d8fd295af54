-- What the questions of an ordered stock are answered, told from the table's answers. Assumes nothing.
--     copies_past, next_past      shelves above 15
--     next_some, next_other, next_none      the next row: that of the first line with a greater key, if it stands on the shelf
use Rattle.std.proofs.Common.{◌≡◌, ℕ, ◌<◌, ◌≤◌, cond, nat_abs, Some, None, sym, ap, ◌∙◌}
use Rattle.std.specs.Option.{option_map}
use Rattle.std.proofs.lemmas.Bool.{eq-eqb, ne_eqb}
use Rattle.table.proofs.SortedTests.{sorted_from_test}
use Rattle.bag.specs.declared.lines.StockLine.{StockLine}
use Rattle.bag.specs.Order.{Row, stock_line_order}
use Rattle.bag.specs.Bag.{count, next}
use Rattle.table.specs.Entries.{first_after}
use Rattle.table.specs.Tables.{items}
use Rattle.table.specs.LineTables.{StockTable}
use Rattle.stock.specs.Holding.{copies, next_answer, row_and_count}
use Rattle.ordered_stock.specs.OnTable.{as_line, held_in as held, SoundOn}
use Rattle.ordered_stock.proofs.OnShelf.{next_on, next_on_shelf}
use Rattle.ordered_stock.proofs.Shelves.{shelf_at, shelf_past}

abbrev pub key : ℕ → Row → StockLine
key s r = record { shelf = s; row = r; count = 0 }

module _ (stock : StockTable) (s : ℕ) (r : Row) where
  pub copies_past : 15 < s → 0 ≡ copies (held stock) s r
  unfolding count
  copies_past h = sym (ap (λ b. nat_abs (count b r)) (shelf_past s (items stock) h))

  pub next_past : 15 < s → None ≡ next_answer (held stock) s r
  unfolding next
  next_past h = sym (ap (λ b. option_map row_and_count (next b r)) (shelf_past s (items stock) h))

  module _ (sound : SoundOn stock) (low : s ≤ 15) where
    next_by : next_answer (held stock) s r ≡ option_map row_and_count (next_on s (first_after stock_line_order (key s r) (items stock)))
    next_by = ap (option_map row_and_count) (ap (λ b. next b r) (shelf_at s (items stock) low) ∙ next_on_shelf (key s r) (items stock) (sorted_from_test stock_line_order (items stock) stock.ascending))

    pub next_none : None ≡ first_after stock_line_order (key s r) (items stock) → None ≡ next_answer (held stock) s r
    next_none q = sym (next_by ∙ ap (λ o. option_map row_and_count (next_on s o)) (sym q))

    pub next_other : (l : StockLine) → Some l ≡ first_after stock_line_order (key s r) (items stock) → (l.shelf ≡ s → ⊥) → None ≡ next_answer (held stock) s r
    next_other l q ne = sym (next_by ∙ ap (λ o. option_map row_and_count (next_on s o)) (sym q) ∙ ap (λ b. option_map row_and_count (cond b (Some (as_line l)) None)) (ne_eqb l.shelf s ne))

    pub next_some : (l : StockLine) → Some l ≡ first_after stock_line_order (key s r) (items stock) → l.shelf ≡ s → Some (l.row, l.count) ≡ next_answer (held stock) s r
    next_some l q e = sym (next_by ∙ ap (λ o. option_map row_and_count (next_on s o)) (sym q) ∙ ap (λ b. option_map row_and_count (cond b (Some (as_line l)) None)) (eq-eqb l.shelf s e))
