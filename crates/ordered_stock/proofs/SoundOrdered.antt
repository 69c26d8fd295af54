-- What a sound table says of the stock on it. Assumes nothing.
--     stock_law          the order of stock lines is lawful
--     sound_of           every ordered stock has a sound table
--     sound_ordered      and is sound
--     sound_from         a stock is sound where its table is and its lines are lawful and few enough
--     lines_held         there are as many lines as the table has entries
--     copies_found       the count of a row is that of the line that its key finds
use Rattle.std.proofs.Common.{◌≡◌, ℕ, ◌-◌, ◌<◌, ◌≤◌, List, [], ◌∷◌, ◌++◌, length, get_or, replicate, pos, nat_abs, sym, refl, ap, ◌∙◌, subst, ap₂, ⊎_elim, arith}
use Rattle.std.specs.List.{AllByRecursion}
use Rattle.std.proofs.lemmas.List.{length-take, length-take-le}
use Rattle.std.proofs.lemmas.Bool.{cases_lt}
use Rattle.table.proofs.SortedTests.{sorted_from_test}
use Rattle.bag.specs.declared.lines.StockLine.{StockLine}
use Rattle.bag.specs.Lines.{blank_stock_line}
use Rattle.bag.specs.Order.{Row, stock_line_order}
use Rattle.bag.specs.Bag.{count, IsBag, EachRow}
use Rattle.bag.proofs.KeyOrder.{stock_lines_are_ordered_by_key}
use Rattle.table.specs.Order.{Lawful}
use Rattle.table.specs.Entries.{entry_of}
use Rattle.table.specs.Tables.{items, capacity}
use Rattle.table.specs.Ordered.{lawful_from_keys}
use Rattle.table.specs.LineTables.{StockTable}
use Rattle.table.proofs.SoundTables.{sound_stock}
use Rattle.ordered_stock.specs.declared.ordered.OrderedStock.{OrderedStock}
use Rattle.ordered_stock.specs.Ordered.{SoundOrdered}
use Rattle.bag.specs.Columns.{IsRow}
use Rattle.stock.specs.Holding.{LawfulHolding, copies, lines_of}
use Rattle.stock.specs.Holding.{LawfulLine}
use Rattle.ordered_stock.specs.OnTable.{on_shelf, shelves_of, laid_out, held_in as held, SoundOn}
use Rattle.ordered_stock.proofs.OnShelf.{found_count, count_on_shelf, bag_on_shelf, rows_on_shelf}
use Rattle.ordered_stock.proofs.LaidOut.{Within, laid_out_again, length_laid_out}
use Rattle.ordered_stock.proofs.Shelves.{length_shelves, shelf_at, shelf_past, most_counted}

pub stock_law : Lawful stock_line_order
stock_law = lawful_from_keys stock_lines_are_ordered_by_key

within_sixteen : (xs : List StockLine) → AllByRecursion LawfulLine xs → AllByRecursion (Within 0 16) xs
within_sixteen [] all = tt
within_sixteen (x ∷ xs) all = (let s = all.0.shelf in (omega arith, omega arith), within_sixteen xs all.1)

empty_count : (r : Row) → nat_abs (count [] r) ≤ 65535
unfolding count
empty_count r = omega arith

module _ (stock : StockTable) (all : AllByRecursion LawfulLine (items stock)) where
  again : laid_out 0 (shelves_of (items stock)) ≡ items stock
  again = laid_out_again 16 0 (items stock) (sorted_from_test stock_line_order (items stock) stock.ascending) (within_sixteen (items stock) all)

  pub lines_held : lines_of (held stock) ≡ length (items stock)
  lines_held = sym (length_laid_out 0 (shelves_of (items stock))) ∙ ap length again

  pub count_held : (s : ℕ) (r : Row) → s ≤ 15 → (k : StockLine) → k.shelf ≡ s → k.row ≡ r → count (get_or (held stock).shelves s []) r ≡ pos (found_count (entry_of stock_line_order k (items stock)))
  count_held s r low k e f =
      ap (λ b. count b r) (shelf_at s (items stock) low) ∙ ap₂ (λ m q. count (on_shelf m (items stock)) q) (sym e) (sym f) ∙ count_on_shelf stock_law k (items stock) stock.ascending

  pub copies_found : (s : ℕ) (r : Row) → s ≤ 15 → (k : StockLine) → k.shelf ≡ s → k.row ≡ r → copies (held stock) s r ≡ found_count (entry_of stock_line_order k (items stock))
  copies_found s r low k e f = ap nat_abs (count_held s r low k e f)

  lawful_held : length (items stock) ≤ 4096 → LawfulHolding (held stock)
  lawful_held few =
      record {
        sixteen = length_shelves (items stock);
        bags = λ s. ⊎_elim (λ h. subst IsBag (sym (shelf_past s (items stock) h)) (tt, tt)) (λ h. subst IsBag (sym (shelf_at s (items stock) h)) (bag_on_shelf s (items stock) stock.ascending all)) (cases_lt 15 s);
        rows = λ s. ⊎_elim (λ h. subst (EachRow IsRow) (sym (shelf_past s (items stock) h)) tt) (λ h. subst (EachRow IsRow) (sym (shelf_at s (items stock) h)) (rows_on_shelf s (items stock) all)) (cases_lt 15 s);
        counts = counted;
        room = let n = lines_held in let l = length-take stock.len stock.run.now in omega arith;
        small = omega arith;
      }
    where
      counted : (s : ℕ) (r : Row) → copies (held stock) s r ≤ 65535
      counted s r =
          ⊎_elim (λ (h : 15 < s). subst (λ b. nat_abs (count b r) ≤ 65535) (sym (shelf_past s (items stock) h)) (empty_count r))
          (λ (h : s ≤ 15). let k : StockLine = record { shelf = s; row = r; count = 0 } in subst (λ n. n ≤ 65535) (sym (copies_found s r h k refl refl)) (most_counted k (items stock) all))
          (cases_lt 15 s)

  pub sound_from : length (items stock) ≤ 4096 → SoundOn stock
  sound_from few =
      let len : stock.len ≡ lines_of (held stock) = sym (lines_held ∙ length-take-le stock.len stock.run.now stock.within) in
      record {
        lines = all;
        run = stock.blanks ∙ ap₂ (λ (front : List StockLine) n. front ++ replicate (capacity stock - n) blank_stock_line) (sym again) len;
        holding = lawful_held few;
      }

pub sound_of : (stock : OrderedStock) → SoundOn stock.table
sound_of stock = record { lines = stock.lines; run = stock.run; holding = stock.holding }

-- every ordered stock is sound
pub sound_ordered : (stock : OrderedStock) → SoundOrdered stock
sound_ordered stock = record { table = sound_stock stock.table; lines = stock.lines; run = stock.run; holding = stock.holding }
