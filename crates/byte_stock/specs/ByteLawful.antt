-- Stored lines mean a lawful holding, and its counts and next rows are read off the lines. Assumes nothing.
--     lawful_stored                 the holding is lawful
--     copies_found, copies_none     the count of a row that has a line, and of one that has none
--     next_stored, next_of_none     the row after is that of the smallest greater line of the shelf
use Rattle.std.proofs.Common.{◌≡◌, ℕ, ◌<◌, ◌≤◌, Bool, true, false, cond, eqb, [], ◌∷◌, length, get_or, ℤ, pos, negsuc, nat_abs, ◌≤ℤ◌, Some, None, Less, sym, refl, ap, ◌∙◌, subst, arith}
use Rattle.std.specs.List.{flat_map, AllByRecursion}
use Rattle.std.specs.Option.{option_map}
use Rattle.std.proofs.lemmas.Int.{ints}
use Rattle.std.proofs.ByRecursion.{All-get_or}
use Rattle.bag.specs.Order.{Row, row_order}
use Rattle.bag.specs.Bag.{IsBag, EachRow}
use Rattle.bag.specs.Lines.{blank_stock_line}
use Rattle.bag.specs.declared.lines.StockLine.{StockLine}
use Rattle.bag.proofs.NextRow.{next_found, next_none}
use Rattle.bag.proofs.EachRow.{rows_collect, rows-++}
use Rattle.bag.proofs.TestsAtChanges.{bag_from_counts}
use Rattle.bag.specs.Columns.{IsRow}
use Rattle.stock.specs.Holding.{LawfulHolding, copies, row_and_count, next_answer}
use Rattle.stock.specs.Holding.{LawfulLine}
use Rattle.byte_stock.specs.ByteStored.{Stored, line_of, Apart, line_on, bag_on, shelves_of, holding_of}
use Rattle.byte_stock.specs.ByteTally.{tally, Absent, tally_low, tally_most, tally_found, tally_none, some_copies, any_shelf, canonical_bag, canonical_shelf, count_bag, shelf_count, shelves_sixteen, lines_are_length}

abs_most : (z : ℤ) (n : ℕ) → pos 0 ≤ℤ z → z ≤ℤ pos n → nat_abs z ≤ n
abs_most (pos m) n h k = omega (arith, ints)
abs_most (negsuc m) n h k = absurd (omega (arith, ints))

rows_line : (t : ℕ) (l : StockLine) (b : Bool) → IsRow l.row → EachRow IsRow (cond b ((l.row, pos l.count) ∷ []) [])
rows_line t l true h = (h, tt)
rows_line t l false h = tt

rows_stored : (t : ℕ) (ls : Stored) → AllByRecursion LawfulLine ls → EachRow IsRow (flat_map (line_on t) ls)
rows_stored t [] a = tt
rows_stored t (l ∷ ls) a = rows-++ IsRow (line_on t l) (flat_map (line_on t) ls) (rows_line t l (eqb l.shelf t) a.0.row) (rows_stored t ls a.1)

rows_bag : (t : ℕ) (ls : Stored) → AllByRecursion LawfulLine ls → EachRow IsRow (bag_on t ls)
unfolding bag_on
rows_bag t ls a = rows_collect IsRow (flat_map (line_on t) ls) (rows_stored t ls a)

is_bag_on : (ls : Stored) (t : ℕ) → IsBag (bag_on t ls)
is_bag_on ls t = (canonical_bag ls t, bag_from_counts (bag_on t ls) (canonical_bag ls t) (λ q. subst (λ (z : ℤ). pos 0 ≤ℤ z) (sym (count_bag ls t q)) (tally_low t q ls)))

pub lawful_stored : (c : ℕ) (ls : Stored) → AllByRecursion LawfulLine ls → Apart ls → length ls ≤ c → c ≤ 4096 → LawfulHolding (holding_of c ls)
lawful_stored c ls a p h k =
    record {
      sixteen = shelves_sixteen ls;
      bags = λ s. any_shelf IsBag ls s (tt, tt) (is_bag_on ls s);
      rows = λ s. any_shelf (EachRow IsRow) ls s tt (rows_bag s ls a);
      counts = λ s r. let e = shelf_count ls s r a in subst (λ (z : ℤ). nat_abs z ≤ 65535) (sym e) (abs_most (tally s r ls) 65535 (tally_low s r ls) (tally_most s r ls a p));
      room = let e = lines_are_length ls a p in omega arith;
      small = k;
    }

module _ (c : ℕ) (ls : Stored) (a : AllByRecursion LawfulLine ls) (p : Apart ls) where
  pub copies_found : (s : ℕ) (r : Row) (i : ℕ) → i < length ls → (line_of ls i).shelf ≡ s → (line_of ls i).row ≡ r → copies (holding_of c ls) s r ≡ (line_of ls i).count
  copies_found s r i h e f = ap nat_abs (shelf_count ls s r a ∙ tally_found s r ls i p h e f)

  pub copies_none : (s : ℕ) (r : Row) → Absent s r ls → copies (holding_of c ls) s r ≡ 0
  copies_none s r h = ap nat_abs (shelf_count ls s r a ∙ tally_none s r ls h)

  pub next_stored : (s : ℕ) (r : Row) (i : ℕ) → i < length ls → (line_of ls i).shelf ≡ s → row_order r (line_of ls i).row ≡ Less →
      ((k : ℕ) → k < length ls → (line_of ls k).shelf ≡ s → row_order r (line_of ls k).row ≡ Less → row_order (line_of ls k).row (line_of ls i).row ≡ Less → ⊥) →
      next_answer (holding_of c ls) s r ≡ Some ((line_of ls i).row, (line_of ls i).count)
  next_stored s r i h e f least =
      let l = line_of ls i in
      ap (option_map row_and_count)
      (next_found (get_or (shelves_of ls) s []) r (l.row, pos l.count) (canonical_shelf ls s) f
      (shelf_count ls s l.row a ∙ tally_found s l.row ls i p h e refl)
      (some_copies l.count (All-get_or LawfulLine ls i blank_stock_line h a).some)
      (λ q x y. shelf_count ls s q a ∙ tally_none s q ls (λ k b d g. least k b d (ap (row_order r) g ∙ x) (ap (λ w. row_order w l.row) g ∙ y))))

  pub next_of_none : (s : ℕ) (r : Row) → ((k : ℕ) → k < length ls → (line_of ls k).shelf ≡ s → row_order r (line_of ls k).row ≡ Less → ⊥) → next_answer (holding_of c ls) s r ≡ None
  next_of_none s r none =
      ap (option_map row_and_count)
      (next_none (get_or (shelves_of ls) s []) r (canonical_shelf ls s) (λ q x. shelf_count ls s q a ∙ tally_none s q ls (λ k b d g. none k b d (ap (row_order r) g ∙ x))))
