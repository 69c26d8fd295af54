-- An accepted change leaves a lawful holding. Assumes nothing.
use Rattle.std.proofs.Common.{◌≡◌, ℕ, ◌<◌, ◌≤◌, [], length, pos, ◌+ℤ◌, ◌≤ℤ◌, Ordering, Less, Equal, Greater, sym, refl, ap, ◌∙◌, subst, ap₂, ⊎_elim, arith}
use Rattle.std.proofs.lemmas.List.{length-set, get_or_past}
use Rattle.std.proofs.lemmas.Int.{ints}
use Rattle.std.proofs.lemmas.Bool.{cases_lt}
use Rattle.bag.specs.declared.lines.ChangeLine.{ChangeLine}
use Rattle.bag.specs.Order.{Row, row_order}
use Rattle.bag.specs.Bag.{Lines, if_equal, count, add_copies, Canonical, EachRow}
use Rattle.bag.specs.Columns.{IsRow}
use Rattle.bag.specs.RowOrder.{order_equal}
use Rattle.bag.proofs.OperatorBags.{count_low}
use Rattle.bag.proofs.TestsAtChanges.{bag_from_counts}
use Rattle.bag.proofs.EachRow.{rows_add_copies}
use Rattle.stock.specs.Holding.{Holding, shelf_of, copies, with_copies, LawfulHolding}
use Rattle.settling.specs.Keys.{key, key_of}
use Rattle.settling.proofs.ByPlace.{count_none}
use Rattle.settling.proofs.HoldingCounts.{count_with_copies, each_shelf, canonical_with_copies, canonical_of}
use Rattle.pending_lines.specs.ChangeLists.{IsCount}
use Rattle.pending_book.specs.Sums.{with_change_of, Accepts}

pub lawful_with_copies : (h : Holding) (p : ChangeLine) → LawfulHolding h → Accepts h p → LawfulHolding (with_change_of h p)
lawful_with_copies h p l a =
    record { sixteen = long ∙ l.sixteen; bags = λ t. (canonical t, bag_from_counts (shelf_of k t) (canonical t) (λ q. low_at t q)); rows = rows; counts = high; room = a.room; small = l.small }
  where
    k : Holding
    k = with_copies h p.node p.row p.change

    long : length k.shelves ≡ length h.shelves
    long = length-set h.shelves p.node (add_copies p.row p.change (shelf_of h p.node))

    canonical : (t : ℕ) → Canonical (shelf_of k t)
    canonical = canonical_with_copies h p.node p.row p.change (canonical_of h l)

    between : (t : ℕ) (q : Row) → t < length h.shelves → IsCount (count (shelf_of k t) q)
    between t q m = at (row_order (key_of p) (key t q)) refl (count_with_copies h p.node p.row p.change t q m)
      where
        at : (o : Ordering) → row_order (key_of p) (key t q) ≡ o → count (shelf_of k t) q ≡ if_equal (row_order (key_of p) (key t q)) p.change +ℤ count (shelf_of h t) q → IsCount (count (shelf_of k t) q)
        at Less e c = let o = count_low (shelf_of h t) (l.bags t).1 q in let n = l.counts t q in let i : if_equal (row_order (key_of p) (key t q)) p.change ≡ pos 0 = ap (λ o. if_equal o p.change) e in (omega (arith, ints), omega (arith, ints))
        at Greater e c = let o = count_low (shelf_of h t) (l.bags t).1 q in let n = l.counts t q in let i : if_equal (row_order (key_of p) (key t q)) p.change ≡ pos 0 = ap (λ o. if_equal o p.change) e in (omega (arith, ints), omega (arith, ints))
        at Equal e c =
            let same = order_equal (key_of p) (key t q) e in
            let shelf : p.node ≡ t = cc in
            let row : p.row ≡ q = cc in
            let i : if_equal (row_order (key_of p) (key t q)) p.change ≡ p.change = ap (λ o. if_equal o p.change) e in
            let n : count (shelf_of h p.node) p.row ≡ count (shelf_of h t) q = ap₂ (λ s r. count (shelf_of h s) r) shelf row in
            let b = a.counts in
            (omega (arith, ints), omega (arith, ints))

    always : (t : ℕ) (q : Row) → IsCount (count (shelf_of k t) q)
    always t q =
        ⊎_elim (λ (m : t < length h.shelves). between t q m)
        (λ (m : length h.shelves ≤ t). subst (λ (xs : Lines). IsCount (count xs q)) (sym (get_or_past k.shelves t [] (omega (arith, long)))) (subst IsCount (sym (count_none q)) (omega (arith, ints), omega (arith, ints))))
        (cases_lt t (length h.shelves))

    low_at : (t : ℕ) (q : Row) → pos 0 ≤ℤ count (shelf_of k t) q
    low_at t q = (always t q).0

    high : (t : ℕ) (q : Row) → copies k t q ≤ 65535
    high t q = let b = always t q in omega (arith, ints, b.0, b.1)

    rows : (t : ℕ) → EachRow IsRow (shelf_of k t)
    rows = each_shelf (EachRow IsRow) h p.node p.row p.change l.rows (rows_add_copies IsRow p.row p.change (shelf_of h p.node) a.row (l.rows p.node))
