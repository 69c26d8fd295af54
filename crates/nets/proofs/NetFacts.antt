-- What the nets of a message say of its records. Assumes nothing.
--     adds_up              each net has the copies put less the copies taken
--     ascends              the lines ascend and no change is 0
--     by_node              the lines of a node are its net
--     as_read, few, of_bases      the records of a message that a plan accepts
--     only_bases, widths   its nets are those of bases, and their rows as wide
use Rattle.std.proofs.Common.{◌≡◌, ℕ, zero, suc, ◌+◌, ◌-◌, ◌<◌, ◌≤◌, Bool, true, false, cond, not, ◌&&◌, eqb, List, [], ◌∷◌, ◌++◌, map, length, ℤ, pos, ◌+ℤ◌, ◌-ℤ◌, neg_ℤ, Some, None, Ok, Err, Result, Ordering, Less, Equal, Greater, sym, refl, ap, ◌∙◌, subst, ap₂, ⊎_elim, arith}
use Rattle.std.specs.List.{AllByRecursion}
use Rattle.std.specs.Ordering.{is_eq}
use Rattle.std.specs.List.Sorted.{IsStrictlySortedBy}
use Rattle.table.proofs.SortedTests.{test_from_sorted}
use Rattle.std.proofs.lemmas.List.{append-nil}
use Rattle.std.proofs.lemmas.Int.{ints}
use Rattle.std.proofs.lemmas.Bool.{cases_eq, eqb-true, eq-eqb, ne_eqb}
use Rattle.bag.specs.declared.lines.ChangeLine.{ChangeLine}
use Rattle.bag.specs.Order.{Row, row_order, change_line_order}
use Rattle.bag.specs.Columns.{column_of}
use Rattle.bag.specs.Bag.{Lines, is_zero, if_equal, count, collect, Before, Canonical, EachRow}
use Rattle.bag.specs.Refusal.{Refusal}
use Rattle.bag.proofs.CanonicalForm.{before_transitive}
use Rattle.bag.specs.Integers.{count_collect}
use Rattle.bag.proofs.EachRow.{rows_collect}
use Rattle.message.specs.declared.record.Record.{Record}
use Rattle.message.specs.Decode.{decode}
use Rattle.message.specs.Reading.{Reading, ends, refused, item, proceed, reading_from, reading, records_of}
use Rattle.message.specs.Reading.{behind as read_behind}
use Rattle.message.proofs.Readings.{records_end, records_item}
use Rattle.plan.specs.declared.node.Node.{Node}
use Rattle.settling.specs.Keys.{key_of, keyed}
use Rattle.sheet.specs.Sheets.{of_node, flattened}
use Rattle.nets.specs.Nets.{movement, movements_of, net_of, nets_from, nets_of}
use Rattle.nets.specs.GatherRefusal.{Told, table_refusal}
use Rattle.nets.specs.Gathered.{clear_from, base_at, fits_width, of_base, behind, movements_in}
use Rattle.nets.specs.NetLaws.{copies_put, copies_taken, at_node, AscendingLines, NetLaws}
use Rattle.nets.proofs.BaseRows.{clear_columns}
use Rattle.nets.proofs.KeyedLines.{order_by_key}
use Rattle.nets.proofs.KeyedNets.{canonical_nets}

-- one record's copies, by whether it is taken
copies_here : (o : Ordering) (t : Bool) (n p k : ℕ) (z : ℤ) → z ≡ pos p -ℤ pos k
    → if_equal o (cond t (neg_ℤ (pos n)) (pos n)) +ℤ z ≡ pos (cond (is_eq o && not t) n 0 + p) -ℤ pos (cond (is_eq o && t) n 0 + k)
copies_here Less t n p k z h = omega (arith, ints)
copies_here Equal true n p k z h = omega (arith, ints)
copies_here Equal false n p k z h = omega (arith, ints)
copies_here Greater t n p k z h = omega (arith, ints)

counts : (m : List Record) (i : ℕ) (q : Row) → count (movements_of i m) q ≡ pos (copies_put i q m) -ℤ pos (copies_taken i q m)
unfolding count movements_of copies_put copies_taken
counts [] i q = refl
counts (r ∷ m) i q = by (eqb r.node i) (counts m i q)
  where
    by : (b : Bool) → count (movements_of i m) q ≡ pos (copies_put i q m) -ℤ pos (copies_taken i q m)
        → count (cond b (movement r ∷ movements_of i m) (movements_of i m)) q
        ≡ pos (cond ((b && is_eq (row_order r.row q)) && not r.take) r.count 0 + copies_put i q m) -ℤ pos (cond ((b && is_eq (row_order r.row q)) && r.take) r.count 0 + copies_taken i q m)
    by true rec = copies_here (row_order r.row q) r.take r.count (copies_put i q m) (copies_taken i q m) (count (movements_of i m) q) rec
    by false rec =
        let p : copies_put i q m ≡ 0 + copies_put i q m = omega arith in
        let k : copies_taken i q m ≡ 0 + copies_taken i q m = omega arith in
        rec ∙ ap₂ (λ a b. pos a -ℤ pos b) p k

adds_up : (m : List Record) (i : ℕ) (q : Row) → count (net_of i m) q ≡ pos (copies_put i q m) -ℤ pos (copies_taken i q m)
adds_up m i q = count_collect (movements_of i m) q ∙ counts m i q

before_all : (x : ChangeLine) (ls : List ChangeLine) → Before (key_of x) (map keyed ls) → Canonical (map keyed ls) → AllByRecursion (λ y. change_line_order x y ≡ Less) ls
before_all x [] b c = tt
before_all x (y ∷ ls) b c = (sym (order_by_key x y) ∙ b, before_all x ls (before_transitive (key_of x) (key_of y) (map keyed ls) b c.1) c.2)

sorted : (ls : List ChangeLine) → Canonical (map keyed ls) → IsStrictlySortedBy change_line_order ls
unfolding IsStrictlySortedBy
sorted [] c = tt
sorted (x ∷ ls) c = (before_all x ls c.1 c.2, sorted ls c.2)

no_zero : (ls : List ChangeLine) → Canonical (map keyed ls) → AllByRecursion (λ l. is_zero l.change ≡ false) ls
no_zero [] c = tt
no_zero (x ∷ ls) c = (c.0, no_zero ls c.2)

ascends : (m : List Record) → AscendingLines (nets_of m)
ascends m = let c = canonical_nets 16 0 m in record { ascend = test_from_sorted change_line_order (nets_of m) (sorted (nets_of m) c); some = no_zero (nets_of m) c }

at_own : (i k : ℕ) (d : Lines) (ls : List ChangeLine) → k ≡ i → at_node i (of_node k d ++ ls) ≡ d ++ at_node i ls
unfolding at_node
at_own i k [] ls e = refl
at_own i k (x ∷ d) ls e = rw (eq-eqb k i e) (ap (λ xs. x ∷ xs) (at_own i k d ls e))

at_other : (i k : ℕ) (d : Lines) (ls : List ChangeLine) → (k ≡ i → ⊥) → at_node i (of_node k d ++ ls) ≡ at_node i ls
unfolding at_node
at_other i k [] ls ne = refl
at_other i k (x ∷ d) ls ne = rw (ne_eqb k i ne) (at_other i k d ls ne)

at_lower : (n k i : ℕ) (m : List Record) → i < k → at_node i (flattened k (nets_from k n m)) ≡ []
unfolding at_node nets_from flattened
at_lower zero k i m l = refl
at_lower (suc n) k i m l = at_other i k (net_of k m) (flattened (suc k) (nets_from (suc k) n m)) (λ e. omega arith) ∙ at_lower n (suc k) i m (omega arith)

at_nets : (n k i : ℕ) (m : List Record) → k ≤ i → i < k + n → at_node i (flattened k (nets_from k n m)) ≡ net_of i m
unfolding nets_from flattened
at_nets zero k i m l u = absurd (let z : ⊥ = omega arith in z)
at_nets (suc n) k i m l u =
    ⊎_elim
    (λ (e : k ≡ i). at_own i k (net_of k m) rest e ∙ ap (λ xs. net_of k m ++ xs) (at_lower n (suc k) i m (omega arith)) ∙ append-nil (net_of k m) ∙ ap (λ j. net_of j m) e)
    (λ (ne : k ≡ i → ⊥). at_other i k (net_of k m) rest ne ∙ at_nets n (suc k) i m (omega arith) (omega arith))
    (cases_eq k i)
  where
    rest : List ChangeLine
    rest = flattened (suc k) (nets_from (suc k) n m)

module _ (nodes : List Node) where
  -- the first record of an accepted reading, and the rest
  pub record Parted (r : Record) (rest : Reading) (m : List Record) : Type 0 where
    pub base : of_base nodes r ≡ true
    pub tail : List Record
    pub further : movements_in nodes rest ≡ Ok tail
    pub are : m ≡ r ∷ tail

  parted : (at : ℕ) (r : Record) (rest : Reading) (m : List Record) → movements_in nodes (item at r rest) ≡ Ok m → Parted r rest m
  unfolding movements_in
  parted at r rest m h = by (of_base nodes r) refl (movements_in nodes rest) refl h
    where
      by : (b : Bool) → of_base nodes r ≡ b → (o : Result (List Record) Told) → movements_in nodes rest ≡ o → cond b (behind r o) (Err (table_refusal at)) ≡ Ok m → Parted r rest m
      by true p (Ok n) e h = record { base = p; tail = n; further = e; are = cc }
      by true p (Err f) e h = let z : ⊥ = cc in absurd z
      by false p o e h = let z : ⊥ = cc in absurd z

  no_record : (e : Refusal) (m : List Record) → movements_in nodes (refused e) ≡ Ok m → ⊥
  unfolding movements_in
  no_record e m h = cc

  none_left : (m : List Record) → movements_in nodes ends ≡ Ok m → m ≡ []
  unfolding movements_in
  none_left m h = cc

  read_in : (x : Reading) (m : List Record) → movements_in nodes x ≡ Ok m → records_of x ≡ Ok m
  read_in ends m h = records_end ∙ ap Ok (sym (none_left m h))
  read_in (refused e) m h = absurd (no_record e m h)
  read_in (item at r rest) m h = let p = parted at r rest m h in records_item at r rest ∙ ap (read_behind r) (read_in rest p.tail p.further) ∙ ap Ok (sym p.are)

  based_in : (x : Reading) (m : List Record) → movements_in nodes x ≡ Ok m → AllByRecursion (λ r. of_base nodes r ≡ true) m
  based_in ends m h = subst (AllByRecursion (λ r. of_base nodes r ≡ true)) (sym (none_left m h)) tt
  based_in (refused e) m h = absurd (no_record e m h)
  based_in (item at r rest) m h = let p = parted at r rest m h in subst (AllByRecursion (λ r. of_base nodes r ≡ true)) (sym p.are) (p.base, based_in rest p.tail p.further)

  few_in : (n at : ℕ) (bytes : List ℕ) (m : List Record) → movements_in nodes (reading_from n at bytes) ≡ Ok m → length m ≤ n
  unfolding reading_from
  few_in zero at [] m h = let e = ap length (none_left m h) in omega arith
  few_in (suc n) at [] m h = let e = ap length (none_left m h) in omega arith
  few_in zero at (b ∷ bytes) m h = absurd (no_record _ m h)
  few_in (suc n) at (b ∷ bytes) m h = by (decode at (b ∷ bytes)) h (few_in n)
    where
      by : (d : Result (Record × List ℕ) Refusal) → movements_in nodes (proceed at d (λ rest. reading_from n (at + (length (b ∷ bytes) - length rest)) rest)) ≡ Ok m
          → ((at : ℕ) (bytes : List ℕ) (m : List Record) → movements_in nodes (reading_from n at bytes) ≡ Ok m → length m ≤ n) → length m ≤ suc n
      by (Ok got) h rec =
          let to = at + (length (b ∷ bytes) - length got.1) in
          let p = parted at got.0 (reading_from n to got.1) m h in
          let l = rec to got.1 p.tail p.further in
          let e = ap length p.are in
          omega arith
      by (Err e) h rec = absurd (no_record e m h)

  no_movement : (m : List Record) → AllByRecursion (λ r. of_base nodes r ≡ true) m → (i : ℕ) → base_at nodes i ≡ None → movements_of i m ≡ []
  unfolding movements_of
  no_movement [] all i h = refl
  no_movement (r ∷ m) all i h = by (eqb r.node i) refl (no_movement m all.1 i h)
    where
      by : (b : Bool) → eqb r.node i ≡ b → movements_of i m ≡ [] → cond b (movement r ∷ movements_of i m) (movements_of i m) ≡ []
      by true e rec =
          let f : fits_width (base_at nodes r.node) r.row ≡ false = ap (λ w. fits_width w r.row) (ap (base_at nodes) (eqb-true r.node i e) ∙ h) in
          let t = all.0 in
          let z : ⊥ = cc in
          absurd z
      by false e rec = rec

  wide_movements : (m : List Record) → AllByRecursion (λ r. of_base nodes r ≡ true) m → (i w : ℕ) → base_at nodes i ≡ Some w → EachRow (λ q. (j : ℕ) → w ≤ j → column_of q j ≡ pos 0) (movements_of i m)
  unfolding movements_of
  wide_movements [] all i w h = tt
  wide_movements (r ∷ m) all i w h = by (eqb r.node i) refl (wide_movements m all.1 i w h)
    where
      by : (b : Bool) → eqb r.node i ≡ b → EachRow (λ q. (j : ℕ) → w ≤ j → column_of q j ≡ pos 0) (movements_of i m)
          → EachRow (λ q. (j : ℕ) → w ≤ j → column_of q j ≡ pos 0) (cond b (movement r ∷ movements_of i m) (movements_of i m))
      by true e rec =
          let clear : clear_from w r.row ≡ true = sym (ap (λ v. fits_width v r.row) (ap (base_at nodes) (eqb-true r.node i e) ∙ h)) ∙ all.0 in
          (clear_columns w r.row clear, rec)
      by false e rec = rec

empty_collect : collect [] ≡ []
unfolding collect
empty_collect = refl

pub net_laws : NetLaws
net_laws =
    record {
      adds_up = adds_up;
      ascends = ascends;
      by_node = λ m i l. at_nets 16 0 i m (omega arith) (omega arith);
      as_read = λ nodes bytes m h. read_in nodes (reading bytes) m h;
      few = λ nodes bytes m h. few_in nodes 1024 0 bytes m h;
      of_bases = λ nodes bytes m h. based_in nodes (reading bytes) m h;
      only_bases = λ nodes bytes m h i n. ap collect (no_movement nodes m (based_in nodes (reading bytes) m h) i n) ∙ empty_collect;
      widths = λ nodes bytes m h i w n. rows_collect (λ q. (j : ℕ) → w ≤ j → column_of q j ≡ pos 0) (movements_of i m) (wide_movements nodes m (based_in nodes (reading bytes) m h) i w n);
    }
