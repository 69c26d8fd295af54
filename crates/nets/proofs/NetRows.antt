-- The rows of the nets of a message that was read: as wide as their base, and without the smallest number. Assumes nothing.
--     ranged_in      the rows that the reader reads have eight columns, each a signed 32-bit number
--     net_rows       the rows of each base's net
use Rattle.std.proofs.Common.{◌≡◌, ℕ, zero, suc, ◌+◌, ◌-◌, ◌*◌, ◌<◌, ◌≤◌, Bool, true, false, cond, not, ◌&&◌, eqb, leb, List, [], ◌∷◌, ◌++◌, length, ℤ, pos, negsuc, Some, None, Ok, Err, Option, Result, sym, refl, ap, ◌∙◌, subst, arith, w32, SFits, to_z, rules}
use mir.ValLaws.{to_z-Fits}
use Rattle.std.specs.List.{AllByRecursion}
use Rattle.std.proofs.lemmas.List.{length-append}
use Rattle.std.proofs.ByRecursion.{All-push}
use Rattle.std.proofs.lemmas.Bool.{eqb-true, eqb-false, and_parts}
use Rattle.bag.specs.Bag.{EachRow}
use Rattle.bag.specs.Bytes.{Bytes}
use Rattle.bag.specs.Refusal.{Refusal}
use Rattle.bag.specs.Measure.{ShownColumn}
use Rattle.bag.proofs.EachRow.{rows_collect}
use Rattle.message.specs.declared.record.Record.{Record}
use Rattle.message.specs.Lawful.{column_lawful, columns_lawful, lawful, first_unlawful}
use Rattle.message.specs.declared.fault.ReadFault.TheVariants.{Map}
use Rattle.message.specs.Refusal.{read_refusal}
use Rattle.message.specs.Decode.{then, bit, column_field, count_field, node_field, columns, fields, allowed, judged, decode}
use Rattle.message.specs.Reading.{proceed, reading_from, records_of}
use Rattle.message.proofs.Decoded.{decode_was}
use Rattle.message.proofs.Listings.{behind_ok}
use Rattle.message.proofs.Trips.{whole, lawful_first}
use Rattle.plan.specs.declared.node.Node.{Node}
use Rattle.nets.specs.Nets.{movement, movements_of}
use Rattle.nets.specs.Gathered.{clear_from, base_at, fits_width, of_base, gathered}
use Rattle.nets.specs.NetLaws.{BaseRow, NetRows}
use Rattle.nets.proofs.BaseRows.{clear_columns}
use Rattle.nets.proofs.NetFacts.{net_laws}

shown : (v : ℤ) → SFits w32 v → column_lawful v ≡ true → ShownColumn v
shown (pos n) f l = let s = f.sfits in omega arith
shown (negsuc n) f l = by (eqb n 2147483647) refl l
  where
    by : (b : Bool) → eqb n 2147483647 ≡ b → not b ≡ true → suc n ≤ 2147483647
    by true e l = let z : ⊥ = cc in absurd z
    by false e l = let s = f.sfits in let ne = eqb-false n 2147483647 e in omega (arith, ne)

shown_row : (row : List ℤ) → AllByRecursion (SFits w32) row → columns_lawful row ≡ true → AllByRecursion ShownColumn row
shown_row [] all l = tt
shown_row (v ∷ row) all l = let p = and_parts (column_lawful v) (columns_lawful row) l in (shown v all.0 p.0, shown_row row all.1 p.1)

-- the column that a field holds
ranged_column : (b : Bool) (xs : List ℕ) (v : ℤ) (rest : List ℕ) → Bytes xs → column_field b xs ≡ Some (v, rest) → SFits w32 v × Bytes rest
ranged_column false xs v rest h e = let s : ◌≡◌ {A = ℤ × List ℕ} (pos 0, xs) (v, rest) = cc in (subst (SFits w32) (ap (λ (p : ℤ × List ℕ). p.0) s) (search rules), subst Bytes (ap (λ (p : ℤ × List ℕ). p.1) s) h)
ranged_column true [] v rest h e = let z : ⊥ = cc in absurd z
ranged_column true (a ∷ []) v rest h e = let z : ⊥ = cc in absurd z
ranged_column true (a ∷ b ∷ []) v rest h e = let z : ⊥ = cc in absurd z
ranged_column true (a ∷ b ∷ c ∷ []) v rest h e = let z : ⊥ = cc in absurd z
ranged_column true (a ∷ b ∷ c ∷ d ∷ xs) v rest h e =
    let n = a * 16777216 + b * 65536 + c * 256 + d in
    let s : ◌≡◌ {A = ℤ × List ℕ} (to_z w32 n, xs) (v, rest) = cc in
    let p = h.0 in
    let q = h.1.0 in
    let r = h.1.1.0 in
    let t = h.1.1.1.0 in
    let small : n < 4294967296 = omega arith in
    (subst (SFits w32) (ap (λ (p : ℤ × List ℕ). p.0) s) (to_z-Fits w32 n (record { fits = small })), subst Bytes (ap (λ (p : ℤ × List ℕ). p.1) s) h.1.1.1.1)

pub record Ranged (k : ℕ) (row : List ℤ) (rest : List ℕ) : Type 0 where
  pub long : length row ≡ k
  pub columns : AllByRecursion (SFits w32) row
  pub left : Bytes rest

ranged_columns : (k map : ℕ) (xs : List ℕ) (row : List ℤ) (rest : List ℕ) → Bytes xs → columns k map xs ≡ Some (row, rest) → Ranged k row rest
unfolding columns
ranged_columns zero map xs row rest h e =
    let s : ◌≡◌ {A = List ℤ × List ℕ} ([], xs) (row, rest) = cc in
    subst (λ (p : List ℤ × List ℕ). Ranged 0 p.0 p.1) s (record { long = refl; columns = tt; left = h })
ranged_columns (suc k) map xs row rest h e = by (columns k map xs) refl e (λ r l. ranged_columns k map xs r l h)
  where
    last : (r : List ℤ) (l : List ℕ) → Ranged k r l → (o : Option (ℤ × List ℕ)) → column_field (bit map k) l ≡ o → then {Y = List ℤ × List ℕ} o (λ v. Some (r ++ v.0 ∷ [], v.1)) ≡ Some (row, rest) → Ranged (suc k) row rest
    last r l g None f e = let z : ⊥ = cc in absurd z
    last r l g (Some (v, left)) f e =
        let c = ranged_column (bit map k) l v left g.left f in
        let s : ◌≡◌ {A = List ℤ × List ℕ} (r ++ v ∷ [], left) (row, rest) = cc in
        let n = g.long in
        subst (λ (p : List ℤ × List ℕ). Ranged (suc k) p.0 p.1) s (record { long = length-append r (v ∷ []) ∙ (omega arith); columns = All-push (SFits w32) r v g.columns c.0; left = c.1 })

    by : (o : Option (List ℤ × List ℕ)) → columns k map xs ≡ o → then {Y = List ℤ × List ℕ} o (λ r. then {Y = List ℤ × List ℕ} (column_field (bit map k) r.1) (λ v. Some (r.0 ++ v.0 ∷ [], v.1))) ≡ Some (row, rest)
        → ((r : List ℤ) (l : List ℕ) → columns k map xs ≡ Some (r, l) → Ranged k r l) → Ranged (suc k) row rest
    by None q e rec = let z : ⊥ = cc in absurd z
    by (Some (r, l)) q e rec = last r l (rec r l q) (column_field (bit map k) l) refl e

-- a record that was decoded has a row of eight such columns
abbrev RowRead : Record → Type 0
RowRead r = (length r.row ≡ 8) × AllByRecursion (SFits w32) r.row

ranged_fields : (map : ℕ) (xs : List ℕ) (got : Record × List ℕ) → Bytes xs → fields map xs ≡ Some got → RowRead got.0
ranged_fields map xs got h e = by (columns 8 map xs) refl e
  where
    at_node : (row : List ℤ) → (length row ≡ 8) × AllByRecursion (SFits w32) row → (n : ℕ) (o : Option (ℕ × List ℕ)) → then {Y = Record × List ℕ} o (λ s. Some (record { row = row; count = n; node = s.0; take = bit map 10 }, s.1)) ≡ Some got → RowRead got.0
    at_node row g n None e = let z : ⊥ = cc in absurd z
    at_node row g n (Some s) e =
        let q : ◌≡◌ {A = Record × List ℕ} (record { row = row; count = n; node = s.0; take = bit map 10 }, s.1) got = cc in
        subst (λ (p : Record × List ℕ). RowRead p.0) q g

    at_count : (row : List ℤ) → (length row ≡ 8) × AllByRecursion (SFits w32) row → (o : Option (ℕ × List ℕ)) → then {Y = Record × List ℕ} o (λ n. then {Y = Record × List ℕ} (node_field (bit map 9) n.1) (λ s. Some (record { row = row; count = n.0; node = s.0; take = bit map 10 }, s.1))) ≡ Some got → RowRead got.0
    at_count row g None e = let z : ⊥ = cc in absurd z
    at_count row g (Some n) e = at_node row g n.0 (node_field (bit map 9) n.1) e

    by : (o : Option (List ℤ × List ℕ)) → columns 8 map xs ≡ o → then {Y = Record × List ℕ} o (λ row. then {Y = Record × List ℕ} (count_field (bit map 8) row.1) (λ n. then {Y = Record × List ℕ} (node_field (bit map 9) n.1) (λ s. Some (record { row = row.0; count = n.0; node = s.0; take = bit map 10 }, s.1)))) ≡ Some got → RowRead got.0
    by None q e = let z : ⊥ = cc in absurd z
    by (Some (row, l)) q e = let g = ranged_columns 8 map xs row l h q in at_count row (g.long, g.columns) (count_field (bit map 8) l) e

ranged_decoded : (at : ℕ) (xs : List ℕ) (got : Record × List ℕ) → Bytes xs → decode at xs ≡ Ok got → RowRead got.0
ranged_decoded at [] got h e = let z : ⊥ = cc in absurd z
ranged_decoded at (a ∷ []) got h e = let z : ⊥ = cc in absurd z
ranged_decoded at (a ∷ b ∷ xs) got h e = by (fields (a * 256 + b) xs) refl e
  where
    passed : (f : Record × List ℕ) (b : Bool) (r : Refusal) → cond b (Ok f) (Err r) ≡ Ok got → f ≡ got
    passed f true r e = cc
    passed f false r e = let z : ⊥ = cc in absurd z

    by : (o : Option (Record × List ℕ)) → fields (a * 256 + b) xs ≡ o → judged at (a * 256 + b) o ≡ Ok got → RowRead got.0
    by None q e = let z : ⊥ = cc in absurd z
    by (Some f) q e = subst (λ (p : Record × List ℕ). RowRead p.0) (passed f (allowed (a * 256 + b) f.0) (read_refusal (Map at)) e) (ranged_fields (a * 256 + b) xs f h.1.1 q)

ranged_in : (n at : ℕ) (xs : List ℕ) (m : List Record) → Bytes xs → records_of (reading_from n at xs) ≡ Ok m → AllByRecursion RowRead m
unfolding reading_from records_of
ranged_in zero at [] m h e = let s : [] ≡ m = cc in subst (AllByRecursion RowRead) s tt
ranged_in (suc n) at [] m h e = let s : [] ≡ m = cc in subst (AllByRecursion RowRead) s tt
ranged_in zero at (b ∷ xs) m h e = let z : ⊥ = cc in absurd z
ranged_in (suc n) at (b ∷ xs) m h e = by (decode at (b ∷ xs)) refl e (λ at' ys ss l. ranged_in n at' ys ss l)
  where
    by : (d : Result (Record × List ℕ) Refusal) → decode at (b ∷ xs) ≡ d → records_of (proceed at d (λ rest. reading_from n (at + (length (b ∷ xs) - length rest)) rest)) ≡ Ok m
        → ((at : ℕ) (ys : List ℕ) (ss : List Record) → Bytes ys → records_of (reading_from n at ys) ≡ Ok ss → AllByRecursion RowRead ss) → AllByRecursion RowRead m
    by (Err f) d e again = let z : ⊥ = cc in absurd z
    by (Ok got) d e again =
        let w = decode_was at (b ∷ xs) got.0 got.1 h d in
        let to = at + (length (b ∷ xs) - length got.1) in
        let s = behind_ok got.0 (records_of (reading_from n to got.1)) m e in
        subst (AllByRecursion RowRead) (sym s.2) (ranged_decoded at (b ∷ xs) got h d, again to got.1 s.0 w.left s.1)

module _ (nodes : List Node) where
  rows_moved : (m : List Record) → AllByRecursion RowRead m → first_unlawful m ≡ None → AllByRecursion (λ r. of_base nodes r ≡ true) m → (i w : ℕ) → base_at nodes i ≡ Some w → EachRow (BaseRow w) (movements_of i m)
  unfolding movements_of
  rows_moved [] range law all i w h = tt
  rows_moved (r ∷ m) range law all i w h = let f = lawful_first r m law in by (eqb r.node i) refl f.0 (rows_moved m range.1 f.1 all.1 i w h)
    where
      by : (b : Bool) → eqb r.node i ≡ b → lawful r ≡ true → EachRow (BaseRow w) (movements_of i m) → EachRow (BaseRow w) (cond b (movement r ∷ movements_of i m) (movements_of i m))
      by true e l rec =
          let clear : clear_from w r.row ≡ true = sym (ap (λ v. fits_width v r.row) (ap (base_at nodes) (eqb-true r.node i e) ∙ h)) ∙ all.0 in
          let c = and_parts (columns_lawful r.row) (leb 1 r.count && leb r.node 15) l in
          (((range.0.0, clear_columns w r.row clear), shown_row r.row range.0.1 c.0), rec)
      by false e l rec = rec

  pub net_rows : (bytes : List ℕ) (m : List Record) → Bytes bytes → gathered nodes bytes ≡ Ok m → NetRows nodes m
  net_rows bytes m h g i w b =
      let read = net_laws.as_read nodes bytes m g in
      let law = (whole 1024 0 bytes m h read).law in
      rows_collect (BaseRow w) (movements_of i m) (rows_moved m (ranged_in 1024 0 bytes m h read) law (net_laws.of_bases nodes bytes m g) i w b)
