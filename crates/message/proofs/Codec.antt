-- A record's bytes read back are the record.
use Rattle.std.proofs.Common.{◌≡◌, ℕ, zero, suc, ◌+◌, ◌-◌, ◌^◌, ◌<◌, ◌≤◌, Bool, true, false, not, ◌&&◌, ◌||◌, eqb, leb, List, [], ◌∷◌, ◌++◌, map, length, get_or, take, ℤ, pos, Some, Ok, refl, ap, ◌∙◌, subst, append_assoc, add-one, arith, w32, SFits}
use Rattle.std.specs.List.{flat_map}
use Rattle.std.proofs.ByRecursion.{All-get_or}
use Rattle.std.proofs.lemmas.List.{take_more, take_all, length-append, get_or_append_left, get_or-append_right, get_or-map}
use Rattle.std.proofs.lemmas.Bool.{lt-ltb, le-leb, eqb-true, eqb-false, leb-true, and_parts, and_from}
use Rattle.message.specs.declared.record.Record.{Record}
use Rattle.bag.specs.Bytes.{first_two, in_two}
use Rattle.message.specs.Decode.{bit, column_field, count_field, node_field, columns, fields, column_allowed, columns_allowed, allowed, behind_map, decode}
use Rattle.bag.specs.Bag.{is_zero}
use Rattle.message.specs.Lawful.{column_lawful, columns_lawful, lawful, InRange}
use Rattle.message.specs.Encode.{bits_value, map_bits, map_of, column_bytes, count_bytes, node_bytes, encode}
use Rattle.bag.proofs.Numbers.{zero_is}
use Rattle.message.proofs.Numerals.{four_read, two_read}
use Rattle.message.proofs.Rows.{columns_none, columns_more}
use Rattle.message.proofs.Joins.{joined_step}
use Rattle.message.proofs.Encoded.{length_set_columns}
use Rattle.message.proofs.Maps.{bits_below, bit_of_bits}
use Rattle.message.proofs.Allowed.{ok_none, ok_more}

column_read : (v : ℤ) (rest : List ℕ) → SFits w32 v → (t : Bool) → is_zero v ≡ t → column_field (not t) (column_bytes v ++ rest) ≡ Some (v, rest)
column_read v rest f true e = rw (e, zero_is v e) refl
column_read v rest f false e = rw e (four_read v rest f)

count_read : (n : ℕ) (rest : List ℕ) → n < 65536 → (t : Bool) → eqb n 1 ≡ t → count_field (not t) (count_bytes n ++ rest) ≡ Some (n, rest)
count_read n rest h true e = rw (e, eqb-true n 1 e) refl
count_read n rest h false e = rw e (two_read n rest h)

node_read : (n : ℕ) (rest : List ℕ) → (t : Bool) → eqb n 0 ≡ t → node_field (not t) (node_bytes n ++ rest) ≡ Some (n, rest)
node_read n rest true e = rw (e, eqb-true n 0 e) refl
node_read n rest false e = rw e refl

-- the bits of a record's map
module _ (r : Record) (eight : length r.row ≡ 8) where
  bit_is : (k : ℕ) → bit (map_of r) k ≡ get_or (map_bits r) k false
  unfolding map_of
  bit_is k = bit_of_bits (map_bits r) k

  pub column_bit : (k : ℕ) → k < 8 → bit (map_of r) k ≡ not (is_zero (get_or r.row k (pos 0)))
  column_bit k h =
      let l : k < length (map (λ (v : ℤ). not (is_zero v)) r.row) = omega (arith, (length_set_columns r eight)) in
      let l' : k < length r.row = omega arith in
      bit_is k ∙ (get_or_append_left (map (λ (v : ℤ). not (is_zero v)) r.row) _ false k l ∙ get_or-map (λ (v : ℤ). not (is_zero v)) r.row k (pos 0) false l')

  high_bit : (i : ℕ) → bit (map_of r) (8 + i) ≡ get_or (not (eqb r.count 1) ∷ not (eqb r.node 0) ∷ r.take ∷ []) i false
  high_bit i =
      let e : (8 + i) - 8 ≡ i = omega arith in
      bit_is (8 + i) ∙ (get_or-append_right (map (λ (v : ℤ). not (is_zero v)) r.row) (not (eqb r.count 1) ∷ not (eqb r.node 0) ∷ r.take ∷ []) 8 (8 + i) false (length_set_columns r eight) (omega arith) ∙ ap (λ n. get_or (not (eqb r.count 1) ∷ not (eqb r.node 0) ∷ r.take ∷ []) n false) e)

  pub count_bit : bit (map_of r) 8 ≡ not (eqb r.count 1)
  count_bit = high_bit 0

  pub node_bit : bit (map_of r) 9 ≡ not (eqb r.node 0)
  node_bit = high_bit 1

  pub take_bit : bit (map_of r) 10 ≡ r.take
  take_bit = high_bit 2

  pub map_below : map_of r < 2048
  unfolding map_of
  map_below =
      let n : length (map_bits r) ≡ 11 = length-append (map (λ (v : ℤ). not (is_zero v)) r.row) _ ∙ omega (arith, (length_set_columns r eight)) in
      subst (λ k. bits_value (map_bits r) < 2 ^ k) n (bits_below (map_bits r))

module _ (r : Record) (range : InRange r) where
  fit : (k : ℕ) → k < 8 → SFits w32 (get_or r.row k (pos 0))
  fit k h = All-get_or (SFits w32) r.row k (pos 0) (let e = range.eight in omega arith) range.columns

  columns_read : (k : ℕ) (rest : List ℕ) → k ≤ 8 → columns k (map_of r) (flat_map column_bytes (take k r.row) ++ rest) ≡ Some (take k r.row, rest)
  columns_read zero rest h = columns_none (map_of r) rest
  columns_read (suc k) rest h =
      let row = r.row in
      let v = get_or row k (pos 0) in
      let eight = range.eight in
      let lt : k < length row = omega arith in
      let a = flat_map column_bytes (take k row) in
      let b = column_bytes v in
      let e = columns_read k (b ++ rest) (omega arith) in
      let c : column_field (bit (map_of r) k) (b ++ rest) ≡ Some (v, rest) = rw (column_bit r eight k (omega arith)) (column_read v rest (fit k (omega arith)) (is_zero v) refl) in
      let g = columns_more (map_of r) (a ++ (b ++ rest)) k (take k row) (b ++ rest) v rest e c in
      let t : take (k + 1) row ≡ take k row ++ v ∷ [] = take_more row k (pos 0) lt in
      let j : flat_map column_bytes (take (k + 1) row) ≡ a ++ b = joined_step column_bytes row k (pos 0) lt in
      let g' : columns (k + 1) (map_of r) (flat_map column_bytes (take (k + 1) row) ++ rest) ≡ Some (take (k + 1) row, rest) = rw (j, t, append_assoc a b rest) g in
      rw add-one at g'

  fields_read : (rest : List ℕ) → fields (map_of r) (flat_map column_bytes r.row ++ (count_bytes r.count ++ (node_bytes r.node ++ rest))) ≡ Some (r, rest)
  fields_read rest =
      let eight = range.eight in
      let whole : take 8 r.row ≡ r.row = take_all 8 r.row (omega arith) in
      let tail = count_bytes r.count ++ (node_bytes r.node ++ rest) in
      let cs : columns 8 (map_of r) (flat_map column_bytes r.row ++ tail) ≡ Some (r.row, tail) = rw whole at (columns_read 8 tail (omega arith)) in
      let cn : count_field (bit (map_of r) 8) tail ≡ Some (r.count, node_bytes r.node ++ rest) = rw (count_bit r eight) (count_read r.count (node_bytes r.node ++ rest) range.count (eqb r.count 1) refl) in
      let nd : node_field (bit (map_of r) 9) (node_bytes r.node ++ rest) ≡ Some (r.node, rest) = rw (node_bit r eight) (node_read r.node rest (eqb r.node 0) refl) in
      rw (cs, cn, nd, take_bit r eight) refl

-- what a lawful record's fields hold is allowed
plain : (v : ℤ) → column_lawful v ≡ true → (not (not (is_zero v)) || column_allowed v) ≡ true
plain v e = on (is_zero v)
  where
    on : (t : Bool) → (not (not t) || (not t && column_lawful v)) ≡ true
    on true = refl
    on false = e

lawful_at : (row : List ℤ) (k : ℕ) → columns_lawful row ≡ true → column_lawful (get_or row k (pos 0)) ≡ true
lawful_at [] k e = refl
lawful_at (v ∷ row) zero e = (and_parts (column_lawful v) (columns_lawful row) e).0
lawful_at (v ∷ row) (suc k) e = lawful_at row k (and_parts (column_lawful v) (columns_lawful row) e).1

module _ (r : Record) (range : InRange r) (law : lawful r ≡ true) where
  parts : (columns_lawful r.row ≡ true) × ((leb 1 r.count && leb r.node 15) ≡ true)
  parts = and_parts (columns_lawful r.row) (leb 1 r.count && leb r.node 15) law

  columns_fine : (k : ℕ) → k ≤ 8 → columns_allowed k (map_of r) r.row ≡ true
  columns_fine zero h = ok_none (map_of r) r.row
  columns_fine (suc k) h =
      let p : (not (bit (map_of r) k) || column_allowed (get_or r.row k (pos 0))) ≡ true = rw (column_bit r range.eight k (omega arith)) (plain (get_or r.row k (pos 0)) (lawful_at r.row k parts.0)) in
      rw add-one at (ok_more (map_of r) r.row k true (columns_fine k (omega arith)) p)

  count_fine : (not (bit (map_of r) 8) || leb 2 r.count) ≡ true
  count_fine = rw (count_bit r range.eight) (on (eqb r.count 1) refl)
    where
      one : 1 ≤ r.count
      one = leb-true 1 r.count (and_parts (leb 1 r.count) (leb r.node 15) parts.1).0

      on : (t : Bool) → eqb r.count 1 ≡ t → (not (not t) || leb 2 r.count) ≡ true
      on true e = refl
      on false e = let n : r.count ≡ 1 → ⊥ = eqb-false r.count 1 e in le-leb 2 r.count (omega (arith, one))

  node_fine : (not (bit (map_of r) 9) || (leb 1 r.node && leb r.node 15)) ≡ true
  node_fine = rw (node_bit r range.eight) (on (eqb r.node 0) refl)
    where
      small : leb r.node 15 ≡ true
      small = (and_parts (leb 1 r.count) (leb r.node 15) parts.1).1

      on : (t : Bool) → eqb r.node 0 ≡ t → (not (not t) || (leb 1 r.node && leb r.node 15)) ≡ true
      on true e = refl
      on false e = let n : r.node ≡ 0 → ⊥ = eqb-false r.node 0 e in and_from (leb 1 r.node) (leb r.node 15) (le-leb 1 r.node (omega arith)) small

  fine : allowed (map_of r) r ≡ true
  fine = rw (lt-ltb (map_of r) 2048 (map_below r range.eight), columns_fine 8 (omega arith), count_fine) node_fine

  pub decode_encode : (at : ℕ) (rest : List ℕ) → decode at (encode r ++ rest) ≡ Ok (r, rest)
  unfolding encode
  decode_encode at rest =
      let m = map_of r in
      let a = flat_map column_bytes r.row in
      let b = count_bytes r.count in
      let d = node_bytes r.node in
      let s : (in_two m ++ (a ++ (b ++ d))) ++ rest ≡ in_two m ++ (a ++ (b ++ (d ++ rest))) = simp append_assoc in
      let t : first_two (in_two m ++ (a ++ (b ++ (d ++ rest)))) ≡ Some (m, a ++ (b ++ (d ++ rest))) = two_read m (a ++ (b ++ (d ++ rest))) (let l = map_below r range.eight in omega arith) in
      ap (decode at) s ∙ (ap (behind_map at) t ∙ rw (fields_read r range rest, fine) refl)
