-- Bytes that are read as a record are the bytes of that record.
use Rattle.std.proofs.Common.{◌≡◌, ℕ, zero, suc, ◌+◌, ◌-◌, ◌*◌, ◌^◌, ◌<◌, ◌≤◌, Bool, true, false, cond, not, ◌&&◌, ◌||◌, eqb, ltb, leb, List, [], ◌∷◌, ◌++◌, map, length, get_or, take, ℤ, pos, Some, None, Ok, Err, Option, sym, refl, ap, ◌∙◌, subst, ⊎_elim, append_assoc, arith, w32, to_z}
use Rattle.std.specs.List.{flat_map}
use Rattle.std.proofs.lemmas.List.{length-append, length_push, get_or_push, get_or_append_left, get_or-append_right, get_or-map, append-nil}
use Rattle.std.proofs.lemmas.Bool.{not-true, le-leb, ne_eqb, ltb-true, leb-true, and_parts, and_from, cases_lt}
use Rattle.message.specs.declared.record.Record.{Record}
use Rattle.bag.specs.Refusal.{refusal}
use Rattle.bag.specs.Bytes.{in_four, in_two, Bytes}
use Rattle.message.specs.Decode.{then, bit, column_field, count_field, node_field, columns, fields, column_allowed, columns_allowed, allowed, judged, decode}
use Rattle.bag.specs.Bag.{is_zero}
use Rattle.message.specs.Lawful.{column_lawful, columns_lawful, lawful}
use Rattle.message.specs.Encode.{map_bits, map_of, column_bytes, count_bytes, node_bytes, encode}
use Rattle.message.proofs.Numerals.{four_written, two_written}
use Rattle.std.proofs.lemmas.Grind.{flat_map-append}
use Rattle.message.proofs.Encoded.{length_set_columns}
use Rattle.message.proofs.Maps.{bits_make}
use Rattle.message.proofs.Lawfulness.{lawful_append}

-- a field that was read: its bytes, whether its bit stands, and what is left
pub record Field {X : Type 0} (stands : Bool) (bytes : X → List ℕ) (absent lawful : X → Bool) (xs : List ℕ) (v : X) (rest : List ℕ) : Type 0 where
  pub split : xs ≡ bytes v ++ rest
  pub bit_is : stands ≡ not (absent v)
  pub law : lawful v ≡ true
  pub left : Bytes rest

abbrev Fields : {X : Type 0} → Bool → (X → List ℕ) → (X → Bool) → (X → Bool) → (X → Bool) → List ℕ → Option (X × List ℕ) → Type 0
Fields stands bytes absent fine lawful xs None = Unit {0}
Fields stands bytes absent fine lawful xs (Some p) = (not stands || fine p.0) ≡ true → Field stands bytes absent lawful xs p.0 p.1

plain_nonzero : (v : ℤ) → column_allowed v ≡ true → is_zero v ≡ false
plain_nonzero v e = not-true (is_zero v) (and_parts (not (is_zero v)) (column_lawful v) e).0

plain_lawful : (v : ℤ) → column_allowed v ≡ true → column_lawful v ≡ true
plain_lawful v e = (and_parts (not (is_zero v)) (column_lawful v) e).1

column_was : (b : Bool) (xs : List ℕ) → Bytes xs → Fields b column_bytes is_zero column_allowed column_lawful xs (column_field b xs)
column_was false xs h = λ e. record { split = refl; bit_is = refl; law = refl; left = h }
column_was true [] h = tt
column_was true (a ∷ []) h = tt
column_was true (a ∷ b ∷ []) h = tt
column_was true (a ∷ b ∷ c ∷ []) h = tt
column_was true (a ∷ b ∷ c ∷ d ∷ rest) h = λ e.
    let v = to_z w32 (a * 16777216 + b * 65536 + c * 256 + d) in
    let n = plain_nonzero v e in
    record {
      split = ap (λ l. l ++ rest) (sym (four_written a b c d h.0 h.1.0 h.1.1.0 h.1.1.1.0)) ∙ sym (ap (λ t. cond t [] (in_four v) ++ rest) n);
      bit_is = sym (ap not n);
      law = plain_lawful v e;
      left = h.1.1.1.1;
    }

abbrev count_absent : ℕ → Bool
count_absent n = eqb n 1

abbrev node_absent : ℕ → Bool
node_absent n = eqb n 0

count_was : (b : Bool) (xs : List ℕ) → Bytes xs → Fields b count_bytes count_absent (leb 2) (leb 1) xs (count_field b xs)
count_was false xs h = λ e. record { split = refl; bit_is = refl; law = refl; left = h }
count_was true [] h = tt
count_was true (a ∷ []) h = tt
count_was true (a ∷ b ∷ rest) h = λ e.
    let v = a * 256 + b in
    let two : 2 ≤ v = leb-true 2 v e in
    let n : eqb v 1 ≡ false = ne_eqb v 1 (λ x. omega arith) in
    record {
      split = ap (λ l. l ++ rest) (sym (two_written a b h.0 h.1.0)) ∙ sym (ap (λ t. cond t [] (in_two v) ++ rest) n);
      bit_is = sym (ap not n);
      law = le-leb 1 v (omega arith);
      left = h.1.1;
    }

node_was : (b : Bool) (xs : List ℕ) → Bytes xs → Fields b node_bytes node_absent (λ n. leb 1 n && leb n 15) (λ n. leb n 15) xs (node_field b xs)
node_was false xs h = λ e. record { split = refl; bit_is = refl; law = refl; left = h }
node_was true [] h = tt
node_was true (a ∷ rest) h = λ e.
    let p = and_parts (leb 1 a) (leb a 15) e in
    let one : 1 ≤ a = leb-true 1 a p.0 in
    let n : eqb a 0 ≡ false = ne_eqb a 0 (λ x. omega arith) in
    record {
      split = sym (ap (λ t. cond t [] (a ∷ []) ++ rest) n);
      bit_is = sym (ap not n);
      law = p.1;
      left = h.1;
    }

-- the first k columns that were read
pub record Columns (map k : ℕ) (xs : List ℕ) (row : List ℤ) (rest : List ℕ) : Type 0 where
  pub long : length row ≡ k
  pub split : xs ≡ flat_map column_bytes row ++ rest
  pub bits : (j : ℕ) → j < k → bit map j ≡ not (is_zero (get_or row j (pos 0)))
  pub law : columns_lawful row ≡ true
  pub left : Bytes rest

-- what was read before, where something was read
then_some : {X Y : Type 0} (o : Option X) (f : X → Option Y) (y : Y) → then o f ≡ Some y → (x : X) × (o ≡ Some x) × (f x ≡ Some y)
then_some None f y e = let z : ◌≡◌ {A = ℕ} 0 1 = cc in absurd (omega arith)
then_some (Some x) f y e = (x, refl, e)

some_same : {X : Type 0} (x y : X) → Some x ≡ Some y → x ≡ y
some_same x y e = cc

-- what the (k + 1)-th column adds
record Last (map k : ℕ) (xs : List ℕ) (row : List ℤ) (rest : List ℕ) : Type 0 where
  front : List ℤ
  middle : List ℕ
  value : ℤ
  before : columns k map xs ≡ Some (front, middle)
  field : column_field (bit map k) middle ≡ Some (value, rest)
  row_is : row ≡ front ++ value ∷ []

last_column : (map k : ℕ) (xs : List ℕ) (row : List ℤ) (rest : List ℕ) → columns (suc k) map xs ≡ Some (row, rest) → Last map k xs row rest
unfolding columns
last_column map k xs row rest e =
    let a = then_some (columns k map xs) (λ p. then (column_field (bit map k) p.1) (λ v. Some (p.0 ++ v.0 ∷ [], v.1))) (row, rest) e in
    let b = then_some (column_field (bit map k) a.0.1) (λ v. Some (a.0.0 ++ v.0 ∷ [], v.1)) (row, rest) a.2 in
    let s : (a.0.0 ++ b.0.0 ∷ [], b.0.1) ≡ (row, rest) = some_same (a.0.0 ++ b.0.0 ∷ [], b.0.1) (row, rest) b.2 in
    let t : b.0.1 ≡ rest = ap (λ (x : List ℤ × List ℕ). x.1) s in
    record {
      front = a.0.0;
      middle = a.0.1;
      value = b.0.0;
      before = a.1;
      field = b.1 ∙ ap (λ l. Some (b.0.0, l)) t;
      row_is = sym (ap (λ (x : List ℤ × List ℕ). x.0) s);
    }

columns_long : (map k : ℕ) (xs : List ℕ) (row : List ℤ) (rest : List ℕ) → columns k map xs ≡ Some (row, rest) → length row ≡ k
unfolding columns
columns_long map zero xs row rest e = ap length (sym (ap (λ (x : List ℤ × List ℕ). x.0) (some_same ([], xs) (row, rest) e)))
columns_long map (suc k) xs row rest e =
    let l = last_column map k xs row rest e in
    ap length l.row_is ∙ (length_push l.front l.value ∙ (let h = columns_long map k xs l.front l.middle l.before in omega arith))

-- the test of the first k columns looks at no other
allowed_front : (map k : ℕ) (row more : List ℤ) → k ≤ length row → columns_allowed k map (row ++ more) ≡ columns_allowed k map row
unfolding columns_allowed
allowed_front map zero row more h = refl
allowed_front map (suc k) row more h =
    let g : get_or (row ++ more) k (pos 0) ≡ get_or row k (pos 0) = get_or_append_left row more (pos 0) k (omega arith) in
    rw (allowed_front map k row more (omega arith), g) refl

allowed_parts : (map k : ℕ) (row : List ℤ) → columns_allowed (suc k) map row ≡ true → (columns_allowed k map row ≡ true) × ((not (bit map k) || column_allowed (get_or row k (pos 0))) ≡ true)
unfolding columns_allowed
allowed_parts map k row e = and_parts (columns_allowed k map row) (not (bit map k) || column_allowed (get_or row k (pos 0))) e

columns_was : (map k : ℕ) (xs : List ℕ) (row : List ℤ) (rest : List ℕ) → Bytes xs → columns k map xs ≡ Some (row, rest) → columns_allowed k map row ≡ true → Columns map k xs row rest
unfolding columns
columns_was map zero xs row rest h e a =
    let s = some_same ([], xs) (row, rest) e in
    let r : row ≡ [] = sym (ap (λ (x : List ℤ × List ℕ). x.0) s) in
    let t : xs ≡ rest = ap (λ (x : List ℤ × List ℕ). x.1) s in
    record {
      long = ap length r;
      split = t ∙ sym (ap (λ l. flat_map column_bytes l ++ rest) r);
      bits = λ j l. absurd (omega arith);
      law = ap columns_lawful r;
      left = subst Bytes t h;
    }
columns_was map (suc k) xs row rest h e a =
    let l = last_column map k xs row rest e in
    let front = l.front in
    let v = l.value in
    let long = columns_long map k xs front l.middle l.before in
    let here : get_or row k (pos 0) ≡ v = ap (λ r. get_or r k (pos 0)) l.row_is ∙ get_or_push front v (pos 0) k long in
    let p = allowed_parts map k row a in
    let af : columns_allowed k map front ≡ true = sym (allowed_front map k front (v ∷ []) (omega arith)) ∙ (sym (ap (columns_allowed k map) l.row_is) ∙ p.0) in
    let before = columns_was map k xs front l.middle h l.before af in
    let fine : (not (bit map k) || column_allowed v) ≡ true = sym (ap (λ x. not (bit map k) || column_allowed x) here) ∙ p.1 in
    let f : Field (bit map k) column_bytes is_zero column_lawful l.middle v rest = subst (Fields (bit map k) column_bytes is_zero column_allowed column_lawful l.middle) l.field (column_was (bit map k) l.middle before.left) fine in
    record {
      long = ap length l.row_is ∙ (length_push front v ∙ omega arith);
      split =
          before.split
          ∙ (ap (λ m. flat_map column_bytes front ++ m) f.split
          ∙ (sym (append_assoc (flat_map column_bytes front) (column_bytes v) rest)
          ∙ ap (λ m. m ++ rest) (ap (λ m. flat_map column_bytes front ++ m) (sym (append-nil (column_bytes v))) ∙ (sym (flat_map-append column_bytes front (v ∷ [])) ∙ sym (ap (flat_map column_bytes) l.row_is)))));
      bits = bits_of front v long l.row_is before.bits f.bit_is;
      law = ap columns_lawful l.row_is ∙ (lawful_append front (v ∷ []) ∙ and_from (columns_lawful front) (column_lawful v && true) before.law (and_from (column_lawful v) true f.law refl));
      left = f.left;
    }
  where
    bits_of : (front : List ℤ) (v : ℤ) → length front ≡ k → row ≡ front ++ v ∷ [] → ((j : ℕ) → j < k → bit map j ≡ not (is_zero (get_or front j (pos 0)))) → bit map k ≡ not (is_zero v) → (j : ℕ) → j < suc k → bit map j ≡ not (is_zero (get_or row j (pos 0)))
    bits_of front v long r low top j h =
        ⊎_elim
        (λ l. low j l ∙ ap (λ x. not (is_zero x)) (sym (ap (λ m. get_or m j (pos 0)) r ∙ get_or_append_left front (v ∷ []) (pos 0) j (omega arith))))
        (λ l. let e : j ≡ k = omega arith in ap (bit map) e ∙ (top ∙ ap (λ x. not (is_zero x)) (sym (ap (λ m. get_or m j (pos 0)) r ∙ get_or_push front v (pos 0) j (omega arith)))))
        (cases_lt j k)

-- a record whose bits are those of a map has that map
map_was : (r : Record) (m : ℕ) → length r.row ≡ 8 → m < 2048 → ((j : ℕ) → j < 8 → bit m j ≡ not (is_zero (get_or r.row j (pos 0)))) → bit m 8 ≡ not (eqb r.count 1) → bit m 9 ≡ not (eqb r.node 0) → bit m 10 ≡ r.take → map_of r ≡ m
unfolding map_of
map_was r m eight under low count node take =
    bits_make (map_bits r) m (subst (λ n. m < 2 ^ n) (sym eleven) under) at_each
  where
    eleven : length (map_bits r) ≡ 11
    eleven = length-append (map (λ (v : ℤ). not (is_zero v)) r.row) (not (eqb r.count 1) ∷ not (eqb r.node 0) ∷ r.take ∷ []) ∙ omega (arith, (length_set_columns r eight))

    high_each : (i : ℕ) → i < 3 → get_or (not (eqb r.count 1) ∷ not (eqb r.node 0) ∷ r.take ∷ []) i false ≡ bit m (8 + i)
    high_each zero h = sym count
    high_each (suc zero) h = sym node
    high_each (suc (suc zero)) h = sym take
    high_each (suc (suc (suc i))) h = absurd (omega arith)

    at_each : (k : ℕ) → k < length (map_bits r) → get_or (map_bits r) k false ≡ bit m k
    at_each k h =
        ⊎_elim
        (λ l.
        get_or_append_left (map (λ (v : ℤ). not (is_zero v)) r.row) (not (eqb r.count 1) ∷ not (eqb r.node 0) ∷ r.take ∷ []) false k (omega (arith, (length_set_columns r eight)))
        ∙ (get_or-map (λ (v : ℤ). not (is_zero v)) r.row k (pos 0) false (omega arith) ∙ sym (low k l)))
        (λ l.
        let e : 8 + (k - 8) ≡ k = omega arith in
        get_or-append_right (map (λ (v : ℤ). not (is_zero v)) r.row) (not (eqb r.count 1) ∷ not (eqb r.node 0) ∷ r.take ∷ []) 8 k false (length_set_columns r eight) l
        ∙ (high_each (k - 8) (omega (arith, eleven)) ∙ ap (bit m) e))
        (cases_lt k 8)

-- a record that was read: its bytes, its law, and what is left
pub record Was (xs : List ℕ) (r : Record) (rest : List ℕ) : Type 0 where
  pub split : xs ≡ encode r ++ rest
  pub law : lawful r ≡ true
  pub left : Bytes rest

record Parts (m : ℕ) (xs : List ℕ) (r : Record) (rest : List ℕ) : Type 0 where
  behind_columns : List ℕ
  behind_count : List ℕ
  columns_read : columns 8 m xs ≡ Some (r.row, behind_columns)
  count_read : count_field (bit m 8) behind_columns ≡ Some (r.count, behind_count)
  node_read : node_field (bit m 9) behind_count ≡ Some (r.node, rest)
  take_read : bit m 10 ≡ r.take

parts : (m : ℕ) (xs : List ℕ) (r : Record) (rest : List ℕ) → fields m xs ≡ Some (r, rest) → Parts m xs r rest
parts m xs r rest e =
    let Got : Type 0 = Record × List ℕ in
    let made : List ℤ → ℕ → ℕ → Record = λ row n s. record { row = row; count = n; node = s; take = bit m 10 } in
    let a = then_some (columns 8 m xs) (λ row. then (count_field (bit m 8) row.1) (λ n. then (node_field (bit m 9) n.1) (λ s. Some (made row.0 n.0 s.0, s.1)))) (r, rest) e in
    let b = then_some (count_field (bit m 8) a.0.1) (λ n. then (node_field (bit m 9) n.1) (λ s. Some (made a.0.0 n.0 s.0, s.1))) (r, rest) a.2 in
    let c = then_some (node_field (bit m 9) b.0.1) (λ s. Some (made a.0.0 b.0.0 s.0, s.1)) (r, rest) b.2 in
    let s : (made a.0.0 b.0.0 c.0.0, c.0.1) ≡ (r, rest) = some_same (made a.0.0 b.0.0 c.0.0, c.0.1) (r, rest) c.2 in
    let row : a.0.0 ≡ r.row = ap (λ (x : Record × List ℕ). x.0.row) s in
    let count : b.0.0 ≡ r.count = ap (λ (x : Record × List ℕ). x.0.count) s in
    let node : c.0.0 ≡ r.node = ap (λ (x : Record × List ℕ). x.0.node) s in
    let end : c.0.1 ≡ rest = ap (λ (x : Record × List ℕ). x.1) s in
    record {
      behind_columns = a.0.1;
      behind_count = b.0.1;
      columns_read = a.1 ∙ ap (λ l. Some (l, a.0.1)) row;
      count_read = b.1 ∙ ap (λ n. Some (n, b.0.1)) count;
      node_read = c.1 ∙ (ap (λ n. Some (n, c.0.1)) node ∙ ap (λ l. Some (r.node, l)) end);
      take_read = ap (λ (x : Record × List ℕ). x.0.take) s;
    }

fields_was : (a b : ℕ) (xs : List ℕ) (r : Record) (rest : List ℕ) → a < 256 → b < 256 → Bytes xs → fields (a * 256 + b) xs ≡ Some (r, rest) → allowed (a * 256 + b) r ≡ true → Was (a ∷ b ∷ xs) r rest
unfolding encode
fields_was a b xs r rest ha hb h e fine =
    let m = a * 256 + b in
    let p = parts m xs r rest e in
    let f1 = and_parts (ltb m 2048) (columns_allowed 8 m r.row && ((not (bit m 8) || leb 2 r.count) && (not (bit m 9) || (leb 1 r.node && leb r.node 15)))) fine in
    let f2 = and_parts (columns_allowed 8 m r.row) ((not (bit m 8) || leb 2 r.count) && (not (bit m 9) || (leb 1 r.node && leb r.node 15))) f1.1 in
    let f3 = and_parts (not (bit m 8) || leb 2 r.count) (not (bit m 9) || (leb 1 r.node && leb r.node 15)) f2.1 in
    let cs = columns_was m 8 xs r.row p.behind_columns h p.columns_read f2.0 in
    let cn : Field (bit m 8) count_bytes count_absent (leb 1) p.behind_columns r.count p.behind_count =
    subst (Fields (bit m 8) count_bytes count_absent (leb 2) (leb 1) p.behind_columns) p.count_read (count_was (bit m 8) p.behind_columns cs.left) f3.0 in
    let nd : Field (bit m 9) node_bytes node_absent (λ n. leb n 15) p.behind_count r.node rest =
    subst (Fields (bit m 9) node_bytes node_absent (λ n. leb 1 n && leb n 15) (λ n. leb n 15) p.behind_count) p.node_read (node_was (bit m 9) p.behind_count cn.left) f3.1 in
    let mp : map_of r ≡ m = map_was r m cs.long (ltb-true m 2048 f1.0) cs.bits cn.bit_is nd.bit_is p.take_read in
    let two : in_two (map_of r) ≡ a ∷ b ∷ [] = ap in_two mp ∙ two_written a b ha hb in
    let x = flat_map column_bytes r.row in
    let y = count_bytes r.count in
    let z = node_bytes r.node in
    let whole : xs ≡ x ++ (y ++ (z ++ rest)) = cs.split ∙ ap (λ l. x ++ l) (cn.split ∙ ap (λ l. y ++ l) nd.split) in
    let s : (in_two (map_of r) ++ (x ++ (y ++ z))) ++ rest ≡ in_two (map_of r) ++ (x ++ (y ++ (z ++ rest))) = simp append_assoc in
    record {
      split = ap (λ l. a ∷ b ∷ l) whole ∙ sym (s ∙ ap (λ l. l ++ (x ++ (y ++ (z ++ rest)))) two);
      law = and_from (columns_lawful r.row) (leb 1 r.count && leb r.node 15) cs.law (and_from (leb 1 r.count) (leb r.node 15) cn.law nd.law);
      left = nd.left;
    }

pub decode_was : (at : ℕ) (xs : List ℕ) (r : Record) (rest : List ℕ) → Bytes xs → decode at xs ≡ Ok (r, rest) → Was xs r rest
decode_was at [] r rest h e = let z : ◌≡◌ {A = ℕ} 0 1 = cc in absurd (omega arith)
decode_was at (a ∷ []) r rest h e = let z : ◌≡◌ {A = ℕ} 0 1 = cc in absurd (omega arith)
decode_was at (a ∷ b ∷ xs) r rest h e = on (fields (a * 256 + b) xs) refl e
  where
    on : (o : Option (Record × List ℕ)) → fields (a * 256 + b) xs ≡ o → judged at (a * 256 + b) o ≡ Ok (r, rest) → Was (a ∷ b ∷ xs) r rest
    on None f e = let z : ◌≡◌ {A = ℕ} 0 1 = cc in absurd (omega arith)
    on (Some got) f e = by (allowed (a * 256 + b) got.0) refl e
      where
        by : (t : Bool) → allowed (a * 256 + b) got.0 ≡ t → cond t (Ok got) (Err (refusal 2 at)) ≡ Ok (r, rest) → Was (a ∷ b ∷ xs) r rest
        by false q e = let z : ◌≡◌ {A = ℕ} 0 1 = cc in absurd (omega arith)
        by true q e =
            let g : got ≡ (r, rest) = cc in
            let r_is : got.0 ≡ r = ap (λ (x : Record × List ℕ). x.0) g in
            fields_was a b xs r rest h.0 h.1.0 h.1.1 (f ∙ ap Some g) (sym (ap (allowed (a * 256 + b)) r_is) ∙ q)
