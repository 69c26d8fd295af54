-- A record's bytes, field by field.
use Rattle.std.proofs.Common.{◌≡◌, ℕ, ◌+◌, ◌*◌, ◌^◌, ◌≤◌, Bool, true, false, cond, refl, not, eqb, List, [], ◌∷◌, ◌++◌, map, length, ℤ, ap, ◌∙◌, arith, length-append}
use Rattle.std.specs.Int.{from_bool}
use Rattle.std.specs.List.{flat_map}
use Rattle.std.proofs.lemmas.List.{length-map}
use Rattle.message.specs.declared.record.Record.{Record}
use Rattle.bag.specs.Bag.{is_zero}
use Rattle.message.specs.Encode.{bit_value, bits_value, map_of, column_bytes, count_bytes, node_bytes, encode}
use Rattle.message.proofs.Maps.{bits_append}

-- what a place past a list of records reads as
abbrev pub none : Record
none = record { row = []; count = 0; node = 0; take = false }

abbrev pub set_columns : Record → List Bool
set_columns r = map (λ (v : ℤ). not (is_zero v)) r.row

pub length_set_columns : (r : Record) → length r.row ≡ 8 → length (set_columns r) ≡ 8
length_set_columns r eight = length-map r.row (λ (v : ℤ). not (is_zero v)) ∙ eight

-- the map as the sum of what each field adds
pub map_of_sum : (r : Record) (columns count node take : ℕ) → length r.row ≡ 8 → columns ≡ bits_value (set_columns r) → count ≡ 256 * bit_value (not (eqb r.count 1)) → node ≡ 512 * bit_value (not (eqb r.node 0)) → take ≡ 1024 * bit_value r.take → ((columns + count) + node) + take ≡ map_of r
unfolding map_of bits_value
map_of_sum r columns count node take eight a b c d =
    let xs = set_columns r in
    let long = length_set_columns r eight in
    let p : 2 ^ length xs ≡ 256 = ap (λ n. 2 ^ n) long in
    let x = bit_value (not (eqb r.count 1)) in
    let y = bit_value (not (eqb r.node 0)) in
    let z = bit_value r.take in
    let s : map_of r ≡ bits_value xs + 2 ^ length xs * (x + 2 * (y + 2 * (z + 2 * 0))) = bits_append xs (not (eqb r.count 1) ∷ not (eqb r.node 0) ∷ r.take ∷ []) in
    let t : map_of r ≡ bits_value xs + 256 * (x + 2 * (y + 2 * (z + 2 * 0))) = rw p at s in
    omega arith

pub length_encode : (r : Record) → length (encode r) ≡ 2 + (length (flat_map column_bytes r.row) + (length (count_bytes r.count) + length (node_bytes r.node)))
unfolding encode
length_encode r =
    let a = flat_map column_bytes r.row in
    let b = count_bytes r.count in
    let d = node_bytes r.node in
    omega (arith, length-append a (b ++ d), length-append b d)

-- a field that stands where its value is not that of an absent one
pub absent_or_whole : (n absent : ℕ) (bytes whole : List ℕ) → bytes ≡ whole → cond (not (eqb n absent)) bytes [] ≡ cond (eqb n absent) [] whole
absent_or_whole n absent bytes whole e = by (eqb n absent)
  where
    by : (t : Bool) → cond (not t) bytes [] ≡ cond t [] whole
    by true = refl
    by false = e

-- the bit of a field, as the code makes it
pub field_bit : (b : Bool) (n : ℕ) → n ≡ from_bool b → (n ≡ bit_value b) × (n ≤ 1)
field_bit true n e = (e, omega arith)
field_bit false n e = (e, omega arith)

-- a field's length, where it has n bytes
pub absent_or_long : (value absent : ℕ) (whole : List ℕ) → length (cond (eqb value absent) [] whole) ≡ length whole * from_bool (not (eqb value absent))
absent_or_long value absent whole = by (eqb value absent)
  where
    by : (t : Bool) → length (cond t [] whole) ≡ length whole * from_bool (not t)
    by true = omega arith
    by false = omega arith
