-- The bytes of one record: a map of two bytes, then the fields that do not have the value of an absent one.
--
--   map_bits       for each field whether it stands, column 0 first, then count, node and the mark of a take
--   bits_value     the number that bits make, the lowest bit first
--   map_of         the map
--   column_bytes, count_bytes, node_bytes   a field's bytes; none where the value is that of an absent field
--   encode         the record's bytes
--   encode_all     the bytes of a message
use Rattle.std.specs.Prelude.{ℕ, ◌+◌, ◌*◌, Bool, true, false, cond, not, List, [], ◌∷◌, ◌++◌, map, ℤ, ◌==◌}
use Rattle.std.specs.List.{flat_map}
use Rattle.message.specs.declared.record.Record.{Record}
use Rattle.bag.specs.Bytes.{in_four, in_two}
use Rattle.bag.specs.Bag.{is_zero}

abbrev pub map_bits : Record → List Bool
map_bits r =
    map (λ v. not (is_zero v)) r.row ++ (not (r.count == 1) ∷ not (r.node == 0) ∷ r.take ∷ [])

abbrev pub bit_value : Bool → ℕ
bit_value true = 1
bit_value false = 0

unfoldable pub bits_value : List Bool → ℕ
bits_value [] = 0
bits_value (b ∷ bs) = bit_value b + 2 * bits_value bs

unfoldable pub map_of : Record → ℕ
map_of r = bits_value (map_bits r)

abbrev pub column_bytes : ℤ → List ℕ
column_bytes v = cond (is_zero v) [] (in_four v)

abbrev pub count_bytes : ℕ → List ℕ
count_bytes n = cond (n == 1) [] (in_two n)

abbrev pub node_bytes : ℕ → List ℕ
node_bytes n = cond (n == 0) [] (n ∷ [])

unfoldable pub encode : Record → List ℕ
encode r = in_two (map_of r) ++ (flat_map column_bytes r.row ++ (count_bytes r.count ++ node_bytes r.node))

abbrev pub encode_all : List Record → List ℕ
encode_all rs = flat_map encode rs
