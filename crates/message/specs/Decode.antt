-- One record read from bytes: its map, then the fields whose bit stands.
--
--   bit                                    bit k of a map, the lowest is bit 0
--   field                                  the n bytes of a field, which are `absent` where it does not stand, and the bytes behind them; none where it is not whole
--   column_field, count_field, node_field  a field that stands is read, one that does not has its value
--   columns                                the first k columns of the row
--   fields                                 all fields behind a map, and the bytes behind them; none where one is not whole
--   allowed                                the map has no unknown bit, and no field that stands holds a forbidden value
--   decode                                 the record that begins at the byte `at`, and the bytes behind it, or the refusal
use Rattle.std.specs.Prelude.{ℕ, zero, suc, ◌/◌, ◌%◌, ◌^◌, Bool, true, false, cond, not, ◌&&◌, ◌||◌, List, [], ◌∷◌, ◌++◌, length, take, drop, ℤ, pos, Some, None, Ok, Err, Option, Result, ◌==◌, nat_le, nat_lt, slice_index_or}
use Rattle.message.specs.declared.record.Record.{Record}
use Rattle.bag.specs.Bytes.{first_four, first_two, first_one}
use Rattle.bag.specs.Refusal.{Refusal}
use Rattle.message.specs.declared.fault.ReadFault.TheVariants.{Torn, Map}
use Rattle.message.specs.Refusal.{read_refusal}
use Rattle.bag.specs.Bag.{is_zero}
use Rattle.message.specs.Lawful.{column_lawful}

-- what is left to read is passed from field to field
abbrev pub then : {X Y : Type 0} → Option X → (X → Option Y) → Option Y
then None f = None
then (Some x) f = f x

abbrev pub bit : ℕ → ℕ → Bool
bit map k = map / 2 ^ k % 2 == 1

abbrev pub field : ℕ → List ℕ → Bool → List ℕ → Option (List ℕ × List ℕ)
field n absent true bytes = cond (nat_le n (length bytes)) (Some (take n bytes, drop n bytes)) None
field n absent false bytes = Some (absent, bytes)

abbrev pub column_field : Bool → List ℕ → Option (ℤ × List ℕ)
column_field true bytes = first_four bytes
column_field false bytes = Some (pos 0, bytes)

abbrev pub count_field : Bool → List ℕ → Option (ℕ × List ℕ)
count_field true bytes = first_two bytes
count_field false bytes = Some (1, bytes)

abbrev pub node_field : Bool → List ℕ → Option (ℕ × List ℕ)
node_field true bytes = first_one bytes
node_field false bytes = Some (0, bytes)

unfoldable pub columns : ℕ → ℕ → List ℕ → Option (List ℤ × List ℕ)
columns zero map bytes = Some ([], bytes)
columns (suc k) map bytes =
    then (columns k map bytes) (λ row. then (column_field (bit map k) row.1) (λ v. Some (row.0 ++ v.0 ∷ [], v.1)))

abbrev pub fields : ℕ → List ℕ → Option (Record × List ℕ)
fields map bytes =
    then (columns 8 map bytes) (λ row. then (count_field (bit map 8) row.1) (λ n. then (node_field (bit map 9) n.1) (λ s. Some (record { row = row.0; count = n.0; node = s.0; take = bit map 10 }, s.1))))

-- a column field is neither 0 nor the smallest number
abbrev pub column_allowed : ℤ → Bool
column_allowed v = not (is_zero v) && column_lawful v

-- of the first k columns each field that stands is allowed
unfoldable pub columns_allowed : ℕ → ℕ → List ℤ → Bool
columns_allowed zero map row = true
columns_allowed (suc k) map row = columns_allowed k map row && (not (bit map k) || column_allowed (slice_index_or row k (pos 0)))

abbrev pub allowed : ℕ → Record → Bool
allowed map r =
    nat_lt map 2048 && (columns_allowed 8 map r.row && ((not (bit map 8) || nat_le 2 r.count) && (not (bit map 9) || (nat_le 1 r.node && nat_le r.node 15))))

-- not whole comes before forbidden
abbrev pub judged : ℕ → ℕ → Option (Record × List ℕ) → Result (Record × List ℕ) Refusal
judged at map None = Err (read_refusal (Torn at))
judged at map (Some got) = cond (allowed map got.0) (Ok got) (Err (read_refusal (Map at)))

abbrev pub behind_map : ℕ → Option (ℕ × List ℕ) → Result (Record × List ℕ) Refusal
behind_map at None = Err (read_refusal (Torn at))
behind_map at (Some m) = judged at m.0 (fields m.0 m.1)

abbrev pub decode : ℕ → List ℕ → Result (Record × List ℕ) Refusal
decode at bytes = behind_map at (first_two bytes)
