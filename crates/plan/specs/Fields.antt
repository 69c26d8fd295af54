-- One field read from bytes: its value and the bytes behind it, or the number of the cause.
--
--   missing, outside, not_lower, past_width, bad_width, bad_count   the numbers of the causes, 1 to 6
--   Read          what was read and the bytes behind it, or the number of the cause
--   then          goes on with what was read; the first bad field decides
--   when          a value under a test, else the cause
--   octet         one byte
--   lower         the number of a lower node; ws are the widths of the lower nodes
--   column        a column of rows w wide
--   within        a number from a to b
--   relation      0 <, 1 ≤, 2 =, 3 ≠, 4 ≥, 5 >
--   relation_at   a relation's byte
--   word          a signed number of four bytes, the highest byte first
--   operand       kind 0 and a number, or kind 1 and a column
--   items         n fields of one kind
--   padded        a list filled up with blanks to a size
--   listed        what was read, filled up with blanks
--   columns       n columns, in eight places
--   column_pair   a column of left rows and a column of right rows; `no_pair` is the blank
--   pairs         n of them, in four places
use Rattle.std.specs.Prelude.{ℕ, zero, suc, ◌+◌, ◌-◌, ◌*◌, Bool, true, false, cond, ◌&&◌, List, [], ◌∷◌, ◌++◌, length, replicate, Ok, Err, Result, ◌==◌, nat_le, nat_lt}
use Rattle.std.proofs.Common.{to_z}
use Rattle.std.specs.Int.{w32}
use Rattle.bag.specs.declared.condition.Operand.{Operand}
use Rattle.bag.specs.declared.condition.Operand.TheVariants.{Constant, Column}
use Rattle.bag.specs.declared.condition.Relation.{Relation}
use Rattle.bag.specs.declared.condition.Relation.TheVariants.{Less, LessOrEqual, Equal, NotEqual, GreaterOrEqual, Greater}
use Rattle.plan.specs.declared.node.ColumnPair.{ColumnPair}

abbrev pub missing : ℕ
missing = 1

abbrev pub outside : ℕ
outside = 2

abbrev pub not_lower : ℕ
not_lower = 3

abbrev pub past_width : ℕ
past_width = 4

abbrev pub bad_width : ℕ
bad_width = 5

abbrev pub bad_count : ℕ
bad_count = 6

abbrev pub Read : Type 0 → Type 0
Read X = Result (X × List ℕ) ℕ

abbrev pub then : {X Y : Type 0} → Result X ℕ → (X → Result Y ℕ) → Result Y ℕ
then (Ok x) f = f x
then (Err e) f = Err e

abbrev pub when : {X : Type 0} → Bool → ℕ → X → Result X ℕ
when true e x = Ok x
when false e x = Err e

abbrev pub octet : List ℕ → Read ℕ
octet [] = Err missing
octet (b ∷ rest) = Ok (b, rest)

abbrev pub lower : List ℕ → List ℕ → Read ℕ
lower ws bytes = then (octet bytes) (λ p. when (nat_lt p.0 (length ws)) not_lower p)

abbrev pub column : ℕ → List ℕ → Read ℕ
column w bytes = then (octet bytes) (λ p. when (nat_lt p.0 w) past_width p)

abbrev pub within : ℕ → ℕ → List ℕ → Read ℕ
within a b bytes = then (octet bytes) (λ p. when (nat_le a p.0 && nat_le p.0 b) outside p)

abbrev pub relation : ℕ → Result Relation ℕ
relation b =
    cond (b == 0) (Ok Less) (cond (b == 1) (Ok LessOrEqual) (cond (b == 2) (Ok Equal) (cond (b == 3) (Ok NotEqual) (cond (b == 4) (Ok GreaterOrEqual) (cond (b == 5) (Ok Greater) (Err outside))))))

abbrev pub relation_at : List ℕ → Read Relation
relation_at bytes = then (octet bytes) (λ b. then (relation b.0) (λ r. Ok (r, b.1)))

abbrev pub word : List ℕ → Read Operand
word [] = Err missing
word (a ∷ []) = Err missing
word (a ∷ b ∷ []) = Err missing
word (a ∷ b ∷ c ∷ []) = Err missing
word (a ∷ b ∷ c ∷ d ∷ rest) = Ok (Constant (to_z w32 (a * 16777216 + b * 65536 + c * 256 + d)), rest)

abbrev pub operand : ℕ → List ℕ → Read Operand
operand w bytes =
    then (octet bytes) (λ k. cond (k.0 == 0) (word k.1) (cond (k.0 == 1) (then (column w k.1) (λ b. Ok (Column b.0, b.1))) (Err outside)))

unfoldable pub items : {X : Type 0} → (List ℕ → Read X) → ℕ → List ℕ → Read (List X)
items reader zero bytes = Ok ([], bytes)
items reader (suc n) bytes =
    then (reader bytes) (λ x. then (items reader n x.1) (λ xs. Ok (x.0 ∷ xs.0, xs.1)))

abbrev pub padded : {X : Type 0} → ℕ → X → List X → List X
padded size blank xs = xs ++ replicate (size - length xs) blank

abbrev pub listed : {X : Type 0} → ℕ → X → Read (List X) → Read (List X)
listed size blank (Ok xs) = Ok (padded size blank xs.0, xs.1)
listed size blank (Err e) = Err e

abbrev pub columns : ℕ → ℕ → List ℕ → Read (List ℕ)
columns n w bytes = listed 8 0 (items (column w) n bytes)

abbrev pub column_pair : ℕ → ℕ → List ℕ → Read ColumnPair
column_pair wl wr bytes =
    then (column wl bytes) (λ a. then (column wr a.1) (λ b. Ok (record { left = a.0; right = b.0 }, b.1)))

abbrev pub no_pair : ColumnPair
no_pair = record { left = 0; right = 0 }

abbrev pub pairs : ℕ → ℕ → ℕ → List ℕ → Read (List ColumnPair)
pairs n wl wr bytes = listed 4 no_pair (items (column_pair wl wr) n bytes)
