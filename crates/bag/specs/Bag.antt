-- Bags (multisets of rows) and changes (deltas), both as lists of rows with a signed number of copies. Assumes nothing.
-- A list is canonical if its rows strictly ascend and no number is 0; so two canonical lists with equal counts are equal, and
-- one algebra serves both: a bag is a canonical list of positive numbers, a change any canonical list. Counts have no upper bound
-- here: whether one passes what a store can hold is judged where bags are stored.
--     Line, Lines              a row with a number of copies; a list of them
--     count xs q               how many copies of q there are; `copies_at q r n` is what a line of n copies of r adds to it
--     add_copies r n xs        n more copies of r in a canonical list
--     collect xs               any list of lines collected into canonical form
--     Canonical xs, IsBag xs   rows strictly ascend and no number is 0; and every number is positive
--     EachRow P xs             P holds of each row that is listed
--     every_line f xs          the test f passes at each line
--     negated xs               every number negated
--     difference old new       the change that leads from old to new
--     applied old d            the bag that the change d leads to
--     next xs r                the smallest row greater than r, with its count, or none
--     rows_after xs r          the lines of the rows greater than r
--     lowest_row               eight times the smallest number: of what the type Row holds it is the least (`TheLowestRowIsLeast`)
use Rattle.std.specs.Prelude.{◌≡◌, zero, suc, Bool, true, false, cond, List, [], ◌∷◌, ◌++◌, replicate, ℤ, pos, negsuc, ◌+ℤ◌, neg_ℤ, Some, None, Option}
use Rattle.std.specs.declared.cmp.Ordering.TheVariants.{Less, Equal, Greater}
use Rattle.std.specs.declared.cmp.Ordering.{Ordering}
use Rattle.bag.specs.Order.{Row, row_order}

abbrev pub Line : Type 0
Line = Row × ℤ

abbrev pub Lines : Type 0
Lines = List Line

abbrev pub is_zero : ℤ → Bool
is_zero (pos zero) = true
is_zero (pos (suc n)) = false
is_zero (negsuc n) = false

abbrev pub is_positive : ℤ → Bool
is_positive (pos zero) = false
is_positive (pos (suc n)) = true
is_positive (negsuc n) = false

-- n, if the rows compared are equal
abbrev pub if_equal : Ordering → ℤ → ℤ
if_equal Less n = pos 0
if_equal Equal n = n
if_equal Greater n = pos 0

-- n copies of r, as counted at q
abbrev pub copies_at : Row → Row → ℤ → ℤ
copies_at q r n = if_equal (row_order r q) n

unfoldable pub count : Lines → Row → ℤ
count [] q = pos 0
count (e ∷ xs) q = copies_at q e.0 e.1 +ℤ count xs q

-- the line of n copies of r in front, unless n is 0
abbrev pub with_line : Row → ℤ → Lines → Lines
with_line r n xs = cond (is_zero n) xs ((r, n) ∷ xs)

-- n copies of r go before the line e, into it, or behind it, where `behind` is the rest with them
abbrev pub add_by : Ordering → Row → ℤ → Line → Lines → Lines → Lines
add_by Less r n e xs behind = with_line r n (e ∷ xs)
add_by Equal r n e xs behind = with_line e.0 (n +ℤ e.1) xs
add_by Greater r n e xs behind = e ∷ behind

unfoldable pub add_copies : Row → ℤ → Lines → Lines
add_copies r n [] = with_line r n []
add_copies r n (e ∷ xs) = add_by (row_order r e.0) r n e xs (add_copies r n xs)

unfoldable pub collect : Lines → Lines
collect [] = []
collect (e ∷ xs) = add_copies e.0 e.1 (collect xs)

-- r is less than the first row
abbrev pub Before : Row → Lines → Type 0
Before r [] = Unit {0}
Before r (e ∷ xs) = row_order r e.0 ≡ Less

abbrev pub Canonical : Lines → Type 0
Canonical [] = Unit {0}
Canonical (e ∷ xs) = (is_zero e.1 ≡ false) × Before e.0 xs × Canonical xs

abbrev pub Positive : Lines → Type 0
Positive [] = Unit {0}
Positive (e ∷ xs) = (is_positive e.1 ≡ true) × Positive xs

abbrev pub IsBag : Lines → Type 0
IsBag xs = Canonical xs × Positive xs

abbrev pub EachRow : (Row → Type 0) → Lines → Type 0
EachRow P [] = Unit {0}
EachRow P (e ∷ xs) = P e.0 × EachRow P xs

unfoldable pub every_line : (Row → ℤ → Bool) → Lines → Bool
every_line f [] = true
every_line f (e ∷ xs) = cond (f e.0 e.1) (every_line f xs) false

unfoldable pub negated : Lines → Lines
negated [] = []
negated (e ∷ xs) = (e.0, neg_ℤ e.1) ∷ negated xs

unfoldable pub difference : Lines → Lines → Lines
difference old new = collect (new ++ negated old)

unfoldable pub applied : Lines → Lines → Lines
applied old d = collect (old ++ d)

-- the first of two at `Less`, else the second
abbrev pub if_less : {A : Type 0} → Ordering → A → A → A
if_less Less a b = a
if_less Equal a b = b
if_less Greater a b = b

unfoldable pub next : Lines → Row → Option Line
next [] r = None
next (e ∷ xs) r = if_less (row_order r e.0) (Some e) (next xs r)

unfoldable pub rows_after : Lines → Row → Lines
rows_after [] r = []
rows_after (e ∷ xs) r = if_less (row_order r e.0) (e ∷ xs) (rows_after xs r)

abbrev pub lowest_row : Row
lowest_row = replicate 8 (negsuc 2147483647)
