-- Lines in bytes, there and back. Assumes nothing.
--     length_line, length_layout      35 bytes for each line
--     line_back                       a lawful line is read from its bytes as it was
--     stored_back                     and so are lines laid one behind the other
use Rattle.std.proofs.Common.{◌≡◌, ℕ, zero, suc, ◌+◌, ◌*◌, ◌/◌, ◌%◌, ◌^◌, ◌<◌, ◌≤◌, List, [], ◌∷◌, ◌++◌, length, get_or, take, drop, ℤ, sym, refl, ap, ◌∙◌, subst, ap₂, append_assoc, add_assoc, mod-eq_of_lt, arith, length-append, w32, SFits, to_z, of_z}
use Rattle.std.specs.List.{flat_map, AllByRecursion}
use Rattle.std.proofs.lemmas.Int.{to_z-of_z, ints}
use Rattle.std.proofs.lemmas.Nat.{shr-shr, shr_split, shr_below}
use Rattle.std.proofs.lemmas.List.{get_or-drop, drop_at, drop-drop, ext_get_or}
use Rattle.std.proofs.ByRecursion.{All-get_or}
use Rattle.std.proofs.lemmas.List.FromFn.{length-map-range_with_len, get_or-map-range_with_len}
use Rattle.bag.specs.Order.{Row}
use Rattle.bag.specs.Lines.{blank_stock_line}
use Rattle.bag.specs.declared.lines.StockLine.{StockLine}
use Rattle.bag.specs.Columns.{IsRow}
use Rattle.bag.specs.Bytes.{in_four, in_two}
use Rattle.byte_stock.specs.ByteLines.{four_at, two_at, line_bytes, layout, row_at, line_at, stored_in}
use Rattle.stock.specs.Holding.{LawfulLine}
use Rattle.byte_stock.specs.ByteStored.{Stored, line_of}
use Rattle.byte_stock.proofs.ByteJoins.{length_columns}

-- a number of four bytes is the sum of its bytes
digits : (n : ℕ) → n < 2 ^ 32 → n / 16777216 % 256 * 16777216 + n / 65536 % 256 * 65536 + n / 256 % 256 * 256 + n % 256 ≡ n
digits n h =
    let q : n / 256 / 256 ≡ n / 65536 = shr-shr n 8 8 in
    let r : n / 65536 / 256 ≡ n / 16777216 = shr-shr n 16 8 in
    let a : n / 256 * 256 + n % 256 ≡ n = shr_split n 8 in
    let b : n / 65536 * 256 + n / 256 % 256 ≡ n / 256 = subst (λ m. m * 256 + n / 256 % 256 ≡ n / 256) q (shr_split (n / 256) 8) in
    let d : n / 16777216 * 256 + n / 65536 % 256 ≡ n / 65536 = subst (λ m. m * 256 + n / 65536 % 256 ≡ n / 65536) r (shr_split (n / 65536) 8) in
    let t : n / 16777216 < 256 = shr_below n 8 24 h in
    let u : n / 16777216 % 256 ≡ n / 16777216 = mod-eq_of_lt t in
    omega arith

ofZ_below : (v : ℤ) → SFits w32 v → of_z w32 v < 2 ^ 32
ofZ_below v f = omega (arith, ints)

four_back : (v : ℤ) → SFits w32 v → to_z w32 (of_z w32 v / 16777216 % 256 * 16777216 + of_z w32 v / 65536 % 256 * 65536 + of_z w32 v / 256 % 256 * 256 + of_z w32 v % 256) ≡ v
four_back v f = ap (to_z w32) (digits (of_z w32 v) (ofZ_below v f)) ∙ to_z-of_z w32 v f

two_back : (n : ℕ) → n ≤ 65535 → n / 256 % 256 * 256 + n % 256 ≡ n
two_back n h = omega arith

pub length_line : (l : StockLine) → length l.row ≡ 8 → length (line_bytes l) ≡ 35
unfolding line_bytes
length_line l h = omega (arith, length-append (flat_map in_four l.row) (in_two l.count), length_columns l.row)

pub length_layout : (ls : Stored) → AllByRecursion LawfulLine ls → length (layout ls) ≡ 35 * length ls
unfolding layout
length_layout [] a = refl
length_layout (l ∷ ls) a = omega (arith, length-append (line_bytes l) (layout ls), length_line l a.0.row.0, length_layout ls a.1)

pub four_taken : (b : List ℕ) → four_at (take 4 b) 0 ≡ four_at b 0
four_taken [] = refl
four_taken (a ∷ []) = refl
four_taken (a ∷ b ∷ []) = refl
four_taken (a ∷ b ∷ c ∷ []) = refl
four_taken (a ∷ b ∷ c ∷ d ∷ r) = refl

pub four_shift : (b : List ℕ) (p k : ℕ) → four_at b (p + k) ≡ four_at (drop p b) k
four_shift b p k = simp (get_or-drop, add_assoc)

pub two_shift : (b : List ℕ) (p k : ℕ) → two_at b (p + k) ≡ two_at (drop p b) k
two_shift b p k = simp (get_or-drop, add_assoc)

pub row_shift : (b : List ℕ) (p k : ℕ) → row_at b (p + k) ≡ row_at (drop p b) k
unfolding row_at
row_shift b p k = simp (get_or-drop, add_assoc)

-- what stands in front of the row is its shelf, and behind it is its count
row_back : (s : ℕ) (r : Row) (rest : List ℕ) → IsRow r → row_at (s ∷ (flat_map in_four r ++ rest)) 1 ≡ r
unfolding row_at
row_back s [] rest h = absurd (let z = h.0 in omega arith)
row_back s (a ∷ []) rest h = absurd (let z = h.0 in omega arith)
row_back s (a ∷ b ∷ []) rest h = absurd (let z = h.0 in omega arith)
row_back s (a ∷ b ∷ c ∷ []) rest h = absurd (let z = h.0 in omega arith)
row_back s (a ∷ b ∷ c ∷ d ∷ []) rest h = absurd (let z = h.0 in omega arith)
row_back s (a ∷ b ∷ c ∷ d ∷ e ∷ []) rest h = absurd (let z = h.0 in omega arith)
row_back s (a ∷ b ∷ c ∷ d ∷ e ∷ f ∷ []) rest h = absurd (let z = h.0 in omega arith)
row_back s (a ∷ b ∷ c ∷ d ∷ e ∷ f ∷ g ∷ []) rest h = absurd (let z = h.0 in omega arith)
row_back s (a ∷ b ∷ c ∷ d ∷ e ∷ f ∷ g ∷ i ∷ []) rest h =
    let fits = h.1 in
    ap₂ (λ x y. x ∷ y) (four_back a fits.0) (ap₂ (λ x y. x ∷ y) (four_back b fits.1.0) (ap₂ (λ x y. x ∷ y) (four_back c fits.1.1.0) (ap₂ (λ x y. x ∷ y) (four_back d fits.1.1.1.0)
    (ap₂ (λ x y. x ∷ y) (four_back e fits.1.1.1.1.0) (ap₂ (λ x y. x ∷ y) (four_back f fits.1.1.1.1.1.0) (ap₂ (λ x y. x ∷ y) (four_back g fits.1.1.1.1.1.1.0) (ap₂ (λ x y. x ∷ y) (four_back i fits.1.1.1.1.1.1.1.0) refl)))))))
row_back s (a ∷ b ∷ c ∷ d ∷ e ∷ f ∷ g ∷ i ∷ j ∷ r) rest h = absurd (let z = h.0 in omega arith)

pub same_line : (a b : StockLine) → a.shelf ≡ b.shelf → a.row ≡ b.row → a.count ≡ b.count → a ≡ b
same_line a b e f g =
    ap {B = StockLine} (λ s. record { shelf = s; row = a.row; count = a.count }) e
    ∙ ap {B = StockLine} (λ r. record { shelf = b.shelf; row = r; count = a.count }) f
    ∙ ap {B = StockLine} (λ n. record { shelf = b.shelf; row = b.row; count = n }) g

count_back : (s n : ℕ) (r : Row) (rest : List ℕ) → length r ≡ 8 → n ≤ 65535 → two_at (s ∷ (flat_map in_four r ++ (in_two n ++ rest))) 33 ≡ n
count_back s n r rest h k =
    let c = flat_map in_four r in
    let d : drop 32 (c ++ (in_two n ++ rest)) ≡ in_two n ++ rest = drop_at c (in_two n ++ rest) 32 (length_columns r ∙ ap (λ m. 4 * m) h) in
    two_shift (c ++ (in_two n ++ rest)) 32 0 ∙ ap (λ b. two_at b 0) d ∙ two_back n k

pub line_back : (b : List ℕ) (i : ℕ) (l : StockLine) (rest : List ℕ) → LawfulLine l → drop (35 * i) b ≡ line_bytes l ++ rest → line_at b i ≡ l
unfolding line_at line_bytes
line_back b i l rest h e =
    let p = 35 * i in
    let s = l.shelf in
    let c = flat_map in_four l.row in
    let t = in_two l.count in
    let f : drop p b ≡ s ∷ (c ++ (t ++ rest)) = e ∙ ap (λ x. s ∷ x) (append_assoc c t rest) in
    let shelf : get_or b p 0 ≡ s = ap (λ k. get_or b k 0) (let z : p ≡ p + 0 = omega arith in z) ∙ sym (get_or-drop p b 0 0) ∙ ap (λ x. get_or x 0 0) f in
    let row : row_at b (p + 1) ≡ l.row = row_shift b p 1 ∙ ap (λ x. row_at x 1) f ∙ row_back s l.row (t ++ rest) h.row in
    let count : two_at b (p + 33) ≡ l.count = two_shift b p 33 ∙ ap (λ x. two_at x 33) f ∙ count_back s l.count l.row rest h.row.0 h.most in
    same_line (line_at b i) l shelf row count

pub at_line : (ls : Stored) (z : List ℕ) (i : ℕ) → AllByRecursion LawfulLine ls → i < length ls → drop (35 * i) (layout ls ++ z) ≡ line_bytes (line_of ls i) ++ (layout (drop (suc i) ls) ++ z)
unfolding layout
at_line [] z i a h = absurd (omega arith)
at_line (l ∷ ls) z zero a h = append_assoc (line_bytes l) (layout ls) z
at_line (l ∷ ls) z (suc i) a h =
    let k : 35 * suc i ≡ 35 + 35 * i = omega arith in
    ap (λ n. drop n ((line_bytes l ++ layout ls) ++ z)) k
    ∙ sym (drop-drop (35 * i) 35 ((line_bytes l ++ layout ls) ++ z))
    ∙ ap (drop (35 * i)) (ap (drop 35) (append_assoc (line_bytes l) (layout ls) z) ∙ drop_at (line_bytes l) (layout ls ++ z) 35 (length_line l a.0.row.0))
    ∙ at_line ls z i a.1 (omega arith)

pub stored_back : (ls : Stored) (z : List ℕ) → AllByRecursion LawfulLine ls → stored_in (length ls) (layout ls ++ z) ≡ ls
stored_back ls z a =
    let b = layout ls ++ z in
    let n = length-map-range_with_len (line_at b) 0 (length ls) in
    ext_get_or blank_stock_line (stored_in (length ls) b) ls n (λ i h.
    let k : i < length ls = omega arith in
    get_or-map-range_with_len (line_at b) 0 (length ls) i i blank_stock_line k (omega arith)
    ∙ line_back b i (line_of ls i) (layout (drop (suc i) ls) ++ z) (All-get_or LawfulLine ls i blank_stock_line k a) (at_line ls z i a k))
