-- Single fields, there and back.
use Rattle.std.proofs.Common.{◌≡◌, ℕ, ◌+◌, ◌*◌, ◌/◌, ◌%◌, ◌^◌, ◌<◌, ◌≤◌, Bool, true, false, cond, ◌&&◌, eqb, ltb, leb, List, [], ◌∷◌, ◌++◌, length, take, ℤ, Ok, Result, sym, refl, ap, ◌∙◌, subst, mod-eq_of_lt, arith, w32, SFits, to_z, of_z}
use Rattle.std.specs.List.{flat_map}
use Rattle.std.proofs.lemmas.Int.{to_z-of_z, of_z-to_z, ints}
use Rattle.std.proofs.lemmas.Nat.{shr-shr, shr_split, shr_below}
use Rattle.std.proofs.lemmas.Bool.{and_parts, and_from, eqb-true}
use Rattle.bag.specs.declared.condition.Operand.{Operand}
use Rattle.bag.specs.declared.condition.Operand.TheVariants.{Constant, Column}
use Rattle.bag.specs.declared.condition.Relation.{Relation}
use Rattle.bag.specs.declared.condition.Relation.TheVariants.{Less, LessOrEqual, Equal, NotEqual, GreaterOrEqual, Greater}
use Rattle.plan.specs.declared.node.ColumnPair.{ColumnPair}
use Rattle.plan.specs.Lawful.{columns_fit, pair_fits, pair_blank, pairs_fit, operand_fits, operand_in_range}
use Rattle.plan.specs.Fields.{then, when, octet, lower, column, within, relation, word, operand, columns, column_pair, no_pair, pairs, outside, not_lower, past_width}
use Rattle.bag.specs.Bytes.{in_four, Bytes}
use Rattle.plan.specs.Encode.{relation_number, operand_bytes, pair_bytes}
use Rattle.plan.proofs.Items.{then_ok, when_ok, ok_same, listed_was, listed_read}

pub octet_was : (bytes : List ℕ) (p : ℕ × List ℕ) → octet bytes ≡ Ok p → bytes ≡ p.0 ∷ p.1
octet_was [] p e = cc
octet_was (b ∷ bytes) p e = ap (λ (q : ℕ × List ℕ). q.0 ∷ q.1) (ok_same (b, bytes) p e)

-- a byte under a test
tested_was : (test : ℕ → Bool) (cause : ℕ) (bytes : List ℕ) (p : ℕ × List ℕ) → then (octet bytes) (λ (q : ℕ × List ℕ). when (test q.0) cause q) ≡ Ok p → (bytes ≡ p.0 ∷ p.1) × (test p.0 ≡ true)
tested_was test cause bytes p e =
    let a = then_ok (octet bytes) (λ (q : ℕ × List ℕ). when (test q.0) cause q) p e in
    let b = when_ok (test a.0.0) cause a.0 p a.2 in
    (octet_was bytes p (a.1 ∙ ap Ok b.1), subst (λ (q : ℕ × List ℕ). test q.0 ≡ true) b.1 b.0)

pub lower_was : (ws bytes : List ℕ) (p : ℕ × List ℕ) → lower ws bytes ≡ Ok p → (bytes ≡ p.0 ∷ p.1) × (ltb p.0 (length ws) ≡ true)
lower_was ws bytes p e = tested_was (λ c. ltb c (length ws)) not_lower bytes p e

pub column_was : (w : ℕ) (bytes : List ℕ) (p : ℕ × List ℕ) → column w bytes ≡ Ok p → (bytes ≡ p.0 ∷ p.1) × (ltb p.0 w ≡ true)
column_was w bytes p e = tested_was (λ c. ltb c w) past_width bytes p e

pub within_was : (a b : ℕ) (bytes : List ℕ) (p : ℕ × List ℕ) → within a b bytes ≡ Ok p → (bytes ≡ p.0 ∷ p.1) × ((leb a p.0 && leb p.0 b) ≡ true)
within_was a b bytes p e = tested_was (λ n. leb a n && leb n b) outside bytes p e

-- cases of a byte that names one of a list
pub by_number : {X : Type 0} (b n : ℕ) (x y : Result X ℕ) (z : X) (P : Type 0) → cond (eqb b n) x y ≡ Ok z → (b ≡ n → x ≡ Ok z → P) → (y ≡ Ok z → P) → P
by_number b n x y z P e here other = on (eqb b n) refl e
  where
    on : (t : Bool) → eqb b n ≡ t → cond t x y ≡ Ok z → P
    on true f e = here (eqb-true b n f) e
    on false f e = other e

pub relation_was : (b : ℕ) (r : Relation) → relation b ≡ Ok r → b ≡ relation_number r
relation_was b r e =
    let P : Type 0 = b ≡ relation_number r in
    let is : (n : ℕ) (s : Relation) → relation_number s ≡ n → b ≡ n → ◌≡◌ {A = Result Relation ℕ} (Ok s) (Ok r) → b ≡ relation_number r = λ n s f g h. g ∙ (sym f ∙ ap relation_number (ok_same s r h)) in
    by_number b 0 _ _ r P e (is 0 Less refl)
    (λ e1. by_number b 1 _ _ r P e1 (is 1 LessOrEqual refl)
    (λ e2. by_number b 2 _ _ r P e2 (is 2 Equal refl)
    (λ e3. by_number b 3 _ _ r P e3 (is 3 NotEqual refl)
    (λ e4. by_number b 4 _ _ r P e4 (is 4 GreaterOrEqual refl)
    (λ e5. by_number b 5 _ _ r P e5 (is 5 Greater refl)
    (λ e6. cc))))))

pub relation_read : (r : Relation) → relation (relation_number r) ≡ Ok r
relation_read Less = refl
relation_read LessOrEqual = refl
relation_read Equal = refl
relation_read NotEqual = refl
relation_read GreaterOrEqual = refl
relation_read Greater = refl

-- a number of four bytes is the sum of its bytes
digits : (n : ℕ) → n < 2 ^ 32 → n / 16777216 % 256 * 16777216 + n / 65536 % 256 * 65536 + n / 256 % 256 * 256 + n % 256 ≡ n
digits n h =
    let q : n / 256 / 256 ≡ n / 65536 = shr-shr n 8 8 in
    let r : n / 65536 / 256 ≡ n / 16777216 = shr-shr n 16 8 in
    let a : n / 256 * 256 + n % 256 ≡ n = shr_split n 8 in
    let b : n / 65536 * 256 + n / 256 % 256 ≡ n / 256 = subst (λ m. m * 256 + n / 256 % 256 ≡ n / 256) q (shr_split (n / 256) 8) in
    let d : n / 16777216 * 256 + n / 65536 % 256 ≡ n / 65536 = subst (λ m. m * 256 + n / 65536 % 256 ≡ n / 65536) r (shr_split (n / 65536) 8) in
    let t : n / 16777216 < 256 = shr_below n 8 24 h in
    let u : n / 16777216 % 256 ≡ n / 16777216 = mod-eq_of_lt t in
    omega arith

ofZ_below : (v : ℤ) → SFits w32 v → of_z w32 v < 2 ^ 32
ofZ_below v f = omega (arith, ints)

word_read : (v : ℤ) (rest : List ℕ) → SFits w32 v → word (in_four v ++ rest) ≡ Ok (Constant v, rest)
word_read v rest f = rw (digits (of_z w32 v) (ofZ_below v f), to_z-of_z w32 v f) refl

four_written : (a b c d : ℕ) → a < 256 → b < 256 → c < 256 → d < 256 → in_four (to_z w32 (a * 16777216 + b * 65536 + c * 256 + d)) ≡ a ∷ b ∷ c ∷ d ∷ []
four_written a b c d ha hb hc hd =
    let n = a * 16777216 + b * 65536 + c * 256 + d in
    let e : of_z w32 (to_z w32 n) ≡ n = of_z-to_z w32 n (omega arith) in
    let x : n / 16777216 % 256 ≡ a = omega arith in
    let y : n / 65536 % 256 ≡ b = omega arith in
    let z : n / 256 % 256 ≡ c = omega arith in
    let w : n % 256 ≡ d = omega arith in
    rw (e, x, y, z, w) refl

four_fits : (a b c d : ℕ) → a < 256 → b < 256 → c < 256 → d < 256 → SFits w32 (to_z w32 (a * 16777216 + b * 65536 + c * 256 + d))
four_fits a b c d ha hb hc hd = let n : a * 16777216 + b * 65536 + c * 256 + d < 2 ^ 32 = omega arith in omega (arith, ints)

-- what an operand that was read says of the bytes
pub record OperandWas (w : ℕ) (bytes : List ℕ) (o : Operand) (rest : List ℕ) : Type 0 where
  pub fit : operand_fits w o ≡ true
  pub split : Bytes bytes → bytes ≡ operand_bytes o ++ rest
  pub range : Bytes bytes → operand_in_range o

word_was : (w : ℕ) (bytes : List ℕ) (p : Operand × List ℕ) → word bytes ≡ Ok p → OperandWas w (0 ∷ bytes) p.0 p.1
word_was w [] p e = cc
word_was w (a ∷ []) p e = cc
word_was w (a ∷ b ∷ []) p e = cc
word_was w (a ∷ b ∷ c ∷ []) p e = cc
word_was w (a ∷ b ∷ c ∷ d ∷ rest) p e =
    subst (λ (q : Operand × List ℕ). OperandWas w (0 ∷ a ∷ b ∷ c ∷ d ∷ rest) q.0 q.1) (ok_same (Constant (to_z w32 (a * 16777216 + b * 65536 + c * 256 + d)), rest) p e)
    (record { fit = refl; split = λ h. ap (λ ys. 0 ∷ (ys ++ rest)) (sym (four_written a b c d h.1.0 h.1.1.0 h.1.1.1.0 h.1.1.1.1.0)); range = λ h. four_fits a b c d h.1.0 h.1.1.0 h.1.1.1.0 h.1.1.1.1.0 })

pub operand_was : (w : ℕ) (bytes : List ℕ) (p : Operand × List ℕ) → operand w bytes ≡ Ok p → OperandWas w bytes p.0 p.1
operand_was w bytes p e =
    let a = then_ok (octet bytes) _ p e in
    let s = octet_was bytes a.0 a.1 in
    let P : Type 0 = OperandWas w bytes p.0 p.1 in
    by_number a.0.0 0 _ _ p P a.2
    (λ z f. subst (λ bs. OperandWas w bs p.0 p.1) (sym (s ∙ ap (λ n. n ∷ a.0.1) z)) (word_was w a.0.1 p f))
    (λ e1. by_number a.0.0 1 _ _ p P e1
    (λ z f. let b = then_ok (column w a.0.1) _ p f in
    let g = column_was w a.0.1 b.0 b.1 in
    let q = ok_same (Column b.0.0, b.0.1) p b.2 in
    subst (λ (r : Operand × List ℕ). OperandWas w bytes r.0 r.1) q
    (record { fit = g.1; split = λ _. s ∙ (ap (λ n. n ∷ a.0.1) z ∙ ap (λ ys. 1 ∷ ys) g.0); range = λ _. tt }))
    (λ e2. cc))

pub operand_read : (w : ℕ) (o : Operand) (rest : List ℕ) → operand_fits w o ≡ true → operand_in_range o → operand w (operand_bytes o ++ rest) ≡ Ok (o, rest)
operand_read w (Constant v) rest e f = word_read v rest f
operand_read w (Column b) rest e f = rw e refl

-- lists of columns and of pairs
abbrev single : ℕ → List ℕ
single c = c ∷ []

singles : (xs : List ℕ) → flat_map single xs ≡ xs
singles [] = refl
singles (x ∷ xs) = ap (λ ys. x ∷ ys) (singles xs)

pub columns_was : (n w : ℕ) (bytes : List ℕ) (l : List ℕ × List ℕ) → n ≤ 8 → columns n w bytes ≡ Ok l → (bytes ≡ take n l.0 ++ l.1) × (columns_fit n w l.0 ≡ true)
columns_was n w bytes l h e =
    let r = listed_was (column w) single (λ c. ltb c w) 8 (λ c. eqb c 0) 0 (λ bs p f. column_was w bs p f) refl n bytes l h e in
    (r.0 ∙ ap (λ ys. ys ++ l.1) (singles (take n l.0)), r.1)

pub columns_read : (n w : ℕ) (cs rest : List ℕ) → n ≤ 8 → columns_fit n w cs ≡ true → columns n w (take n cs ++ rest) ≡ Ok (cs, rest)
columns_read n w cs rest h e =
    ap (λ ys. columns n w (ys ++ rest)) (sym (singles (take n cs))) ∙
    listed_read (column w) single (λ c. ltb c w) 8 (λ c. eqb c 0) 0 (λ c more f. rw f refl) (λ c f. eqb-true c 0 f) n cs rest h e

pair_was : (wl wr : ℕ) (bytes : List ℕ) (p : ColumnPair × List ℕ) → column_pair wl wr bytes ≡ Ok p → (bytes ≡ pair_bytes p.0 ++ p.1) × (pair_fits wl wr p.0 ≡ true)
pair_was wl wr bytes p e =
    let a = then_ok (column wl bytes) _ p e in
    let b = then_ok (column wr a.0.1) _ p a.2 in
    let f = column_was wl bytes a.0 a.1 in
    let g = column_was wr a.0.1 b.0 b.1 in
    let s = ok_same (record { left = a.0.0; right = b.0.0 }, b.0.1) p b.2 in
    subst (λ (q : ColumnPair × List ℕ). (bytes ≡ pair_bytes q.0 ++ q.1) × (pair_fits wl wr q.0 ≡ true)) s
    (f.0 ∙ ap (λ ys. a.0.0 ∷ ys) g.0, and_from (ltb a.0.0 wl) (ltb b.0.0 wr) f.1 g.1)

pair_read : (wl wr : ℕ) (p : ColumnPair) (rest : List ℕ) → pair_fits wl wr p ≡ true → column_pair wl wr (pair_bytes p ++ rest) ≡ Ok (p, rest)
pair_read wl wr p rest e =
    let q = and_parts (ltb p.left wl) (ltb p.right wr) e in
    rw (q.0, q.1) refl

pair_same : (p : ColumnPair) → pair_blank p ≡ true → p ≡ no_pair
pair_same p e =
    let q = and_parts (eqb p.left 0) (eqb p.right 0) e in
    let l : p.left ≡ 0 = eqb-true p.left 0 q.0 in
    let r : p.right ≡ 0 = eqb-true p.right 0 q.1 in
    let make : ℕ → ℕ → ColumnPair = λ a b. record { left = a; right = b } in
    ap (λ a. make a p.right) l ∙ ap (make 0) r

pub pairs_was : (n wl wr : ℕ) (bytes : List ℕ) (l : List ColumnPair × List ℕ) → n ≤ 4 → pairs n wl wr bytes ≡ Ok l → (bytes ≡ flat_map pair_bytes (take n l.0) ++ l.1) × (pairs_fit n wl wr l.0 ≡ true)
pairs_was n wl wr bytes l h e = listed_was (column_pair wl wr) pair_bytes (pair_fits wl wr) 4 pair_blank no_pair (λ bs p f. pair_was wl wr bs p f) refl n bytes l h e

pub pairs_read : (n wl wr : ℕ) (ps : List ColumnPair) (rest : List ℕ) → n ≤ 4 → pairs_fit n wl wr ps ≡ true → pairs n wl wr (flat_map pair_bytes (take n ps) ++ rest) ≡ Ok (ps, rest)
pairs_read n wl wr ps rest h e = listed_read (column_pair wl wr) pair_bytes (pair_fits wl wr) 4 pair_blank no_pair (λ p more f. pair_read wl wr p more f) pair_same n ps rest h e
