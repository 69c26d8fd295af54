-- What is read of a record lies in front of what is left.
use Rattle.std.proofs.Common.{◌≡◌, ℕ, zero, suc, ◌+◌, ◌-◌, ◌*◌, ◌≤◌, Bool, true, false, cond, List, [], ◌∷◌, ◌++◌, length, drop, Some, None, Ok, Err, Option, Result, sym, refl, ap, ◌∙◌, subst, append_assoc, arith, length-append}
use Rattle.std.proofs.lemmas.List.{drop_at}
use Rattle.message.specs.declared.record.Record.{Record}
use Rattle.bag.specs.Refusal.{Refusal, refusal}
use Rattle.message.specs.Decode.{then, bit, column_field, count_field, node_field, columns, fields, allowed, judged, decode}

-- some bytes stand before `rest`, at least n of them
abbrev pub Before : ℕ → List ℕ → List ℕ → Type 0
Before n xs rest = (front : List ℕ) × (xs ≡ front ++ rest) × (n ≤ length front)

-- what is left of xs, if anything was read
abbrev pub Left : {X : Type 0} → ℕ → List ℕ → Option (X × List ℕ) → Type 0
Left n xs None = Unit {0}
Left n xs (Some p) = Before n xs p.1

further : (n m : ℕ) (xs ys zs : List ℕ) → Before n xs ys → Before m ys zs → Before (n + m) xs zs
further n m xs ys zs a b =
    (a.0 ++ b.0, a.1 ∙ (ap (λ l. a.0 ++ l) b.1 ∙ sym (append_assoc a.0 b.0 zs)), omega (arith, length-append a.0 b.0, a.2, b.2))

then_left : {X Y : Type 0} (n m : ℕ) (xs : List ℕ) (o : Option (X × List ℕ)) (f : X × List ℕ → Option (Y × List ℕ)) → Left n xs o → ((p : X × List ℕ) → Left m p.1 (f p)) → Left (n + m) xs (then o f)
then_left n m xs None f h k = tt
then_left {Y = Y} n m xs (Some p) f h k = on (f p) (k p)
  where
    on : (o : Option (Y × List ℕ)) → Left m p.1 o → Left (n + m) xs o
    on None g = tt
    on (Some q) g = further n m xs p.1 q.1 h g

column_left : (b : Bool) (xs : List ℕ) → Left 0 xs (column_field b xs)
column_left false xs = ([], refl, omega arith)
column_left true [] = tt
column_left true (a ∷ []) = tt
column_left true (a ∷ b ∷ []) = tt
column_left true (a ∷ b ∷ c ∷ []) = tt
column_left true (a ∷ b ∷ c ∷ d ∷ rest) = (a ∷ b ∷ c ∷ d ∷ [], refl, omega arith)

count_left : (b : Bool) (xs : List ℕ) → Left 0 xs (count_field b xs)
count_left false xs = ([], refl, omega arith)
count_left true [] = tt
count_left true (a ∷ []) = tt
count_left true (a ∷ b ∷ rest) = (a ∷ b ∷ [], refl, omega arith)

node_left : (b : Bool) (xs : List ℕ) → Left 0 xs (node_field b xs)
node_left false xs = ([], refl, omega arith)
node_left true [] = tt
node_left true (a ∷ rest) = (a ∷ [], refl, omega arith)

same_left : {X Y : Type 0} (p : X × List ℕ) (y : Y) → Left 0 p.1 (Some (y, p.1))
same_left p y = ([], refl, omega arith)

columns_left : (k map : ℕ) (xs : List ℕ) → Left 0 xs (columns k map xs)
unfolding columns
columns_left zero map xs = ([], refl, omega arith)
columns_left (suc k) map xs =
    then_left 0 0 xs (columns k map xs) _ (columns_left k map xs)
    (λ row. then_left 0 0 row.1 (column_field (bit map k) row.1) _ (column_left (bit map k) row.1) (λ v. same_left v (row.0 ++ v.0 ∷ [])))

pub fields_left : (map : ℕ) (xs : List ℕ) → Left 0 xs (fields map xs)
fields_left map xs =
    then_left 0 0 xs (columns 8 map xs) _ (columns_left 8 map xs)
    (λ row. then_left 0 0 row.1 (count_field (bit map 8) row.1) _ (count_left (bit map 8) row.1)
    (λ n. then_left 0 0 n.1 (node_field (bit map 9) n.1) _ (node_left (bit map 9) n.1)
    (λ s. same_left {Y = Record} s (record { row = row.0; count = n.0; node = s.0; take = bit map 10 }))))

pub fields_shorter : (map : ℕ) (xs : List ℕ) (r : Record) (rest : List ℕ) → fields map xs ≡ Some (r, rest) → length rest ≤ length xs
fields_shorter map xs r rest e =
    let b : Before 0 xs rest = subst (Left 0 xs) e (fields_left map xs) in
    omega (arith, ap length b.1, length-append b.0 rest)

abbrev rest_of : Result (Record × List ℕ) Refusal → List ℕ
rest_of (Ok got) = got.1
rest_of (Err e) = []

-- a record has at least the two bytes of its map
pub decode_left : (at : ℕ) (xs : List ℕ) (r : Record) (rest : List ℕ) → decode at xs ≡ Ok (r, rest) → Before 2 xs rest
decode_left at [] r rest e = absurd (never e)
  where
    never : ◌≡◌ {A = Result (Record × List ℕ) Refusal} (Err (refusal 1 at)) (Ok (r, rest)) → ⊥
    never e = let z : ◌≡◌ {A = ℕ} 0 1 = cc in omega arith
decode_left at (a ∷ []) r rest e = absurd (never e)
  where
    never : ◌≡◌ {A = Result (Record × List ℕ) Refusal} (Err (refusal 1 at)) (Ok (r, rest)) → ⊥
    never e = let z : ◌≡◌ {A = ℕ} 0 1 = cc in omega arith
decode_left at (a ∷ b ∷ xs) r rest e = on (fields m xs) (fields_left m xs) e
  where
    m : ℕ
    m = a * 256 + b

    on : (o : Option (Record × List ℕ)) → Left 0 xs o → judged at m o ≡ Ok (r, rest) → Before 2 (a ∷ b ∷ xs) rest
    on None h e = let z : ◌≡◌ {A = ℕ} 0 1 = cc in absurd (omega arith)
    on (Some got) h e = by (allowed m got.0) e
      where
        by : (t : Bool) → cond t (Ok got) (Err (refusal 2 at)) ≡ Ok (r, rest) → Before 2 (a ∷ b ∷ xs) rest
        by true e =
            let g : got.1 ≡ rest = ap rest_of e in
            (a ∷ b ∷ h.0, ap (λ l. a ∷ b ∷ l) (h.1 ∙ ap (λ l. h.0 ++ l) g), omega arith)
        by false e = let z : ◌≡◌ {A = ℕ} 0 1 = cc in absurd (omega arith)

-- a record is refused at its own first byte
pub decode_place : (at : ℕ) (xs : List ℕ) (e : Refusal) → decode at xs ≡ Err e → e.place ≡ at
decode_place at [] e f = let g : e ≡ refusal 1 at = cc in ap (λ (r : Refusal). r.place) g
decode_place at (a ∷ []) e f = let g : e ≡ refusal 1 at = cc in ap (λ (r : Refusal). r.place) g
decode_place at (a ∷ b ∷ xs) e f = on (fields (a * 256 + b) xs) f
  where
    on : (o : Option (Record × List ℕ)) → judged at (a * 256 + b) o ≡ Err e → e.place ≡ at
    on None f = let g : e ≡ refusal 1 at = cc in ap (λ (r : Refusal). r.place) g
    on (Some got) f = by (allowed (a * 256 + b) got.0) f
      where
        by : (t : Bool) → cond t (Ok got) (Err (refusal 2 at)) ≡ Err e → e.place ≡ at
        by true f = let z : ◌≡◌ {A = ℕ} 0 1 = cc in absurd (omega arith)
        by false f = let g : e ≡ refusal 2 at = cc in ap (λ (r : Refusal). r.place) g

-- the bytes that are left are those from some byte on
pub dropped : (n : ℕ) (xs rest : List ℕ) → Before n xs rest → drop (length xs - length rest) xs ≡ rest
dropped n xs rest b =
    let k : length xs - length rest ≡ length b.0 = omega (arith, ap length b.1, length-append b.0 rest) in
    ap (λ i. drop i xs) k ∙ (ap (drop (length b.0)) b.1 ∙ drop_at b.0 rest (length b.0) refl)
