-- Rows that are made of parts of other rows. Assumes nothing.
--     first_then_next        the first columns of one row, then another row as far as there is room
--     rest_then_zeros        the columns from a place on, and 0 behind them
use Rattle.std.proofs.Common.{◌≡◌, ℕ, ◌+◌, ◌-◌, ◌≤◌, min, List, ◌++◌, length, take, drop, replicate, ℤ, pos, sym, ap, ◌∙◌, ap₂, arith}
use Rattle.std.proofs.lemmas.List.{take-append-le, take_min, drop_min, take-replicate, length-append, length-take, length-drop}
use Rattle.std.proofs.Math.Seq.{take-append-add}
use Rattle.bag.specs.Columns.{padded, followed}

-- as many elements as the first list leaves room for
take_room : (n : ℕ) (xs ys : List ℤ) → length xs ≤ n → take n (xs ++ ys) ≡ xs ++ take (n - length xs) ys
take_room n xs ys h = let e : n ≡ length xs + (n - length xs) = omega arith in ap (λ k. take k (xs ++ ys)) e ∙ take-append-add xs ys (n - length xs)

pub first_then_next : (w k : ℕ) (front behind : List ℤ) → length front ≡ 8 → length behind ≡ 8 → k ≡ min w 8 → take k front ++ take (8 - k) behind ≡ followed w front behind
first_then_next w k front behind e f h =
    let kept : take k front ≡ take w front = ap (λ n. take n front) (h ∙ ap (min w) (sym e)) ∙ take_min w front in
    let long : length (take w front) ≡ k = length-take w front ∙ ap (min w) e ∙ sym h in
    ap₂ (λ xs n. xs ++ take (8 - n) behind) kept (sym long)
    ∙ sym (take-append-le 8 (take w front ++ behind) (replicate 8 (pos 0)) (omega (arith, length-append (take w front) behind)) ∙ take_room 8 (take w front) behind (omega arith))

pub rest_then_zeros : (start first : ℕ) (row : List ℤ) → length row ≡ 8 → first ≡ min start 8 → drop first row ++ replicate first (pos 0) ≡ padded (drop start row)
rest_then_zeros start first row e h =
    let rest : drop first row ≡ drop start row = ap (λ n. drop n row) (h ∙ ap (min start) (sym e)) ∙ drop_min start row in
    let long : length (drop start row) ≡ 8 - first = ap length (sym rest) ∙ length-drop first row ∙ ap (λ n. n - first) e in
    let zeros : take (8 - length (drop start row)) (replicate 8 (pos 0)) ≡ replicate (8 - length (drop start row)) (pos 0) = take-replicate (8 - length (drop start row)) 8 (pos 0) (omega arith) in
    let room : first ≡ 8 - length (drop start row) = omega arith in
    ap₂ (λ xs n. xs ++ replicate n (pos 0)) rest room ∙ ap (λ xs. drop start row ++ xs) (sym zeros) ∙ sym (take_room 8 (drop start row) (replicate 8 (pos 0)) (omega arith))
