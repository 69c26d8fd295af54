-- What writing one line leaves of the lines' bytes. Assumes nothing.
--     set_laid       a line written over another one
--     append_laid    a line written behind the last
--     shrink_laid    the last line blanked
use Rattle.std.proofs.Common.{◌≡◌, ℕ, suc, ◌+◌, ◌-◌, ◌*◌, ◌<◌, ◌≤◌, List, [], ◌∷◌, ◌++◌, length, take, drop, set, replicate, sym, refl, ap, ◌∙◌, ap₂, append_assoc, arith}
use Rattle.std.specs.List.{AllByRecursion}
use Rattle.std.proofs.lemmas.List.{append-nil, drop_at, drop-drop, take_at, set_split, set-get_or, length-take-le, length-replicate, replicate-append-replicate, drop_all}
use Rattle.std.proofs.ByRecursion.{All-take, All-get_or}
use Rattle.bag.specs.Lines.{blank_stock_line}
use Rattle.bag.specs.declared.lines.StockLine.{StockLine}
use Rattle.byte_stock.specs.ByteLines.{line_bytes, layout, laid}
use Rattle.stock.specs.Holding.{LawfulLine}
use Rattle.byte_stock.specs.ByteStored.{Stored, line_of}
use Rattle.byte_stock.proofs.ByteCodec.{length_line, length_layout}

laid_mid : (a m z n : List ℕ) (at : ℕ) → length a ≡ at → length m ≡ length n → laid (a ++ (m ++ z)) at n ≡ a ++ (n ++ z)
unfolding laid
laid_mid a m z n at h k =
    ap₂ (λ x y. x ++ (n ++ y)) (take_at a (m ++ z) at h)
    (sym (drop-drop (length n) at (a ++ (m ++ z))) ∙ ap (drop (length n)) (drop_at a (m ++ z) at h) ∙ drop_at m z (length n) k)

pub layout-++ : (xs ys : Stored) → layout (xs ++ ys) ≡ layout xs ++ layout ys
unfolding layout
layout-++ [] ys = refl
layout-++ (l ∷ xs) ys = ap (λ x. line_bytes l ++ x) (layout-++ xs ys) ∙ sym (append_assoc (line_bytes l) (layout xs) (layout ys))

-- the bytes before, of and behind one line
split_at : (ls : Stored) (i : ℕ) (l : StockLine) (z : List ℕ) → i < length ls → layout (set ls i l) ++ z ≡ layout (take i ls) ++ (line_bytes l ++ (layout (drop (suc i) ls) ++ z))
unfolding layout
split_at ls i l z h =
    ap (λ x. layout x ++ z) (set_split ls i l h)
    ∙ ap (λ x. x ++ z) (layout-++ (take i ls) (l ∷ drop (suc i) ls))
    ∙ append_assoc (layout (take i ls)) (line_bytes l ++ layout (drop (suc i) ls)) z
    ∙ ap (λ x. layout (take i ls) ++ x) (append_assoc (line_bytes l) (layout (drop (suc i) ls)) z)

own_split : (ls : Stored) (i : ℕ) (z : List ℕ) → i < length ls → layout ls ++ z ≡ layout (take i ls) ++ (line_bytes (line_of ls i) ++ (layout (drop (suc i) ls) ++ z))
own_split ls i z h = ap (λ x. layout x ++ z) (sym (set-get_or ls i blank_stock_line)) ∙ split_at ls i (line_of ls i) z h

front_long : (ls : Stored) (i : ℕ) → AllByRecursion LawfulLine ls → i < length ls → length (layout (take i ls)) ≡ 35 * i
front_long ls i a h = length_layout (take i ls) (All-take LawfulLine i ls a) ∙ ap (λ n. 35 * n) (length-take-le i ls (omega arith))

old_long : (ls : Stored) (i : ℕ) → AllByRecursion LawfulLine ls → i < length ls → length (line_bytes (line_of ls i)) ≡ 35
old_long ls i a h = length_line (line_of ls i) (All-get_or LawfulLine ls i blank_stock_line h a).row.0

pub set_laid : (ls : Stored) (i : ℕ) (l : StockLine) (z : List ℕ) → AllByRecursion LawfulLine ls → LawfulLine l → i < length ls → laid (layout ls ++ z) (35 * i) (line_bytes l) ≡ layout (set ls i l) ++ z
set_laid ls i l z a k h =
    ap (λ b. laid b (35 * i) (line_bytes l)) (own_split ls i z h)
    ∙ laid_mid (layout (take i ls)) (line_bytes (line_of ls i)) (layout (drop (suc i) ls) ++ z) (line_bytes l) (35 * i) (front_long ls i a h) (old_long ls i a h ∙ sym (length_line l k.row.0))
    ∙ sym (split_at ls i l z h)

pub append_laid : (ls : Stored) (l : StockLine) (m : ℕ) → AllByRecursion LawfulLine ls → LawfulLine l → 35 ≤ m → laid (layout ls ++ replicate m 0) (35 * length ls) (line_bytes l) ≡ layout (ls ++ l ∷ []) ++ replicate (m - 35) 0
unfolding layout
append_laid ls l m a k h =
    let z : List ℕ = replicate (m - 35) 0 in
    let s : replicate m 0 ≡ replicate 35 0 ++ z = ap (λ n. replicate n 0) (let e : m ≡ 35 + (m - 35) = omega arith in e) ∙ sym (replicate-append-replicate 35 (m - 35) 0) in
    ap (λ b. laid (layout ls ++ b) (35 * length ls) (line_bytes l)) s
    ∙ laid_mid (layout ls) (replicate 35 0) z (line_bytes l) (35 * length ls) (length_layout ls a) (length-replicate {A = ℕ} 35 0 ∙ sym (length_line l k.row.0))
    ∙ sym (ap (λ x. x ++ z) (layout-++ ls (l ∷ [])) ∙ append_assoc (layout ls) (line_bytes l ++ []) z ∙ ap (λ x. layout ls ++ (x ++ z)) (append-nil (line_bytes l)))

pub shrink_laid : (ls : Stored) (m : ℕ) → AllByRecursion LawfulLine ls → 0 < length ls → laid (layout ls ++ replicate m 0) (35 * (length ls - 1)) (replicate 35 0) ≡ layout (take (length ls - 1) ls) ++ replicate (35 + m) 0
unfolding layout
shrink_laid ls m a h =
    let i = length ls - 1 in
    let z : List ℕ = replicate m 0 in
    let k : i < length ls = omega arith in
    let e : layout (drop (suc i) ls) ++ z ≡ z = ap (λ x. layout x ++ z) (drop_all (suc i) ls (omega arith)) in
    ap (λ b. laid b (35 * i) (replicate 35 0)) (own_split ls i z k ∙ ap (λ x. layout (take i ls) ++ (line_bytes (line_of ls i) ++ x)) e)
    ∙ laid_mid (layout (take i ls)) (line_bytes (line_of ls i)) z (replicate 35 0) (35 * i) (front_long ls i a k) (old_long ls i a k ∙ sym (length-replicate {A = ℕ} 35 0))
    ∙ ap (λ x. layout (take i ls) ++ x) (replicate-append-replicate 35 m 0)
