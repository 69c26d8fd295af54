use Rattle.std.proofs.Common.{◌≡◌, ◌+◌, ◌*◌, ◌<◌, ◌∷◌, ◌++◌, length, get_or, take, drop, replicate, pos, sym, ap, ap₂, refl, ◌∙◌, arith, length-append, w32, SFits, rules}
use Rattle.std.specs.List.{flat_map}
use Rattle.std.proofs.lemmas.List.{take_all, append-nil}
use Rattle.std.proofs.lemmas.Int.{to_z-of_z}
use Rattle.bag.specs.Bytes.{in_four, in_two}
use Rattle.byte_stock.specs.ByteLines.{laid, line_bytes}
use Rattle.byte_stock.proofs.ByteLaid.{laid_more, laid_by_copy}
use Rattle.byte_stock.proofs.ByteJoins.{columns_step, length_first_columns, length_columns}
use Rattle.byte_stock.proofs.byte_line.line_bytes.Goals as goal

pub loop-k-init : goal.loop-k-init
unfolding laid
loop-k-init c = refl

pub loop-k-preserved : goal.loop-k-preserved
loop-k-preserved c =
    let row = c.args.line.now.row in
    let start = c.args.line.now.shelf ∷ replicate 34 0 in
    let k = c.loop-k.k in
    let at = 1 + 4 * k in
    let v = get_or row k (pos 0) in
    let xs = flat_map in_four (take k row) in
    let fits : SFits w32 v = search rules in
    let column : c.to_be_bytes.result ≡ in_four v = rw (to_z-of_z w32 v fits) at c.to_be_bytes.ensures in
    let inside : k < length row = omega arith in
    let n : length xs ≡ 4 * k = length_first_columns row k (omega arith) in
    laid_by_copy c.loop-k.bytes (in_four v) c.copy_from_slice.new.self at (c.copy_from_slice.ensures.after ∙ column)
    ∙ ap₂ (λ b m. laid b m (in_four v)) c.loop-k.invariant (let z : at ≡ 1 + length xs = omega arith in z)
    ∙ laid_more start 1 xs (omega arith) (in_four v)
    ∙ ap (laid start 1) (sym (columns_step row k (pos 0) inside))

pub returns : goal.returns
unfolding laid line_bytes
returns c =
    let l = c.args.line.now in
    let start = l.shelf ∷ replicate 34 0 in
    let xs = flat_map in_four l.row in
    let ys = in_two l.count in
    let k : c.loop-k.k ≡ 8 = omega arith in
    let all : take c.loop-k.k l.row ≡ l.row = take_all _ _ (omega arith) in
    let n : length xs ≡ 32 = length_columns l.row ∙ omega arith in
    let m : length (xs ++ ys) ≡ 34 = length-append xs ys ∙ omega arith in
    laid_by_copy c.loop-k.bytes ys c.copy_from_slice-2.new.self 33 (c.copy_from_slice-2.ensures.after ∙ c.to_be_bytes-2.ensures)
    ∙ ap₂ (λ b p. laid b p ys) (c.loop-k.invariant ∙ ap (λ r. laid start 1 (flat_map in_four r)) all) (let z : 33 ≡ 1 + length xs = omega arith in z)
    ∙ laid_more start 1 xs (omega arith) ys
    ∙ ap (λ p. l.shelf ∷ ((xs ++ ys) ++ drop (1 + p) start)) m
    ∙ ap (λ z. l.shelf ∷ z) (append-nil (xs ++ ys))
