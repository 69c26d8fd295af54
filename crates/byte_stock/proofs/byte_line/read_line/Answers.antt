use Rattle.std.proofs.Common.{◌≡◌, ℕ, ◌+◌, ◌*◌, ◌/◌, ◌<◌, [], length, get_or, drop, pos, sym, refl, ap, ap₂, ◌∙◌, rules, tests, arith}
use borrow.Rule.Slice.PartMut.{mid_of}
use Rattle.std.specs.Simd.{first_chunks}
use Rattle.std.proofs.lemmas.List.{drop-drop, length-drop, take_all}
use Rattle.std.proofs.lemmas.List.FromFn.{fill_by_all}
use Rattle.byte_stock.specs.ByteLines.{four_at, two_at, row_at, line_at, line_in}
use Rattle.byte_stock.proofs.ByteChunks.{made_at_place, chunk_at}
use Rattle.byte_stock.proofs.ByteCodec.{four_taken, four_shift, two_shift, same_line}
use Rattle.byte_stock.proofs.byte_line.read_line.Goals as goal

pub returns : goal.returns
unfolding row_at line_at
returns c =
    let b = c.args.bytes.now in
    let chunks = c.as_chunks.result.0.now in
    let rest = c.as_chunks.result.1.now in
    let behind : mid_of 1 34 b ≡ drop 1 b = take_all 34 (drop 1 b) (omega (arith, length-drop 1 b)) in
    let long : length (mid_of 1 34 b) ≡ 34 = ap length behind ∙ length-drop 1 b ∙ omega arith in
    let made = made_at_place (λ k. four_at (get_or chunks k []) 0) (λ k r q m. search (rules, tests)) (pos 0) c.from_fn-row.result 8 c.from_fn-row.ensures.items in
    let front : chunks ≡ first_chunks 4 8 (drop 1 b) = c.as_chunks.ensures.front ∙ ap₂ (λ n x. first_chunks 4 (n / 4) x) long behind in
    let back : rest ≡ drop 33 b = c.as_chunks.ensures.back ∙ ap₂ (λ n x. drop (n / 4 * 4) x) long behind ∙ drop-drop 32 1 b in
    let column : (k : ℕ) → k < 8 → four_at (get_or chunks k []) 0 ≡ four_at b (4 * k + 1) = λ k l.
    ap (λ x. four_at (get_or x k []) 0) front
    ∙ ap (λ x. four_at x 0) (chunk_at 4 8 (drop 1 b) k [] l)
    ∙ four_taken (drop (4 * k) (drop 1 b))
    ∙ ap (λ x. four_at x 0) (drop-drop (4 * k) 1 b)
    ∙ sym (four_shift b (1 + 4 * k) 0)
    ∙ ap (four_at b) (omega arith) in
    let row = fill_by_all (λ k. four_at b (4 * k + 1)) c.from_fn-row.result 8 (pos 0) c.from_fn-row.ensures.items.long (λ k l. made k l ∙ column k l) in
    let count : c.from_be_bytes.result ≡ two_at b 33 = c.from_be_bytes.ensures ∙ ap (λ x. two_at x 0) back ∙ sym (two_shift b 33 0) in
    same_line (record { shelf = get_or b 0 0; row = c.from_fn-row.result; count = c.from_be_bytes.result }) (line_in b) refl row count
