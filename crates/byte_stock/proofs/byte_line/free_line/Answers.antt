use Rattle.std.proofs.Common.{◌≡◌, ◌-◌, ◌/◌, length, get_or, [], ap, ◌∙◌, arith}
use Rattle.byte_stock.specs.ByteLines.{line_in, line_at, freed_bytes}
use Rattle.byte_stock.proofs.ByteChunks.{line_in_chunk}
use Rattle.byte_stock.proofs.byte_line.free_line.Goals as goal

pub returns : goal.returns
unfolding freed_bytes
returns c =
    let b = c.args.bytes.now in
    let last : c.read_line-last.result ≡ line_at b (c.args.used - 1) = c.read_line-last.ensures ∙ ap (λ x. line_in (get_or x (c.args.used - 1) [])) c.as_chunks.ensures.front ∙ line_in_chunk b (length b / 35) (c.args.used - 1) (omega arith) in
    cc
