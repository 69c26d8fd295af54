use Rattle.std.proofs.Common.{◌≤◌, length, rules}
use Rattle.boards.proofs.Framed.{framed_whole, framed_torn, in_either}
use Rattle.boards.proofs.frame.first_frame.Goals as goal

pub returns : goal.returns
returns c =
    let b = c.args.input.now in
    let n = c.from_be_bytes-length.result in
    let two : 2 ≤ length b = search rules in
    let is = c.from_be_bytes-length.ensures in
    in_either c.split_at_checked.result (λ l. framed_torn b n two is (search rules)) (λ p s. framed_whole b n two is p.0.now p.1.now s.0 s.1 s.2 (search rules)) c.split_at_checked.ensures.cases
