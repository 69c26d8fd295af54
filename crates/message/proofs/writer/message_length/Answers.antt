use Rattle.std.proofs.Common.{length, sym, ◌∙◌, rules}
use Rattle.std.proofs.lemmas.Iterator.{YieldsList-from_slice, YieldsList-from_map}
use Rattle.std.proofs.lemmas.Iterator.Consumers.{YieldsList-at, sum_by_from_yields_List}
use Rattle.std.proofs.lemmas.List.Concat.{length-flat_map}
use Rattle.message.specs.Encode.{encode}
use Rattle.message.proofs.writer.message_length.Goals as goal

pub returns : goal.returns
returns c =
    let rs = c.args.records.now in
    sum_by_from_yields_List (λ r. length (encode r)) rs c.map.result c.sum.result c.sum.ensures.ran (YieldsList-from_map _ (λ r. length (encode r)) (YieldsList-at c.map.ensures.source (YieldsList-from_slice rs cc)) c.map.ensures.closure (λ x r q k. search rules))
    ∙ sym (length-flat_map encode rs)
