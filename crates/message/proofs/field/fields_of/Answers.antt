use Rattle.std.proofs.Common.{◌≡◌, Some, get_or, refl, sym, ap, ◌∙◌}
use Rattle.std.specs.Option.{option_map}
use Rattle.message.specs.Decode.{count_field, node_field, bit}
use Rattle.message.proofs.Cuts.{two_of, count_by_bytes, node_by_bytes}
use Rattle.message.proofs.field.fields_of.Goals as goal

pub returns : goal.returns
returns c =
    let m = c.args.map.bits in
    let behind_row = c.in_ok-row.rest.now in
    let behind_count = c.in_ok-count.rest.now in
    let n : count_field (bit m 8) behind_row ≡ Some (c.from_be_bytes-count.result, behind_count) =
    count_by_bytes (bit m 8) behind_row ∙ (ap (option_map (λ q. (two_of q.0, q.1))) (rw (c.stands.ensures, c.to_be_bytes.ensures) at c.in_ok-count.ensures) ∙ ap (λ x. Some (x, behind_count)) (sym c.from_be_bytes-count.ensures)) in
    let s : node_field (bit m 9) behind_count ≡ Some (get_or c.in_ok-node.field-0-0 0 0, c.in_ok-node.rest.now) =
    node_by_bytes (bit m 9) behind_count ∙ ap (option_map (λ q. (get_or q.0 0 0, q.1))) (rw c.stands-2.ensures at c.in_ok-node.ensures) in
    rw (c.in_ok-row.ensures, n, s, c.stands-take.ensures) refl
