use Rattle.std.proofs.Common.{◌≡◌, ◌+◌, ◌<◌, length, take, Some, None, refl, sym, ap, ◌∙◌, arith, length-set, w32, SFits, rules}
use Rattle.std.specs.Option.{option_map}
use Rattle.std.proofs.lemmas.List.{take_more_set}
use Rattle.std.proofs.lemmas.Int.{to_z-of_z}
use Rattle.message.specs.Decode.{column_field, bit}
use Rattle.message.proofs.Cuts.{four_of, column_by_bytes}
use Rattle.message.proofs.Rows.{columns_none, columns_more, columns_stop, columns_torn}
use Rattle.message.proofs.field.columns_of.Goals as goal

pub returns-in_err-bytes : goal.returns-in_err-bytes
returns-in_err-bytes c =
    let m = c.args.map.bits in
    let b = c.args.bytes.now in
    let k = c.loop-k.k in
    let f : column_field (bit m k) c.loop-k.rest.now ≡ None = column_by_bytes (bit m k) c.loop-k.rest.now ∙ ap (option_map (λ q. (four_of q.0, q.1))) (rw (c.stands.ensures, c.to_be_bytes.ensures) at c.in_err-bytes.ensures) in
    let s = columns_stop m b k (take k c.loop-k.column-items) c.loop-k.rest.now c.loop-k.invariant.1 f in
    rw c.from_residual.ensures (columns_torn m b 8 (k + 1) (omega arith) s)

pub loop-k-init : goal.loop-k-init
loop-k-init c = (refl, columns_none c.args.map.bits c.args.bytes.now)

pub loop-k-preserved : goal.loop-k-preserved
loop-k-preserved c =
    let m = c.args.map.bits in
    let b = c.args.bytes.now in
    let k = c.loop-k.k in
    let v = c.from_be_bytes.result in
    let row = c.loop-k.column-items in
    let fits : SFits w32 v = search rules in
    let lt : k < length row = omega arith in
    let f : column_field (bit m k) c.loop-k.rest.now ≡ Some (v, c.in_ok-bytes.behind.now) =
    column_by_bytes (bit m k) c.loop-k.rest.now ∙ (ap (option_map (λ q. (four_of q.0, q.1))) (rw (c.stands.ensures, c.to_be_bytes.ensures) at c.in_ok-bytes.ensures) ∙ ap (λ x. Some (x, c.in_ok-bytes.behind.now)) (sym c.from_be_bytes.ensures)) in
    let s = columns_more m b k (take k row) c.loop-k.rest.now v c.in_ok-bytes.behind.now c.loop-k.invariant.1 f in
    rw (to_z-of_z w32 v fits) (length-set row k v ∙ c.loop-k.invariant.0, rw (take_more_set row k v lt) s)
