use Rattle.std.proofs.Common.{◌≡◌, ◌+◌, [], ◌∷◌, ◌++◌, length, Ok, sym, ap, ◌∙◌, arith}
use Rattle.std.proofs.lemmas.List.{append-nil}
use Rattle.std.proofs.lemmas.Result.{err_from_is_err_and}
use Rattle.message.specs.Refusal.{read_refusal}
use Rattle.message.specs.Reading.{records_of}
use Rattle.message.proofs.Readings.{onward, read_one, read_none, read_fault, records_end, records_refused, records_item}
use Rattle.message.proofs.Listings.{prefixed, prefixed_more, one_more, put_there}
use Rattle.message.proofs.record_list.RecordList.read.Goals as goal

pub returns-in_err-record : goal.returns-in_err-record
returns-in_err-record c =
    let m = c.args.message.now in
    let s = c.loop-record.reader in
    let i = c.loop-record.invariant in
    let rs = c.loop-record.records.items in
    let fault = read_refusal c.in_err-record.field-0.0 in
    let p = err_from_is_err_and c.from_residual.result c.from_residual.ensures.1 in
    let o = read_fault m s.bytes.now i.1 s.at s.seen (length rs) i.0 c.next.new.self.at c.next.new.self.seen fault c.in_err-record.ensures.step in
    let e = ap (λ x. prefixed rs (records_of x)) o ∙ ap (prefixed rs) (records_refused fault) in
    rw (p.1, p.2) (sym e ∙ i.2)

pub loop-record-smaller : goal.loop-record-smaller
loop-record-smaller c =
    let s = c.loop-record.reader in
    let i = c.loop-record.invariant in
    let v = read_one c.args.message.now s.bytes.now i.1 s.at s.seen (length c.loop-record.records.items) i.0 c.next.new.self.at c.next.new.self.seen _ c.in-Some.record c.in-Some.is c.in_ok-record.ensures.step in
    omega (arith, v.forward, v.inside)

pub loop-record-preserved : goal.loop-record-preserved
loop-record-preserved c =
    let m = c.args.message.now in
    let s = c.loop-record.reader in
    let i = c.loop-record.invariant in
    let rs = c.loop-record.records.items in
    let r = c.in-Some.record in
    let v = read_one m s.bytes.now i.1 s.at s.seen (length rs) i.0 c.next.new.self.at c.next.new.self.seen _ r c.in-Some.is c.in_ok-record.ensures.step in
    let next = onward m c.next.new.self.at (length rs + 1) in
    let e : prefixed rs (records_of (onward m s.at (length rs))) ≡ prefixed (rs ++ r ∷ []) (records_of next) =
    ap (λ x. prefixed rs (records_of x)) v.rest ∙ (ap (prefixed rs) (records_item s.at r next) ∙ prefixed_more rs r (records_of next)) in
    one_more c.next.new.self.at rs r (search put_there) v.counted (c.next.ensures.same ∙ i.1) (sym e ∙ i.2)

pub returns : goal.returns
returns c =
    let m = c.args.message.now in
    let s = c.loop-record.reader in
    let i = c.loop-record.invariant in
    let rs = c.loop-record.records.items in
    let o = read_none m s.bytes.now i.1 s.at s.seen (length rs) i.0 c.next.new.self.at c.next.new.self.seen _ c.in_default.is c.in_ok-record.ensures.step in
    let e : prefixed rs (records_of (onward m s.at (length rs))) ≡ Ok rs =
    ap (λ x. prefixed rs (records_of x)) o ∙ (ap (prefixed rs) records_end ∙ ap Ok (append-nil rs)) in
    sym e ∙ i.2
