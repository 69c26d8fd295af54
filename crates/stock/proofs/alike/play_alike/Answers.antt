use Rattle.std.proofs.Common.{◌≡◌, ◌+◌, get_or, drop, sym, ap, ◌∙◌, subst}
use Rattle.std.proofs.lemmas.List.{drop_all}
use Rattle.stock.specs.declared.call.StockCall.TheVariants as calls
use Rattle.stock.specs.Calls.{answers, after_calls}
use Rattle.stock.proofs.Plays.{stocks_alike, Compared, compared_more, compared_all, after_more, after_all, next_call}
use Rattle.stock.proofs.alike.play_alike.Goals as goal

pub loop-call-preserved : goal.loop-call-preserved
loop-call-preserved g c =
    let cs = c.args.calls.now in
    let i = c.loop-call.call-index in
    let call = get_or cs i calls.Capacity in
    let left = drop (i + 1) cs in
    let split = next_call cs i c.loop-call-test.true in
    let h₀ = g.S.Stock.meaning c.args.a.now in
    let k₀ = g.T.Stock.meaning c.args.b.now in
    let h = g.S.Stock.meaning c.loop-call.a in
    let k = g.T.Stock.meaning c.loop-call.b in
    let h' = g.S.Stock.meaning c.call_both-same.new.a in
    let k' = g.T.Stock.meaning c.call_both-same.new.b in
    let made = c.call_both-same.ensures in (
      after_more h h' call left made.one ∙ ap (after_calls h) (sym split) ∙ c.loop-call.invariant.0,
      after_more k k' call left made.other ∙ ap (after_calls k) (sym split) ∙ c.loop-call.invariant.1,
      compared_more h₀ k₀ cs h k h' k' call left c.loop-call.alike c.call_both-same.result made.one made.other made.answer
          (subst (λ l. Compared h₀ k₀ cs h k l c.loop-call.alike) split c.loop-call.invariant.2),
    )

pub returns : goal.returns
returns g c =
    let cs = c.args.calls.now in
    let done = drop_all c.loop-call.call-index cs c.loop-call-test.false in
    let h₀ = g.S.Stock.meaning c.args.a.now in
    let k₀ = g.T.Stock.meaning c.args.b.now in
    let h = g.S.Stock.meaning c.loop-call.a in
    let k = g.T.Stock.meaning c.loop-call.b in
    let Same = h₀ ≡ k₀ in
    let one = after_all h (after_calls h₀ cs) (ap (after_calls h) (sym done) ∙ c.loop-call.invariant.0) in
    let other = after_all k (after_calls k₀ cs) (ap (after_calls k) (sym done) ∙ c.loop-call.invariant.1) in
    let answer = compared_all h₀ k₀ cs h k c.loop-call.alike (subst (λ l. Compared h₀ k₀ cs h k l c.loop-call.alike) done c.loop-call.invariant.2) in
    record {
      law = stocks_alike;
      one = one;
      other = other;
      answer = answer;
      alike = λ (e : Same). (answer.1 (ap (λ m. answers m cs) e), one ∙ ap (λ m. after_calls m cs) e ∙ sym other);
    }
