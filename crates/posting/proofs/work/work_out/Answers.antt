use Rattle.std.proofs.Common.{◌≡◌, [], ◌++◌, length, take, drop, sym, ap, ◌∙◌, subst, arith}
use Rattle.std.proofs.lemmas.List.{length-take-le}
use Rattle.plan.specs.Afresh.{afresh}
use Rattle.plan.specs.Plans.{nodes_of}
use Rattle.sheet.specs.Sheets.{flattened, OnSheet}
use Rattle.settling.specs.Boards.{differences}
use Rattle.posting.specs.Working.{judged}
use Rattle.posting.proofs.Pages.{cut_blank, uncut}
use Rattle.posting.proofs.work.work_out.Goals as goal

pub returns-clause-worked : goal.returns-clause-worked
returns-clause-worked g c = λ ms net net' k ready many nets on.
    let M = g.M.Measure.model in
    let h = g.S.Stock.meaning c.args.stock.now in
    let news = afresh M (nodes_of c.args.plan.now) net' in
    let sheet = c.args.sheet.now in
    let w = on.within in
    let room : c.min-room.result ≡ c.args.room = omega (arith, c.min-room.ensures, w) in
    let long : length (take c.min-room.result sheet) ≡ c.args.room = ap (λ n. length (take n sheet)) room ∙ length-take-le c.args.room sheet w in
    let blank = subst (λ n. OnSheet (length (take n sheet)) (take n sheet) 0 []) (sym room) (cut_blank c.args.room sheet on) in
    let made = c.fill.ensures.worked ms net net' k ready nets blank in
    record {
      answer = made.answer ∙ ap (λ n. judged M h.shelves news n (nodes_of c.args.plan.now)) long;
      on_sheet = λ n e. subst (λ m. OnSheet c.args.room (c.fill.new.sheet ++ drop m sheet) n (flattened 0 (differences h.shelves news))) (sym room)
          (uncut c.args.room sheet c.fill.new.sheet n (flattened 0 (differences h.shelves news)) on (c.fill.ensures.long ∙ long)
          (subst (λ m. OnSheet m c.fill.new.sheet n (flattened 0 (differences h.shelves news))) (sym c.fill.ensures.long) (made.on_sheet n e)));
    }
