use Rattle.std.proofs.Common.{◌≡◌, ℕ, ◌+◌, ◌≤◌, true, length, get_or, take, sym, ap, ◌∙◌, subst, ap₂, arith, rules}
use Rattle.std.proofs.lemmas.List.{length-take, take_all}
use Rattle.bag.specs.Bag.{Lines}
use Rattle.bag.specs.Operators.{pick, pair, monus, total, all_groups_fit}
use Rattle.stock.specs.Holding.{shelf_of}
use Rattle.plan.specs.declared.node.Node.TheVariants.{Base, Keep, Pick, Pair, Both, Less, Total}
use Rattle.plan.specs.Sound.{Handed}
use Rattle.plan.specs.Afresh.{is_base, board, pairs_of, board_of, afresh}
use Rattle.plan.specs.Plans.{nodes_of, widths_of}
use Rattle.sheet.specs.Sheets.{of_node}
use Rattle.delta.specs.NodeChange.{Setting, LinesOf}
use Rattle.delta.specs.Changed.{NodeChange}
use Rattle.delta_pairs.specs.Matched.{column_pairs}
use Rattle.posting.specs.Changes.{changes_to}
use Rattle.posting.proofs.NodeSetting.{at_planned, turned, length_of_lines}
use Rattle.posting.proofs.node.Posting.change_of_node.Goals as goal

pub returns-in-Base-clause-changed : goal.returns-in-Base-clause-changed
unfolding board_of
returns-in-Base-clause-changed g c = λ moves ms net net' d k ready nets same_moves here lower are short empty.
    let M = g.M.Measure.model in
    let h = g.S.Stock.meaning c.args.writer.now.stock.now in
    let p = c.args.self.now.plan.now in
    let n = c.args.writer.now.node in
    let xs = nodes_of p in
    let ws = widths_of p in
    let news = afresh M xs net' in
    let ds = changes_to h news n in
    let x = Base c.in-Base.width in
    let planned =
    at_planned M p h moves net net' n d c.args.done.now k (g.S.Stock.lawful c.args.writer.now.stock.now) ready here lower are short c.node-node.result c.in-Some.operator x c.node-node.ensures c.in-Base.is c.in-Some.ensures.answer c.in-Some.ensures.sound in
    let at = planned.0 in
    let base : is_base (get_or xs n d) ≡ true = ap is_base at.node_is in
    -- a slice of all nets would do as well
    let own : c.lines_of_node.result.now ≡ of_node n (moves n) = c.lines_of_node.ensures ms (search (rules, nets, take_all)) ∙ ap (λ i. of_node i (board ms i)) c.node-node.ensures ∙ ap (of_node n) same_moves in
    turned at c.args.writer.now c.change_of_base.new.writer c.change_of_base.result
    (c.change_of_base.ensures.changed ws (net n) (moves n) (net' n) ds news at.setting empty own (ready.bases n d here base).changes)

pub returns-in-Keep-clause-changed : goal.returns-in-Keep-clause-changed
unfolding board_of
returns-in-Keep-clause-changed g c = λ moves ms net net' d k ready nets same_moves here lower are short empty.
    let M = g.M.Measure.model in
    let h = g.S.Stock.meaning c.args.writer.now.stock.now in
    let p = c.args.self.now.plan.now in
    let n = c.args.writer.now.node in
    let xs = nodes_of p in
    let ws = widths_of p in
    let news = afresh M xs net' in
    let ds = changes_to h news n in
    let x = Keep c.in-Keep.child c.in-Keep.column c.in-Keep.relation c.in-Keep.operand in
    let planned =
    at_planned M p h moves net net' n d c.args.done.now k (g.S.Stock.lawful c.args.writer.now.stock.now) ready here lower are short c.node-node.result c.in-Some.operator x c.node-node.ensures c.in-Keep.is c.in-Some.ensures.answer c.in-Some.ensures.sound in
    let at = planned.0 in
    let sound = planned.1 in
    turned at c.args.writer.now c.change_of_kept.new.writer c.change_of_kept.result
    (c.change_of_kept.ensures.changed ws ds news sound.lower at.setting empty are short)

pub returns-in-Pick-clause-changed : goal.returns-in-Pick-clause-changed
unfolding board_of
returns-in-Pick-clause-changed g c = λ moves ms net net' d k ready nets same_moves here lower are short empty.
    let M = g.M.Measure.model in
    let h = g.S.Stock.meaning c.args.writer.now.stock.now in
    let p = c.args.self.now.plan.now in
    let n = c.args.writer.now.node in
    let xs = nodes_of p in
    let ws = widths_of p in
    let news = afresh M xs net' in
    let ds = changes_to h news n in
    let x = Pick c.in-Pick.child c.in-Pick.columns in
    let planned =
    at_planned M p h moves net net' n d c.args.done.now k (g.S.Stock.lawful c.args.writer.now.stock.now) ready here lower are short c.node-node.result c.in-Some.operator x c.node-node.ensures c.in-Pick.is c.in-Some.ensures.answer c.in-Some.ensures.sound in
    let at = planned.0 in
    let sound = planned.1 in
    let is = take c.in-Pick.columns.count c.in-Pick.columns.places in
    let same : c.as_slice.result.now ≡ is = c.as_slice.ensures in
    let lines = at.lines c.in-Pick.child c.lines_of_node-below.result.now (c.lines_of_node-below.ensures ds are) in
    let long = length_of_lines c.in-Pick.child (board ds c.in-Pick.child) c.lines_of_node-below.result.now lines in
    let space : length c.args.space.now.lines ≡ 8192 = search rules in
    let setting = subst (λ cs. Setting h ws n (pick cs (shelf_of h c.in-Pick.child)) ds news) (sym same) at.setting in
    let made = c.change_of_pick.ensures.changed ws c.in-Pick.child ds news sound.lower setting empty lines (omega (arith, long, space)) in
    turned at c.args.writer.now c.change_of_pick.new.writer c.change_of_pick.result
    (subst (λ cs. NodeChange g.S.Stock.meaning c.args.writer.now c.change_of_pick.new.writer (pick cs (board news c.in-Pick.child)) true c.change_of_pick.result) same made)

pub returns-in-Pair-clause-changed : goal.returns-in-Pair-clause-changed
unfolding board_of
returns-in-Pair-clause-changed g c = λ moves ms net net' d k ready nets same_moves here lower are short empty.
    let M = g.M.Measure.model in
    let h = g.S.Stock.meaning c.args.writer.now.stock.now in
    let p = c.args.self.now.plan.now in
    let n = c.args.writer.now.node in
    let xs = nodes_of p in
    let ws = widths_of p in
    let news = afresh M xs net' in
    let ds = changes_to h news n in
    let x = Pair c.in-Pair.left c.in-Pair.right c.in-Pair.pairs in
    let planned =
    at_planned M p h moves net net' n d c.args.done.now k (g.S.Stock.lawful c.args.writer.now.stock.now) ready here lower are short c.node-node.result c.in-Some.operator x c.node-node.ensures c.in-Pair.is c.in-Some.ensures.answer c.in-Some.ensures.sound in
    let at = planned.0 in
    let sound = planned.1 in
    let a = c.side_of-l.result in
    let b = c.side_of-r.result in
    let ps = pairs_of c.in-Pair.pairs.count c.in-Pair.pairs.places in
    let qs = column_pairs c.as_slice-in-Pair.result.now in
    let same : qs ≡ ps = ap column_pairs c.as_slice-in-Pair.ensures in
    let left = sound.left in
    let right = sound.right in
    let narrow = sound.narrow in
    let an = c.side_of-l.ensures.node in
    let bn = c.side_of-r.ensures.node in
    let aw : a.width ≡ get_or ws c.in-Pair.left 0 = c.side_of-l.ensures.width (omega (arith, left, here)) in
    let bw : b.width ≡ get_or ws c.in-Pair.right 0 = c.side_of-r.ensures.width (omega (arith, right, here)) in
    let whole : (f : ℕ → Lines) → pair a.width qs (f a.node) (f b.node) ≡ pair (get_or ws c.in-Pair.left 0) ps (f c.in-Pair.left) (f c.in-Pair.right) =
    λ f. ap₂ (λ v t. pair v t (f a.node) (f b.node)) aw same ∙ ap₂ (λ i j. pair (get_or ws c.in-Pair.left 0) ps (f i) (f j)) an bn in
    let l = subst (λ i. LinesOf i (board ds i) a.lines.now) (sym an) (at.lines c.in-Pair.left a.lines.now (c.side_of-l.ensures.lines ds are)) in
    let r = subst (λ i. LinesOf i (board ds i) b.lines.now) (sym bn) (at.lines c.in-Pair.right b.lines.now (c.side_of-r.ensures.lines ds are)) in
    let setting = subst (λ (t : Lines). Setting h ws n t ds news) (sym (whole (shelf_of h))) at.setting in
    let made = c.change_of_pair.ensures.changed ws ds news (omega (arith, left, an)) (omega (arith, right, bn)) (ap (λ i. get_or ws i 0) an ∙ sym aw) (ap (λ i. get_or ws i 0) bn ∙ sym bw) (omega (arith, narrow, aw, bw)) setting empty l r in
    turned at c.args.writer.now c.change_of_pair.new.writer c.change_of_pair.result
    (subst (λ (t : Lines). NodeChange g.S.Stock.meaning c.args.writer.now c.change_of_pair.new.writer t true c.change_of_pair.result) (whole (board news)) made)

pub returns-in-Both-clause-changed : goal.returns-in-Both-clause-changed
unfolding board_of
returns-in-Both-clause-changed g c = λ moves ms net net' d k ready nets same_moves here lower are short empty.
    let M = g.M.Measure.model in
    let h = g.S.Stock.meaning c.args.writer.now.stock.now in
    let p = c.args.self.now.plan.now in
    let n = c.args.writer.now.node in
    let xs = nodes_of p in
    let ws = widths_of p in
    let news = afresh M xs net' in
    let ds = changes_to h news n in
    let x = Both c.in-Both.left c.in-Both.right in
    let planned =
    at_planned M p h moves net net' n d c.args.done.now k (g.S.Stock.lawful c.args.writer.now.stock.now) ready here lower are short c.node-node.result c.in-Some.operator x c.node-node.ensures c.in-Both.is c.in-Some.ensures.answer c.in-Some.ensures.sound in
    let at = planned.0 in
    let sound = planned.1 in
    let l = at.lines c.in-Both.left c.lines_of_node-l.result.now (c.lines_of_node-l.ensures ds are) in
    let r = at.lines c.in-Both.right c.lines_of_node-r.result.now (c.lines_of_node-r.ensures ds are) in
    turned at c.args.writer.now c.change_of_both.new.writer c.change_of_both.result
    (c.change_of_both.ensures.changed ws c.in-Both.left c.in-Both.right ds news sound.left sound.right at.setting empty l r)

pub returns-in-Less-clause-changed : goal.returns-in-Less-clause-changed
unfolding board_of
returns-in-Less-clause-changed g c = λ moves ms net net' d k ready nets same_moves here lower are short empty.
    let M = g.M.Measure.model in
    let h = g.S.Stock.meaning c.args.writer.now.stock.now in
    let p = c.args.self.now.plan.now in
    let n = c.args.writer.now.node in
    let xs = nodes_of p in
    let ws = widths_of p in
    let news = afresh M xs net' in
    let ds = changes_to h news n in
    let x = Less c.in-Less.left c.in-Less.right in
    let planned =
    at_planned M p h moves net net' n d c.args.done.now k (g.S.Stock.lawful c.args.writer.now.stock.now) ready here lower are short c.node-node.result c.in-Some.operator x c.node-node.ensures c.in-Less.is c.in-Some.ensures.answer c.in-Some.ensures.sound in
    let at = planned.0 in
    let sound = planned.1 in
    let a = c.side_of_less-l.result in
    let b = c.side_of_less-r.result in
    let an = c.side_of_less-l.ensures.node in
    let bn = c.side_of_less-r.ensures.node in
    let whole : (f : ℕ → Lines) → monus (f a.node) (f b.node) ≡ monus (f c.in-Less.left) (f c.in-Less.right) = λ f. ap₂ (λ i j. monus (f i) (f j)) an bn in
    let l = subst (λ i. LinesOf i (board ds i) a.lines.now) (sym an) (at.lines c.in-Less.left a.lines.now (c.side_of_less-l.ensures.lines ds are)) in
    let r = subst (λ i. LinesOf i (board ds i) b.lines.now) (sym bn) (at.lines c.in-Less.right b.lines.now (c.side_of_less-r.ensures.lines ds are)) in
    let left = sound.left in
    let right = sound.right in
    let setting = subst (λ (t : Lines). Setting h ws n t ds news) (sym (whole (shelf_of h))) at.setting in
    let made = c.change_of_less.ensures.changed ws ds news (omega (arith, left, an)) (omega (arith, right, bn)) setting empty l r in
    turned at c.args.writer.now c.change_of_less.new.writer c.change_of_less.result
    (subst (λ (t : Lines). NodeChange g.S.Stock.meaning c.args.writer.now c.change_of_less.new.writer t true c.change_of_less.result) (whole (board news)) made)

pub returns-in-Total-clause-changed : goal.returns-in-Total-clause-changed
unfolding board_of
returns-in-Total-clause-changed g c = λ moves ms net net' d k ready nets same_moves here lower are short empty.
    let M = g.M.Measure.model in
    let h = g.S.Stock.meaning c.args.writer.now.stock.now in
    let p = c.args.self.now.plan.now in
    let n = c.args.writer.now.node in
    let xs = nodes_of p in
    let ws = widths_of p in
    let news = afresh M xs net' in
    let ds = changes_to h news n in
    let x = Total c.in-Total.child c.in-Total.measured c.in-Total.columns in
    let planned =
    at_planned M p h moves net net' n d c.args.done.now k (g.S.Stock.lawful c.args.writer.now.stock.now) ready here lower are short c.node-node.result c.in-Some.operator x c.node-node.ensures c.in-Total.is c.in-Some.ensures.answer c.in-Some.ensures.sound in
    let at = planned.0 in
    let sound = planned.1 in
    let is = take c.in-Total.columns.count c.in-Total.columns.places in
    let cs = c.as_slice-in-Total.result.now in
    let same : cs ≡ is = c.as_slice-in-Total.ensures in
    let few_columns = sound.few in
    let count : length cs ≡ c.in-Total.columns.count =
    ap length same ∙ length-take c.in-Total.columns.count c.in-Total.columns.places
    ∙ (let full = (subst (Handed p.shown ws n) c.in-Total.is (subst (λ i. Handed p.shown ws i c.in-Some.operator) c.node-node.ensures c.in-Some.ensures.handed)).places in omega (arith, full, few_columns)) in
    let narrow = sound.narrow in
    let room : length cs + 1 + M.shows ≤ 8 = omega (arith, narrow, count, k) in
    let setting = subst (λ t. Setting h ws n (total M c.in-Total.measured t (shelf_of h c.in-Total.child)) ds news) (sym same) at.setting in
    let fit = subst (λ t. all_groups_fit M c.in-Total.measured t (shelf_of h c.in-Total.child) ≡ true) (sym same) at.fit in
    let made = c.change_of_groups.ensures.changed ws ds news sound.lower setting empty are short room fit in
    turned at c.args.writer.now c.change_of_groups.new.writer c.change_of_groups.result
    (subst (λ t. NodeChange g.S.Stock.meaning c.args.writer.now c.change_of_groups.new.writer (total M c.in-Total.measured t (board news c.in-Total.child)) (all_groups_fit M c.in-Total.measured t (board news c.in-Total.child)) c.change_of_groups.result) same made)
