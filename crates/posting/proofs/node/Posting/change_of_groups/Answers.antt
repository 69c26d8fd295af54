use Rattle.std.proofs.Common.{◌≡◌, length, arith, rules}
use Rattle.plan.specs.Afresh.{board}
use Rattle.posting.proofs.NodeSetting.{lines_of, length_of_lines}
use Rattle.posting.proofs.node.Posting.change_of_groups.Goals as goal

pub returns-clause-changed : goal.returns-clause-changed
returns-clause-changed g c = λ ws ds news lower setting empty are short room fit.
    let below = c.lines_of_node-below.result.now in
    let lines = lines_of c.args.child ds c.args.done.now below are short (c.lines_of_node-below.ensures ds are) in
    let long = length_of_lines c.args.child (board ds c.args.child) below lines in
    let space : length c.args.space.now.lines ≡ 8192 = search rules in
    let places : length c.args.space.now.values ≡ 8192 = search rules in
    c.change_of_total.ensures.changed ws c.args.child ds news lower setting empty lines (omega (arith, long, space)) (omega (arith, long, places)) room fit
