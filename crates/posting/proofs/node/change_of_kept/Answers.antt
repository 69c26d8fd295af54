use Rattle.posting.proofs.NodeSetting.{lines_of}
use Rattle.posting.proofs.node.change_of_kept.Goals as goal

pub returns-clause-changed : goal.returns-clause-changed
returns-clause-changed g c = λ ws ds news lower setting empty are short.
    let lines = lines_of c.args.child ds c.args.done.now c.lines_of_node.result.now are short (c.lines_of_node.ensures ds are) in
    c.change_of_keep.ensures.changed ws c.args.child ds news lower setting empty lines
