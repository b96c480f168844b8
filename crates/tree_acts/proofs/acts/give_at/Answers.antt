use Rattle.std.proofs.Common.{length}
use Rattle.rbg_nodes.specs.Node.{Gave}
use Rattle.tree_acts.proofs.Doing.{did_node}
use Rattle.tree_acts.proofs.acts.give_at.Goals as goal

pub returns-clause-did : goal.returns-clause-did
returns-clause-did g c =
    let h = g.H.Holdings.what c.args.hold.now in
    let t = g.H.Holdings.what (g.H.Holdings.with_node c.args.hold.now c.args.n c.give.new.self) in
    did_node g.S.Samples.told g.S.Samples.faults c.args.plan.now g.S.Samples.reads h t c.args.n c.node_mut.result.now c.give.new.self (Gave c.args.add.now (length c.args.out.now) c.give.new.out)
    c.requires.plan c.node_mut.ensures.value (g.met.H.Holdings.puts_node c.args.hold.now c.args.n c.give.new.self c.requires.there) c.give.ensures.state
