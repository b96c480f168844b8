use Rattle.rbg_nodes.specs.Node.{Cleared}
use Rattle.tree_acts.proofs.Doing.{did_node}
use Rattle.tree_acts.proofs.acts.clear_at.Goals as goal

pub returns : goal.returns
returns g c =
    let h = g.H.Holdings.what c.args.hold.now in
    let t = g.H.Holdings.what (g.H.Holdings.with_node c.args.hold.now c.args.n c.clear.new.self) in
    did_node g.S.Samples.told g.S.Samples.faults c.args.plan.now g.S.Samples.reads h t c.args.n c.node_mut.result.now c.clear.new.self Cleared
    c.requires.plan c.node_mut.ensures.value (g.met.H.Holdings.puts_node c.args.hold.now c.args.n c.clear.new.self c.requires.there) c.clear.ensures.state
