use Rattle.tree_acts.proofs.Ending.{did_seed_own}
use Rattle.tree_acts.proofs.acts.seed_own_at.Goals as goal

pub returns : goal.returns
returns g c =
    let h = g.H.Holdings.what c.args.hold.now in
    let w = c.seed_own.new.self in
    did_seed_own g.S.Samples.told g.S.Samples.faults c.args.plan.now g.S.Samples.reads h (g.H.Holdings.what (g.H.Holdings.with_node c.args.hold.now c.args.n w)) c.args.n c.node_mut.result.now c.node.result.now w c.args.string.now
    c.requires.plan c.node_mut.ensures.value c.node.ensures c.counts-counts.ensures.node (g.met.H.Holdings.puts_node c.args.hold.now c.args.n w c.requires.there) c.seed_own.ensures.state c.requires.kept
