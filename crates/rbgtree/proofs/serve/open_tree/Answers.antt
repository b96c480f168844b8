use Rattle.std.proofs.Common.{map}
use Rattle.rbgtree.proofs.Served.{opens_tree}
use Rattle.rbgtree.proofs.serve.open_tree.Goals as goal

pub returns-in-Ok-open-clause-tree : goal.returns-in-Ok-open-clause-tree
returns-in-Ok-open-clause-tree g c =
    opens_tree g.W.Samples.Samples.told g.W.Samples.Samples.faults g.W.Samples.Samples.reads c.args.plan (map (λ s. s.items) c.args.seeds.items) (g.W.World.recordings c.args.world.now) (g.W.World.recordings c.open_all.new.world)
    c.in-Ok.samples.items c.in-Ok-open.tree c.in-Ok.ensures.count c.in-Ok.ensures.opened c.in-Ok-open.ensures.made
