use Rattle.std.proofs.Common.{map, subst, inr}
use Rattle.std.specs.Prelude.{Some}
use Rattle.tree_config.specs.Tree.{Tree}
use Rattle.tree_config.specs.declared.plan.NodePlan.{NodePlan}
use Rattle.rbgtree.specs.Run.{Outside, RanOver, outside_of}
use Rattle.rbgtree.specs.Seeds.{AreSeeds}
use Rattle.rbgtree.proofs.Served.{same_outside}
use Rattle.rbgtree.proofs.top.run_seed.Goals as goal

pub returns-in-Ok-stock_seed-clause-ran : goal.returns-in-Ok-stock_seed-clause-ran
returns-in-Ok-stock_seed-clause-ran g c =
    let at = outside_of g.W.World.files g.W.World.recordings g.W.World.faults g.I.ByteSource.left g.I.ByteSource.faults g.O.ByteSink.out g.O.ByteSink.faults in
    let told = g.W.Samples.Samples.told in
    let faults = g.W.Samples.Samples.faults in
    let reads = g.W.Samples.Samples.reads in
    let seeds = map (λ s. s.items) c.in-Ok-stock_seed.seeds.items in
    let now = at c.serve.new.world c.serve.new.input c.serve.new.output in
    let before = at c.args.world.now c.args.input.now c.args.output.now in
    let same = same_outside _ _ _ _ (g.I.ByteSource.left c.args.input.now) (g.O.ByteSink.out c.args.output.now) _ _ (g.I.ByteSource.faults c.args.input.now) (g.O.ByteSink.faults c.args.output.now)
    c.in-Ok-stock_seed.ensures.files c.in-Ok-stock_seed.ensures.recordings c.in-Ok-stock_seed.ensures.cause in
    let ran = subst (λ (o : Outside). RanOver told faults reads c.in-Ok.plan seeds o now c.serve.result) same c.serve.ensures.ran in
    inr (
      seeds,
      subst (λ (t : Tree). AreSeeds (g.W.World.files c.args.world.now) (λ (plan : NodePlan). Some c.args.name.now) t.nodes seeds) c.in-Ok.ensures c.in-Ok-stock_seed.ensures.seeds,
      subst (λ (t : Tree). RanOver told faults reads t seeds before now c.serve.result) c.in-Ok.ensures ran,
    )
