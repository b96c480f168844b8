use Rattle.std.proofs.Common.{map, subst, inr}
use Rattle.rbgtree.specs.Run.{Outside, RanOver, outside_of}
use Rattle.rbgtree.proofs.Served.{same_outside}
use Rattle.rbgtree.proofs.top.run_plan.Goals as goal

pub returns-in-Ok-clause-ran : goal.returns-in-Ok-clause-ran
returns-in-Ok-clause-ran g c =
    let at = outside_of g.W.World.files g.W.World.recordings g.W.World.faults g.I.ByteSource.left g.I.ByteSource.faults g.O.ByteSink.out g.O.ByteSink.faults in
    let seeds = map (λ s. s.items) c.in-Ok.seeds.items in
    let now = at c.serve.new.world c.serve.new.input c.serve.new.output in
    let same = same_outside _ _ _ _ (g.I.ByteSource.left c.args.input.now) (g.O.ByteSink.out c.args.output.now) _ _ (g.I.ByteSource.faults c.args.input.now) (g.O.ByteSink.faults c.args.output.now)
    c.in-Ok.ensures.files c.in-Ok.ensures.recordings c.in-Ok.ensures.cause in
    inr (
      seeds,
      c.in-Ok.ensures.seeds,
      subst (λ (o : Outside). RanOver g.W.Samples.Samples.told g.W.Samples.Samples.faults g.W.Samples.Samples.reads c.args.plan seeds o now c.serve.result) same c.serve.ensures.ran,
    )
