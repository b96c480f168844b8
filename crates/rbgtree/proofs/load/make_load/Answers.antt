use Rattle.rbgtree.proofs.Loading.{prints_load}
use Rattle.rbgtree.proofs.load.make_load.Goals as goal

pub returns-clause-printed : goal.returns-clause-printed
returns-clause-printed g c f o is plan stand =
    prints_load g.S.Samples.told g.S.Samples.faults g.S.Samples.reads f o c.args.load c.args.tree.now c.make_stated_calls-made.new.tree c.make_stated_calls-made.result.done c.make_stated_calls-made.result.refused
    (g.O.ByteSink.out c.args.output.now) (g.O.ByteSink.out c.print_load.new.output) c.print_load.result plan c.make_stated_calls-made.ensures.plan stand
    (c.make_stated_calls-made.ensures.made f o _ is plan stand) c.print_load.ensures.bytes
