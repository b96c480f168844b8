use Rattle.std.proofs.Common.{◌∙◌}
use Rattle.shared_tree.proofs.Staying.{stays_met, stays_seen}
use Rattle.shared_tree.proofs.waits.take_later.Goals as goal

pub loop-preserved : goal.loop-preserved
loop-preserved g c =
    let told = g.S.Samples.told in let faults = g.S.Samples.faults in (
      c.wait_for.ensures.own ∙ (c.try_take.ensures.own ∙ c.loop.invariant.0),
      stays_seen told faults c.args.slot c.args.pass.now.view c.try_take.new.pass.view c.wait_for.new.pass.view
          (stays_met told faults c.args.slot c.in-Err.field-0.target c.in-Err.field-0.holder c.args.pass.now.view c.loop.pass.view c.try_take.new.pass.view c.loop.invariant.1 c.in-Err.ensures.held.1)
          c.wait_for.ensures.looked,
    )
