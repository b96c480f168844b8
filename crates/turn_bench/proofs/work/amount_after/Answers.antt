use Rattle.turn_bench.proofs.Rounds.{state_start, state_more}
use Rattle.turn_bench.proofs.work.amount_after.Goals as goal

pub loop-done-init : goal.loop-done-init
loop-done-init c = state_start c.args.state

pub loop-done-preserved : goal.loop-done-preserved
loop-done-preserved c = state_more c.loop-done.done c.args.state c.loop-done.now c.loop-done.invariant
