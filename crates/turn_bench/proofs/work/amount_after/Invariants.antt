use Rattle.std.proofs.Common.{◌≡◌}
use Rattle.turn_bench.specs.Work.{state_after}
use Rattle.turn_bench.proofs.work.amount_after.Given as goal

abbrev pub invariant-loop-done : goal.invariant-loop-done
invariant-loop-done l = l.now ≡ state_after l.done l.state
