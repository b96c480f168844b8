use Rattle.std.proofs.Common.{◌≡◌, ◌<◌, ℕ}
use Rattle.std.specs.Prelude.{None}
use Rattle.health_tests.specs.Windows.{alarm_at}
use Rattle.health_tests.proofs.windows.first_alarm.Given as goal

abbrev pub invariant-loop-at : goal.invariant-loop-at
invariant-loop-at l = (k : ℕ) → k < l.at → alarm_at l.cutoffs l.samples k ≡ None
