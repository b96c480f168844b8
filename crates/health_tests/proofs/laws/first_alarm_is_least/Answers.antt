use Rattle.std.proofs.Common.{subst}
use Rattle.health_tests.specs.Windows.{IsFirst}
use Rattle.health_tests.proofs.Longer.{first_is_least, least_is_first}
use Rattle.health_tests.proofs.laws.first_alarm_is_least.Goals as goal

pub returns : goal.returns
returns c l x o = (λ e. subst (IsFirst l x) e (first_is_least l x), least_is_first l x o)
