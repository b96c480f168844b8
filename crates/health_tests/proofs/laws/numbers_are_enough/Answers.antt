use Rattle.std.proofs.Common.{length, sym, ap, ◌∙◌}
use Rattle.health_tests.specs.Windows.{further}
use Rattle.health_tests.proofs.Alarms.{alarm_tells}
use Rattle.health_tests.proofs.Longer.{first_later}
use Rattle.health_tests.proofs.laws.numbers_are_enough.Goals as goal

pub returns : goal.returns
returns c l x y h = first_later l x y h ∙ ap (further (length x)) (sym (alarm_tells l x y))
