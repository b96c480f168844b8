use Rattle.health_tests.proofs.Alarms.{alarm_tells}
use Rattle.health_tests.proofs.laws.numbers_tell.Goals as goal

pub returns : goal.returns
returns c = alarm_tells
