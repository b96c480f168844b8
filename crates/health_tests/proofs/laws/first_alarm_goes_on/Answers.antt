use Rattle.health_tests.proofs.Longer.{first_stays, first_later}
use Rattle.health_tests.proofs.laws.first_alarm_goes_on.Goals as goal

pub returns : goal.returns
returns c = record { stays = first_stays; later = first_later }
