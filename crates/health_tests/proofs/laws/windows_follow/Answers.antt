use Rattle.health_tests.proofs.Meanings.{start_of_window}
use Rattle.health_tests.proofs.laws.windows_follow.Goals as goal

pub returns : goal.returns
returns c = start_of_window
