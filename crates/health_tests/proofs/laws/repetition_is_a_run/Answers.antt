use Rattle.health_tests.proofs.Meanings.{repeats_means}
use Rattle.health_tests.proofs.laws.repetition_is_a_run.Goals as goal

pub returns : goal.returns
returns c = repeats_means
