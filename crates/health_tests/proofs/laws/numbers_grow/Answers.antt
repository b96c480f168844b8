use Rattle.health_tests.proofs.Counting.{tail_grows}
use Rattle.health_tests.proofs.laws.numbers_grow.Goals as goal

pub returns : goal.returns
returns c = tail_grows
