use Rattle.health_tests.proofs.Counting.{tail_begins}
use Rattle.health_tests.proofs.laws.numbers_begin.Goals as goal

pub returns : goal.returns
returns c = tail_begins
