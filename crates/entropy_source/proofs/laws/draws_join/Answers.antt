use Rattle.entropy_source.proofs.Joins.{draws_on}
use Rattle.entropy_source.proofs.laws.draws_join.Goals as goal

pub returns : goal.returns
returns c = draws_on
