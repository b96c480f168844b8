use Rattle.entropy_source.proofs.Portions.{wants_refused}
use Rattle.entropy_source.proofs.laws.refused_draws_stay_refused.Goals as goal

pub returns : goal.returns
returns c = wants_refused
