use Rattle.tree_config.proofs.Once.{plan_in_range}
use Rattle.tree_config.proofs.laws.plans_are_in_range.Goals as goal

pub returns : goal.returns
returns c = plan_in_range
