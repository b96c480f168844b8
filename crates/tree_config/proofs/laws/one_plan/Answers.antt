use Rattle.tree_config.proofs.Once.{plan_once}
use Rattle.tree_config.proofs.laws.one_plan.Goals as goal

pub returns : goal.returns
returns c = plan_once
