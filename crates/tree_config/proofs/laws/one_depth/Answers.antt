use Rattle.tree_config.proofs.Once.{depth_once}
use Rattle.tree_config.proofs.laws.one_depth.Goals as goal

pub returns : goal.returns
returns c = depth_once
