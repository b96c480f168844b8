use Rattle.tree_rules.proofs.Depths.{depth_is}
use Rattle.tree_rules.proofs.laws.depths_count_paths.Goals as goal

pub returns : goal.returns
returns c = depth_is
