use Rattle.tree_load.proofs.Reaching.{whole}
use Rattle.tree_load.proofs.laws.asks_reach_all_nodes_below.Goals as goal

pub returns : goal.returns
returns c = whole
