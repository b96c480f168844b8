use Rattle.tree_load.proofs.Tallying.{nodes_decided, sources_decided}
use Rattle.tree_load.proofs.laws.calls_decide_counts.Goals as goal

pub returns-clause-nodes : goal.returns-clause-nodes
returns-clause-nodes c = nodes_decided

pub returns-clause-sources : goal.returns-clause-sources
returns-clause-sources c = sources_decided
