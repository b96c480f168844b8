use Rattle.tree_rules.proofs.Ranges.{few_nodes, few_slots, short, sources_are_one}
use Rattle.tree_rules.proofs.openings.paths_are_short.Goals as goal

pub returns-clause-lineage : goal.returns-clause-lineage
returns-clause-lineage c limit p n tree low = short p limit n tree low

pub returns-clause-nodes : goal.returns-clause-nodes
returns-clause-nodes c = few_nodes

pub returns-clause-source : goal.returns-clause-source
returns-clause-source c = sources_are_one

pub returns-clause-slots : goal.returns-clause-slots
returns-clause-slots c = few_slots
