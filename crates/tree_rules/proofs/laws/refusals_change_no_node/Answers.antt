use Rattle.tree_rules.proofs.Refusals.{refused_by, coded_refusal, nodes_stay}
use Rattle.tree_rules.proofs.laws.refusals_change_no_node.Goals as goal

pub returns-clause-nothing : goal.returns-clause-nothing
returns-clause-nothing c = refused_by

pub returns-clause-code : goal.returns-clause-code
returns-clause-code c = coded_refusal

pub returns-clause-nodes : goal.returns-clause-nodes
returns-clause-nodes c = nodes_stay
