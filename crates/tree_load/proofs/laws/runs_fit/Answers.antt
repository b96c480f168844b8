use Rattle.tree_load.proofs.Fitting.{nodes_fit, sources_fit}
use Rattle.tree_load.proofs.laws.runs_fit.Goals as goal

pub returns-clause-nodes : goal.returns-clause-nodes
returns-clause-nodes c = nodes_fit

pub returns-clause-sources : goal.returns-clause-sources
returns-clause-sources c = sources_fit
