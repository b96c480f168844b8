use Rattle.tree_load.proofs.Loading.{load_nodes, load_sources}
use Rattle.tree_load.proofs.laws.loads_decide_counts.Goals as goal

pub returns-clause-nodes : goal.returns-clause-nodes
returns-clause-nodes g c = load_nodes g.S.Samples.told g.S.Samples.faults g.S.Samples.reads

pub returns-clause-sources : goal.returns-clause-sources
returns-clause-sources g c = load_sources g.S.Samples.told g.S.Samples.faults g.S.Samples.reads
