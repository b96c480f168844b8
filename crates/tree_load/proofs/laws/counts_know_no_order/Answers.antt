use Rattle.std.proofs.Common.{ap}
use Rattle.rbg_nodes.specs.declared.node.NodeCounts.{NodeCounts}
use Rattle.tree_load.proofs.Ordering.{node_same, run_sources_same, runs_same, source_same}
use Rattle.tree_load.proofs.laws.counts_know_no_order.Goals as goal

pub returns-clause-nodes : goal.returns-clause-nodes
returns-clause-nodes c p before from own others counts same n low =
    node_same p (λ m. (before m).counter) (λ m. (from m).counter) (λ m l. ap (λ (x : NodeCounts). x.counter) (counts m l)) own others same n low (before n) (from n) (counts n low)

pub returns-clause-sources : goal.returns-clause-sources
returns-clause-sources c p before from own others counts same j source =
    source_same p (λ m. (before m).counter) (λ m. (from m).counter) (λ m l. ap (λ (x : NodeCounts). x.counter) (counts m l)) own others same j source

pub returns-clause-runs : goal.returns-clause-runs
returns-clause-runs c = runs_same

pub returns-clause-run_sources : goal.returns-clause-run_sources
returns-clause-run_sources c = run_sources_same
