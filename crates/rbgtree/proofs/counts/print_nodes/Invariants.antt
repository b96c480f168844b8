use Rattle.std.proofs.Common.{◌≡◌, ◌≤◌, length, take}
use Rattle.std.specs.List.{flat_map, range_with_len}
use Rattle.std.specs.Io.KnownBytes.{Appends}
use Rattle.tree_rules.specs.History.{States}
use Rattle.tree_rules.specs.Stands.{StandIn}
use Rattle.rbgtree.specs.Counts.{node_counts_at}
use Rattle.rbgtree.proofs.counts.print_nodes.Given as goal

abbrev pub invariant-loop-node : goal.invariant-loop-node
invariant-loop-node g l = record {
  printed : (s : States) → StandIn g.S.Samples.told g.S.Samples.faults l.tree.plan s l.tree.nodes l.tree.sources
      → Appends (g.O.ByteSink.out l.fn.output) (g.O.ByteSink.out l.output) (flat_map (node_counts_at s) (take l.node (range_with_len 0 (length l.tree.plan.nodes))));
  faults : g.O.ByteSink.faults l.output ≡ g.O.ByteSink.faults l.fn.output;
  end : l.node-end ≡ length l.tree.plan.nodes;
  within : l.node ≤ l.node-end;
}
