use Rattle.std.proofs.Common.{◌≡◌, ◌≤◌, length, take}
use Rattle.std.specs.List.{flat_map, range_with_len}
use Rattle.std.specs.Io.KnownBytes.{Appends}
use Rattle.tree_rules.specs.History.{States}
use Rattle.tree_rules.specs.Stands.{StandIn}
use Rattle.rbgtree.specs.Counts.{source_counts_at}
use Rattle.rbgtree.proofs.counts.print_sources.Given as goal

abbrev pub invariant-loop-source : goal.invariant-loop-source
invariant-loop-source g l = record {
  printed : (s : States) → StandIn g.S.Samples.told g.S.Samples.faults l.tree.plan s l.tree.nodes l.tree.sources
      → Appends (g.O.ByteSink.out l.fn.output) (g.O.ByteSink.out l.output) (flat_map (source_counts_at l.tree.plan s) (take l.source (range_with_len 0 (length l.tree.plan.sources))));
  faults : g.O.ByteSink.faults l.output ≡ g.O.ByteSink.faults l.fn.output;
  end : l.source-end ≡ length l.tree.plan.sources;
  within : l.source ≤ l.source-end;
}
