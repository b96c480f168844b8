use Rattle.std.proofs.Common.{◌≤◌, ◌<◌, ℕ, List, length, sym, subst, ◌∙◌, arith}
use Rattle.std.specs.List.{flat_map, range_with_len}
use Rattle.std.specs.Io.KnownBytes.{Appends}
use Rattle.std.proofs.lemmas.List.{take_all}
use Rattle.std.proofs.lemmas.List.FromFn.{length-range_with_len}
use Rattle.rbg_bytes.specs.Streams.{AppendsFront}
use Rattle.rbg_bytes.proofs.Fronts.{appends_line, fails_within}
use Rattle.rbgtree.specs.Counts.{node_counts_at}
use Rattle.rbgtree.proofs.Counting.{node_line}
use Rattle.rbgtree.proofs.counts.print_nodes.Goals as goal

pub returns-in-Err-clause-bytes : goal.returns-in-Err-clause-bytes
returns-in-Err-clause-bytes g c s stand =
    let tree = c.args.tree.now in
    let all = range_with_len 0 (length tree.plan.nodes) in
    let less : c.loop-node.node < length tree.plan.nodes = omega (arith, c.loop-node-test.true, c.loop-node.invariant.end) in
    let within : c.loop-node.node < length all = omega (arith, less, length-range_with_len 0 (length tree.plan.nodes)) in
    let line = node_line g.S.Samples.told g.S.Samples.faults tree.plan s tree.nodes tree.sources stand c.loop-node.node c.node_counts.result less c.node_counts.ensures in
    let failed = subst (λ (bytes : List ℕ). AppendsFront (g.O.ByteSink.out c.loop-node.output) (g.O.ByteSink.out c.print_node.new.output) bytes) (sym line) c.in-Err.ensures.bytes in
    fails_within (node_counts_at s) all c.loop-node.node 0 _ (g.O.ByteSink.out c.loop-node.output) _ within (c.loop-node.invariant.printed s stand) failed

pub loop-node-preserved : goal.loop-node-preserved
loop-node-preserved g c = record {
  printed = λ s stand.
      let tree = c.args.tree.now in
      let all = range_with_len 0 (length tree.plan.nodes) in
      let less : c.loop-node.node < length tree.plan.nodes = omega (arith, c.loop-node-test.true, c.loop-node.invariant.end) in
      let within : c.loop-node.node < length all = omega (arith, less, length-range_with_len 0 (length tree.plan.nodes)) in
      let line = node_line g.S.Samples.told g.S.Samples.faults tree.plan s tree.nodes tree.sources stand c.loop-node.node c.node_counts.result less c.node_counts.ensures in
      let done = subst (λ (bytes : List ℕ). Appends (g.O.ByteSink.out c.loop-node.output) (g.O.ByteSink.out c.print_node.new.output) bytes) (sym line) c.in-Ok.ensures.bytes in
      appends_line (node_counts_at s) all c.loop-node.node 0 _ (g.O.ByteSink.out c.loop-node.output) _ within (c.loop-node.invariant.printed s stand) done;
  faults = c.in-Ok.ensures.cause.kept ∙ c.loop-node.invariant.faults;
  end = c.loop-node.invariant.end;
  within = omega (arith, c.loop-node-test.true);
}

pub returns-clause-bytes : goal.returns-clause-bytes
returns-clause-bytes g c s stand =
    let tree = c.args.tree.now in
    let all = range_with_len 0 (length tree.plan.nodes) in
    let long : length all ≤ c.loop-node.node = omega (arith, c.loop-node-test.false, c.loop-node.invariant.end, length-range_with_len 0 (length tree.plan.nodes)) in
    subst (λ (ns : List ℕ). Appends (g.O.ByteSink.out c.args.output.now) (g.O.ByteSink.out c.loop-node.output) (flat_map (node_counts_at s) ns)) (take_all c.loop-node.node all long)
    (c.loop-node.invariant.printed s stand)
