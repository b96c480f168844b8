use Rattle.std.proofs.Common.{◌≤◌, ◌<◌, ℕ, List, length, sym, subst, ◌∙◌, arith}
use Rattle.std.specs.List.{flat_map, range_with_len}
use Rattle.std.specs.Io.KnownBytes.{Appends}
use Rattle.std.proofs.lemmas.List.{take_all}
use Rattle.std.proofs.lemmas.List.FromFn.{length-range_with_len}
use Rattle.rbg_bytes.specs.Streams.{AppendsFront}
use Rattle.rbg_bytes.proofs.Fronts.{appends_line, fails_within}
use Rattle.rbgtree.specs.Counts.{source_counts_at}
use Rattle.rbgtree.proofs.Counting.{source_line}
use Rattle.rbgtree.proofs.counts.print_sources.Goals as goal

pub returns-in-Err-clause-bytes : goal.returns-in-Err-clause-bytes
returns-in-Err-clause-bytes g c s stand =
    let tree = c.args.tree.now in
    let all = range_with_len 0 (length tree.plan.sources) in
    let less : c.loop-source.source < length tree.plan.sources = omega (arith, c.loop-source-test.true, c.loop-source.invariant.end) in
    let within : c.loop-source.source < length all = omega (arith, less, length-range_with_len 0 (length tree.plan.sources)) in
    let line = source_line g.S.Samples.told g.S.Samples.faults tree.plan s tree.nodes tree.sources stand c.loop-source.source c.source_counts.result.taken c.source_counts.result.blocks less c.source_counts.ensures in
    let failed = subst (λ (bytes : List ℕ). AppendsFront (g.O.ByteSink.out c.loop-source.output) (g.O.ByteSink.out c.print_source.new.output) bytes) (sym line) c.in-Err.ensures.bytes in
    fails_within (source_counts_at tree.plan s) all c.loop-source.source 0 _ (g.O.ByteSink.out c.loop-source.output) _ within (c.loop-source.invariant.printed s stand) failed

pub loop-source-preserved : goal.loop-source-preserved
loop-source-preserved g c = record {
  printed = λ s stand.
      let tree = c.args.tree.now in
      let all = range_with_len 0 (length tree.plan.sources) in
      let less : c.loop-source.source < length tree.plan.sources = omega (arith, c.loop-source-test.true, c.loop-source.invariant.end) in
      let within : c.loop-source.source < length all = omega (arith, less, length-range_with_len 0 (length tree.plan.sources)) in
      let line = source_line g.S.Samples.told g.S.Samples.faults tree.plan s tree.nodes tree.sources stand c.loop-source.source c.source_counts.result.taken c.source_counts.result.blocks less c.source_counts.ensures in
      let done = subst (λ (bytes : List ℕ). Appends (g.O.ByteSink.out c.loop-source.output) (g.O.ByteSink.out c.print_source.new.output) bytes) (sym line) c.in-Ok.ensures.bytes in
      appends_line (source_counts_at tree.plan s) all c.loop-source.source 0 _ (g.O.ByteSink.out c.loop-source.output) _ within (c.loop-source.invariant.printed s stand) done;
  faults = c.in-Ok.ensures.cause.kept ∙ c.loop-source.invariant.faults;
  end = c.loop-source.invariant.end;
  within = omega (arith, c.loop-source-test.true);
}

pub returns-clause-bytes : goal.returns-clause-bytes
returns-clause-bytes g c s stand =
    let tree = c.args.tree.now in
    let all = range_with_len 0 (length tree.plan.sources) in
    let long : length all ≤ c.loop-source.source = omega (arith, c.loop-source-test.false, c.loop-source.invariant.end, length-range_with_len 0 (length tree.plan.sources)) in
    subst (λ (ns : List ℕ). Appends (g.O.ByteSink.out c.args.output.now) (g.O.ByteSink.out c.loop-source.output) (flat_map (source_counts_at tree.plan s) ns)) (take_all c.loop-source.source all long)
    (c.loop-source.invariant.printed s stand)
