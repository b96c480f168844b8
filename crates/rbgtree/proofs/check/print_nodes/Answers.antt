use Rattle.std.proofs.Common.{◌≤◌, ◌<◌, ℕ, List, length, sym, subst, ◌∙◌, arith}
use Rattle.std.specs.List.{flat_map, range_with_len}
use Rattle.std.specs.Io.KnownBytes.{Appends}
use Rattle.std.proofs.lemmas.List.{take_all}
use Rattle.std.proofs.lemmas.List.FromFn.{length-range_with_len}
use Rattle.rbg_bytes.specs.Streams.{AppendsFront}
use Rattle.rbg_bytes.proofs.Fronts.{appends_line, fails_within}
use Rattle.rbgtree.specs.Printed.{line_of_node}
use Rattle.rbgtree.proofs.Depths.{line_in}
use Rattle.rbgtree.proofs.check.print_nodes.Goals as goal

pub returns-in-Err-clause-bytes : goal.returns-in-Err-clause-bytes
returns-in-Err-clause-bytes g c =
    let tree = c.args.plan.now in
    let all = range_with_len 0 (length tree.nodes) in
    let less : c.loop-number.number < length tree.nodes = omega (arith, c.loop-number-test.true, c.nodes-number-end.ensures.count) in
    let within : c.loop-number.number < length all = omega (arith, less, length-range_with_len 0 (length tree.nodes)) in
    let line = line_in tree c.loop-number.number c.depth.result c.node-node.result.now less c.node-node.ensures.value c.depth.ensures.value c.depth.ensures.range.1 in
    let failed = subst (λ (bytes : List ℕ). AppendsFront (g.O.ByteSink.out c.loop-number.output) (g.O.ByteSink.out c.print_node.new.output) bytes) (sym line) c.in-Err.ensures.bytes in
    fails_within (line_of_node tree) all c.loop-number.number 0 _ (g.O.ByteSink.out c.loop-number.output) _ within c.loop-number.invariant.0 failed

pub loop-number-preserved : goal.loop-number-preserved
loop-number-preserved g c =
    let tree = c.args.plan.now in
    let all = range_with_len 0 (length tree.nodes) in
    let less : c.loop-number.number < length tree.nodes = omega (arith, c.loop-number-test.true, c.nodes-number-end.ensures.count) in
    let within : c.loop-number.number < length all = omega (arith, less, length-range_with_len 0 (length tree.nodes)) in
    let line = line_in tree c.loop-number.number c.depth.result c.node-node.result.now less c.node-node.ensures.value c.depth.ensures.value c.depth.ensures.range.1 in
    let done = subst (λ (bytes : List ℕ). Appends (g.O.ByteSink.out c.loop-number.output) (g.O.ByteSink.out c.print_node.new.output) bytes) (sym line) c.in-Ok.ensures.bytes in (
      appends_line (line_of_node tree) all c.loop-number.number 0 _ (g.O.ByteSink.out c.loop-number.output) _ within c.loop-number.invariant.0 done,
      c.in-Ok.ensures.cause.kept ∙ c.loop-number.invariant.1,
      c.loop-number.invariant.2,
      omega (arith, c.loop-number-test.true),
    )

pub returns-clause-bytes : goal.returns-clause-bytes
returns-clause-bytes g c =
    let tree = c.args.plan.now in
    let all = range_with_len 0 (length tree.nodes) in
    let long : length all ≤ c.loop-number.number = omega (arith, c.loop-number-test.false, c.nodes-number-end.ensures.count, length-range_with_len 0 (length tree.nodes)) in
    subst (λ (ns : List ℕ). Appends (g.O.ByteSink.out c.args.output.now) (g.O.ByteSink.out c.loop-number.output) (flat_map (line_of_node tree) ns)) (take_all c.loop-number.number all long) c.loop-number.invariant.0
