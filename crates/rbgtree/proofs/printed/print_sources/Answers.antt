use Rattle.std.proofs.Common.{◌∙◌}
use Rattle.rbg_bytes.proofs.Fronts.{appends_line, fails_within}
use Rattle.rbgtree.specs.Printed.{source_text}
use Rattle.rbgtree.proofs.printed.print_sources.Goals as goal

pub returns-in-Err-clause-bytes : goal.returns-in-Err-clause-bytes
returns-in-Err-clause-bytes g c =
    fails_within source_text c.args.sources.now c.loop-source.source-index _ _ (g.O.ByteSink.out c.loop-source.output) _ c.loop-source-test.true c.loop-source.invariant.0 c.in-Err.ensures.bytes

pub loop-source-preserved : goal.loop-source-preserved
loop-source-preserved g c = (
  appends_line source_text c.args.sources.now c.loop-source.source-index _ _ (g.O.ByteSink.out c.loop-source.output) _ c.loop-source-test.true c.loop-source.invariant.0 c.in-Ok.ensures.bytes,
  c.in-Ok.ensures.cause.kept ∙ c.loop-source.invariant.1,
)
