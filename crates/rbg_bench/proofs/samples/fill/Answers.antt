use Rattle.std.proofs.Common.{◌<◌, ap, ◌∙◌, length, arith}
use Rattle.rbg_bench.specs.Samples.{generated}
use Rattle.rbg_bench.proofs.RunByRun.{fill_more, filled}
use Rattle.rbg_bench.proofs.samples.fill.Goals as goal

pub loop-at-preserved : goal.loop-at-preserved
loop-at-preserved c =
    let within : c.loop-at.at < length c.loop-at.samples = omega (arith, c.loop-at.auto.samples) in
    fill_more c.loop-at.samples c.loop-at.at c.loop-at.state c.next-state.result within c.next-state.ensures c.loop-at.invariant

pub returns : goal.returns
returns c =
    let len = c.loop-at.auto.samples in
    filled c.loop-at.samples c.loop-at.at c.loop-at.state (omega (arith, len)) c.loop-at.invariant ∙ ap (λ k. generated k 0) len
