use Rattle.std.proofs.Common.{sym, ap, ◌∙◌}
use Rattle.std.specs.Prelude.{replicate}
use Rattle.aes_core.specs.Aes.{aes}
use Rattle.rbg_bench.proofs.Iterations.{none, more}
use Rattle.rbg_bench.proofs.primitives.iterated.Goals as goal

pub loop-i-init : goal.loop-i-init
loop-i-init c = sym (none c.args.aes.now (replicate 16 0))

pub loop-i-preserved : goal.loop-i-preserved
loop-i-preserved c =
    c.encrypt.ensures.value ∙ (ap (aes c.args.aes.now) c.loop-i.invariant ∙ sym (more c.args.aes.now (replicate 16 0) c.loop-i.i))
