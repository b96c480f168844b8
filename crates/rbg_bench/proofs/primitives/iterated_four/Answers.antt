use Rattle.std.proofs.Common.{sym, ap, map, ◌∙◌}
use Rattle.std.specs.Prelude.{replicate}
use Rattle.aes_core.specs.Aes.{aes}
use Rattle.rbg_bench.proofs.Iterations.{none, more}
use Rattle.rbg_bench.proofs.primitives.iterated_four.Goals as goal

pub loop-i-init : goal.loop-i-init
loop-i-init c = ap (replicate 4) (sym (none c.args.aes.now (replicate 16 0)))

pub loop-i-preserved : goal.loop-i-preserved
loop-i-preserved c =
    let key = c.args.aes.now in
    c.encrypt4.ensures.value ∙ (ap (map (aes key)) c.loop-i.invariant ∙ ap (replicate 4) (sym (more key (replicate 16 0) c.loop-i.i)))
