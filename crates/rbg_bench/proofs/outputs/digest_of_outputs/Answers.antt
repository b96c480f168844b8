use Rattle.std.proofs.Common.{length, refl, arith}
use Rattle.rbg_bench.specs.Workers.{state_of}
use Rattle.rbg_bench.proofs.Generates.{state_after-none, state_step, outputs-none, outputs_step}
use Rattle.rbg_bench.proofs.outputs.digest_of_outputs.Goals as goal

pub loop-i-init : goal.loop-i-init
loop-i-init c = (rw state_after-none refl, rw outputs-none c.new-digest.ensures, c.requires.counter, c.requires.formed)

pub loop-i-preserved : goal.loop-i-preserved
loop-i-preserved c =
    let s = state_of c.args.worker in
    let now = state_of c.loop-i.worker in
    let so_far = c.loop-i.invariant in
    let made = c.generate.ensures in
    let len = c.generate.auto.out in
    let state = state_step (length c.generate.new.out) (length c.loop-i.out) c.loop-i.i s now
    (state_of c.generate.new.self) len so_far.0 made.state in
    let bytes = outputs_step (length c.generate.new.out) (length c.loop-i.out) c.loop-i.i s now
    c.generate.new.out len so_far.0 made.bytes in
    (state, rw bytes (c.update.ensures _ so_far.1), omega (arith, made.counter, so_far.2), made.formed)
