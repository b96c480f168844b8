use Rattle.std.proofs.Common.{length, refl}
use Rattle.rbg_bench.specs.Workers.{state_of}
use Rattle.rbg_bench.proofs.Generates.{state_after_reseeds-none, reseed_step, reseeded_outputs-none, reseeded_step}
use Rattle.rbg_bench.proofs.outputs.digest_of_reseeded.Goals as goal

pub loop-turn-init : goal.loop-turn-init
loop-turn-init c = (rw state_after_reseeds-none refl, rw reseeded_outputs-none c.new-digest.ensures, c.requires.formed)

pub loop-turn-preserved : goal.loop-turn-preserved
loop-turn-preserved c =
    let s = state_of c.args.worker in
    let so_far = c.loop-turn.invariant in
    let fresh = c.reseed.ensures in
    let made = c.generate.ensures in
    let len = c.generate.auto.out in
    let state = reseed_step (length c.generate.new.out) (length c.loop-turn.out) c.loop-turn.turn s (state_of c.loop-turn.worker) (state_of c.reseed.new.self)
    (state_of c.generate.new.self) len so_far.0 fresh.state made.state in
    let bytes = reseeded_step (length c.generate.new.out) (length c.loop-turn.out) c.loop-turn.turn s (state_of c.loop-turn.worker) (state_of c.reseed.new.self)
    c.generate.new.out len so_far.0 fresh.state made.bytes in
    (state, rw bytes (c.update.ensures _ so_far.1), made.formed)
