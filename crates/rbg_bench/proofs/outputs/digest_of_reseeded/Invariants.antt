use Rattle.std.proofs.Common.{◌≡◌, length}
use Rattle.sha2.specs.Hashers.{Holds256}
use Rattle.rbg_bench.specs.Outputs.{state_after_reseeds, reseeded_outputs}
use Rattle.rbg_bench.specs.Workers.{state_of, IsWellFormed}
use Rattle.rbg_bench.proofs.outputs.digest_of_reseeded.Given as goal

abbrev pub invariant-loop-turn : goal.invariant-loop-turn
invariant-loop-turn l =
    (state_of l.worker ≡ state_after_reseeds (length l.out) l.turn (state_of l.fn.worker))
    × Holds256 l.digest (reseeded_outputs (length l.out) l.turn (state_of l.fn.worker))
    × IsWellFormed l.worker
