use Rattle.std.proofs.Common.{◌≡◌, ◌+◌, length}
use Rattle.sha2.specs.Hashers.{Holds256}
use Rattle.rbg_bench.specs.Outputs.{state_after, outputs}
use Rattle.rbg_bench.specs.Workers.{state_of, counter_of, IsWellFormed}
use Rattle.rbg_bench.proofs.outputs.digest_of_outputs.Given as goal

abbrev pub invariant-loop-i : goal.invariant-loop-i
invariant-loop-i l =
    (state_of l.worker ≡ state_after (length l.out) l.i (state_of l.fn.worker))
    × Holds256 l.digest (outputs (length l.out) l.i (state_of l.fn.worker))
    × (counter_of l.worker ≡ l.i + 1)
    × IsWellFormed l.worker
