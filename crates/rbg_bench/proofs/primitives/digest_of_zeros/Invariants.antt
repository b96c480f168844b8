use Rattle.std.proofs.Common.{◌*◌, replicate}
use Rattle.sha2.specs.Hashers.{Holds256}
use Rattle.rbg_bench.proofs.primitives.digest_of_zeros.Given as goal

abbrev pub invariant-loop-i : goal.invariant-loop-i
invariant-loop-i l = Holds256 l.digest (replicate (65536 * l.i) 0)
