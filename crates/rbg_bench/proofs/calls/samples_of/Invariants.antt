use Rattle.std.proofs.Common.{◌≡◌, length}
use Rattle.rbg_bench.proofs.calls.samples_of.Given as goal

abbrev pub invariant-loop-j : goal.invariant-loop-j
invariant-loop-j l = length l.samples.items ≡ l.j
