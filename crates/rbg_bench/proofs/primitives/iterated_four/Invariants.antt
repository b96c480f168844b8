use Rattle.std.proofs.Common.{◌≡◌}
use Rattle.std.specs.Prelude.{replicate}
use Rattle.rbg_bench.specs.Iterated.{iterated}
use Rattle.rbg_bench.proofs.primitives.iterated_four.Given as goal

abbrev pub invariant-loop-i : goal.invariant-loop-i
invariant-loop-i l = l.blocks ≡ replicate 4 (iterated l.aes l.i (replicate 16 0))
