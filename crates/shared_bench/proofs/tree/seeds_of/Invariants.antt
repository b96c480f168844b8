use Rattle.std.proofs.Common.{◌≡◌, length}
use Rattle.shared_bench.proofs.tree.seeds_of.Given as goal

abbrev pub invariant-loop-n : goal.invariant-loop-n
invariant-loop-n l = length l.seeds.items ≡ l.n
