use Rattle.std.proofs.Common.{ℕ, ◌<◌}
use Rattle.tree_config.specs.Graph.{IsOnCycle}
use Rattle.tree_config.specs.Tree.{parents}
use Rattle.tree_config.proofs.ways.first_cycle.Given as goal

abbrev pub invariant-loop-n : goal.invariant-loop-n
invariant-loop-n l = (k : ℕ) → k < l.n → ¬ IsOnCycle (parents l.nodes) k
