use Rattle.std.proofs.Common.{map}
use Rattle.tree_core.specs.Fresh.{AreFresh}
use Rattle.tree_core.proofs.fresh.nodes_of.Given as goal

abbrev pub invariant-loop-n : goal.invariant-loop-n
invariant-loop-n l = AreFresh l.plan (map (λ s. s.items) l.seeds) l.n l.nodes.items
