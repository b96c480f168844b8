use Rattle.std.proofs.Common.{map}
use Rattle.tree_core.specs.Solo.{AreLong}
use Rattle.rbgtree.proofs.seeds.first_short.Given as goal

abbrev pub invariant-loop-n : goal.invariant-loop-n
invariant-loop-n l = AreLong l.plan (map (λ s. s.items) l.seeds) l.n
