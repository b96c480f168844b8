use Rattle.std.proofs.Common.{◌≡◌, ◌+◌, length}
use Rattle.tree_core.specs.Fresh.{sources_from}
use Rattle.tree_core.proofs.fresh.sources_of.Given as goal

abbrev pub invariant-loop-s : goal.invariant-loop-s
invariant-loop-s g l = (l.sources.items ≡ sources_from l.plan 0 l.yielded) × (l.j ≡ length l.yielded) × (l.j + length l.s-iterator.rest.items ≡ length l.plan.sources)
