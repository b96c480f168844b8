use Rattle.std.proofs.Common.{◌≡◌, vec_capacity}
use Rattle.shared_tree.specs.Sorted.{nodes_in, sources_in}
use Rattle.shared_tree.proofs.closing.sort.Given as goal

abbrev pub invariant-loop-value : goal.invariant-loop-value
invariant-loop-value g l = (l.nodes.items ≡ nodes_in l.yielded) × (l.sources.items ≡ sources_in l.yielded)
    × (vec_capacity l.nodes ≡ vec_capacity l.initial.nodes) × (vec_capacity l.sources ≡ vec_capacity l.initial.sources)
