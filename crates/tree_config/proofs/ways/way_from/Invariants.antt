use Rattle.std.proofs.Common.{◌≡◌, ℕ, suc, ◌<◌, length, Some}
use Rattle.tree_config.specs.Graph.{after}
use Rattle.tree_config.specs.Tree.{parents}
use Rattle.tree_config.proofs.ways.way_from.Given as goal

abbrev pub invariant-loop-edges : goal.invariant-loop-edges
invariant-loop-edges l =
    (after (parents l.nodes) l.edges l.n ≡ Some l.at)
    × (l.at < length l.nodes)
    × ((k : ℕ) → k < l.edges → ¬ (after (parents l.nodes) (suc k) l.n ≡ Some l.n))
