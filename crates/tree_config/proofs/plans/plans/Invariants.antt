use Rattle.std.proofs.Common.{◌≡◌, ℕ, ◌<◌, length, map, ◌++◌, ◌+◌}
use Rattle.std.specs.Vec.Iter.{into_iter_items, into_iter_len}
use Rattle.tree_config.specs.Graph.{LacksParent}
use Rattle.tree_config.specs.Tree.{parents, node_of_row}
use Rattle.tree_config.proofs.plans.plans.Given as goal

abbrev pub invariant-loop-row : goal.invariant-loop-row
invariant-loop-row l =
    (l.fn.rows.items ≡ l.yielded ++ into_iter_items l.row-iterator)
    × (l.plans.items ≡ map node_of_row l.yielded)
    × (l.n ≡ length l.yielded)
    × (l.n + into_iter_len l.row-iterator ≡ length l.fn.rows.items)
    × ((k : ℕ) → k < l.n → ¬ LacksParent (parents (map node_of_row l.fn.rows.items)) k)
