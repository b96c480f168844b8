use Rattle.std.proofs.Common.{◌≡◌, drop, length}
use Rattle.tree_config.specs.Node.{node_at}
use Rattle.tree_config.specs.Top.{members_of_each}
use Rattle.tree_config.specs.Rows.{each_at}
use Rattle.tree_config.specs.declared.fault.Place.TheVariants as place
use Rattle.tree_config.proofs.Each.{with_front}
use Rattle.tree_config.proofs.rows.nodes.Given as goal

abbrev pub invariant-loop-i : goal.invariant-loop-i
invariant-loop-i l =
    (with_front l.rows.items (each_at place.Node (node_at l.version l.count) l.i (members_of_each (drop l.i l.values)))
    ≡ each_at place.Node (node_at l.version l.count) 0 (members_of_each l.values))
    × (length l.rows.items ≡ l.i)
