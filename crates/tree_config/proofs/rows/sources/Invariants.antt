use Rattle.std.proofs.Common.{◌≡◌, drop, length}
use Rattle.tree_config.specs.Source.{source_at}
use Rattle.tree_config.specs.Top.{members_of_each}
use Rattle.tree_config.specs.Rows.{each_at}
use Rattle.tree_config.specs.declared.fault.Place.TheVariants as place
use Rattle.tree_config.proofs.Each.{with_front}
use Rattle.tree_config.proofs.rows.sources.Given as goal

abbrev pub invariant-loop-i : goal.invariant-loop-i
invariant-loop-i l =
    (with_front l.plans.items (each_at place.Source (source_at l.version) l.i (members_of_each (drop l.i l.values)))
    ≡ each_at place.Source (source_at l.version) 0 (members_of_each l.values))
    × (length l.plans.items ≡ l.i)
