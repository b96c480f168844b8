use Rattle.std.proofs.Common.{◌≡◌, drop}
use Rattle.rbgtree.specs.MemoryFiles.{names}
use Rattle.rbgtree.proofs.Found.{IsAsLater}
use Rattle.rbgtree.proofs.memory_world.first_named.Given as goal

abbrev pub invariant-loop-entry : goal.invariant-loop-entry
invariant-loop-entry g l = IsAsLater (names l.entries) (names (drop l.entry-index l.entries)) l.name l.place × (l.place ≡ l.entry-index)
