use Rattle.std.proofs.Common.{◌≡◌, ◌-◌, ◌^◌, length}
use Rattle.rbgtree.proofs.Replayed.{Between}
use Rattle.rbgtree.proofs.replaying.run_replay.Given as goal

abbrev pub invariant-pieces : goal.invariant-pieces
invariant-pieces g l =
    Between (g.W.World.files l.fn.world) l.fn.family l.name (g.O.ByteSink.out l.fn.output) l.place l.replaying (g.O.ByteSink.out l.output)
    × (length l.piece.items ≡ 32768)
    × (g.W.World.files l.world ≡ g.W.World.files l.fn.world)
    × (g.W.World.recordings l.world ≡ g.W.World.recordings l.fn.world)
    × (g.W.World.faults l.world ≡ g.W.World.faults l.fn.world)
    × (g.O.ByteSink.faults l.output ≡ g.O.ByteSink.faults l.fn.output)

abbrev pub decreases-pieces : goal.decreases-pieces
decreases-pieces g l = 2 ^ 63 - l.place
