use Rattle.std.proofs.Common.{◌≡◌, length}
use Rattle.vector_text.specs.Reading.{size_of}
use Rattle.vector_replay.specs.Replaying.{IsCounted, Stands}
use Rattle.vector_replay.proofs.replaying.replay.Given as goal

abbrev pub invariant-items : goal.invariant-items
invariant-items g l =
    Stands l.fn.family (g.I.ByteSource.left l.fn.input) (g.O.ByteSink.out l.fn.output) l.reader l.totals (g.I.ByteSource.left l.input) (g.O.ByteSink.out l.output)
    × IsCounted l.totals l.reader × (g.I.ByteSource.faults l.input ≡ g.I.ByteSource.faults l.fn.input)
    × (g.O.ByteSink.faults l.output ≡ g.O.ByteSink.faults l.fn.output) × (length l.room.items ≡ 8198)

abbrev pub decreases-items : goal.decreases-items
decreases-items g l = size_of l.reader
