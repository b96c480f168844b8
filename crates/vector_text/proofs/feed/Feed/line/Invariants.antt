use Rattle.std.proofs.Common.{◌≡◌}
use Rattle.vector_text.specs.Feeding.{Grows}
use Rattle.vector_text.proofs.feed.Feed.line.Given as goal

abbrev pub invariant-reads : goal.invariant-reads
invariant-reads g l =
    Grows (g.I.ByteSource.left l.fn.input) l.fn.self (g.I.ByteSource.left l.input) l.self × (g.I.ByteSource.faults l.input ≡ g.I.ByteSource.faults l.fn.input)

abbrev pub decreases-reads : goal.decreases-reads
decreases-reads g l = l.self.room
