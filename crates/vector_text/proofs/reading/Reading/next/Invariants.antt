use Rattle.std.proofs.Common.{◌≡◌, ◌≤◌}
use Rattle.vector_text.specs.declared.spot.Answer.TheVariants.{Goes}
use Rattle.vector_text.specs.Spots.{place_of}
use Rattle.vector_text.specs.Reading.{Counts, IsReading, Leads, reader_of, size_of}
use Rattle.vector_text.proofs.reading.Reading.next.Given as goal

abbrev pub invariant-lines : goal.invariant-lines
invariant-lines g l =
    Leads (g.I.ByteSource.left l.fn.input) (reader_of l.fn.self) (g.I.ByteSource.left l.input) (reader_of l.self) Goes
    × IsReading l.self × (g.I.ByteSource.faults l.input ≡ g.I.ByteSource.faults l.fn.input) × (size_of (reader_of l.self) ≤ size_of (reader_of l.fn.self))
    × Counts Goes (place_of l.fn.self.spot) (place_of l.self.spot)

abbrev pub decreases-lines : goal.decreases-lines
decreases-lines g l = size_of (reader_of l.self)
