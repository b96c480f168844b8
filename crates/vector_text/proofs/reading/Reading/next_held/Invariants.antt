use Rattle.std.proofs.Common.{◌≡◌, ◌≤◌}
use Rattle.vector_text.specs.declared.spot.Answer.TheVariants.{Goes}
use Rattle.vector_text.specs.Spots.{place_of}
use Rattle.vector_text.specs.Reading.{Counts, IsReading, SaysOf, reader_of, size_of}
use Rattle.vector_text.proofs.reading.Reading.next_held.Given as goal

abbrev pub invariant-lines : goal.invariant-lines
invariant-lines l =
    SaysOf (reader_of l.fn.self) (reader_of l.self) Goes × IsReading l.self × (l.self.feed.room ≡ l.fn.self.feed.room)
    × (size_of (reader_of l.self) ≤ size_of (reader_of l.fn.self)) × Counts Goes (place_of l.fn.self.spot) (place_of l.self.spot)

abbrev pub decreases-lines : goal.decreases-lines
decreases-lines l = size_of (reader_of l.self)
