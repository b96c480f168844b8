use Rattle.std.proofs.Common.{◌≡◌, ℕ, List, length, Option}
use Rattle.vector_text.specs.declared.case.Family.{Family}
use Rattle.vector_text.specs.Reading.{size_of}
use Rattle.vector_replay.specs.Replaying.{IsCounted, StandsBehind}
use Rattle.vector_replay.proofs.pieces.run_held.Given as goal

abbrev pub invariant-items : goal.invariant-items
invariant-items g l =
    ((family : Family) (text : List ℕ) (before : Option (List ℕ)) → StandsBehind family text before (record { reader = l.fn.reader; totals = l.fn.totals }) (g.O.ByteSink.out l.fn.output)
    → StandsBehind family text before (record { reader = l.reader; totals = l.totals }) (g.O.ByteSink.out l.output))
    × IsCounted l.totals l.reader × (l.reader.window.room ≡ l.fn.reader.window.room)
    × (g.O.ByteSink.faults l.output ≡ g.O.ByteSink.faults l.fn.output) × (length l.room ≡ 8198)

abbrev pub decreases-items : goal.decreases-items
decreases-items g l = size_of l.reader
