use Rattle.std.proofs.Common.{◌≡◌, ◌-◌, ◌^◌}
use Rattle.rbg_talk.specs.Teller.{IsTeller}
use Rattle.rbg_talk.proofs.Telling.{HasTaken}
use Rattle.rbg_talk.proofs.tell.Teller.tell.Given as goal

abbrev pub invariant-reads : goal.invariant-reads
invariant-reads g l =
    IsTeller l.self
    × (l.self.way ≡ l.fn.self.way)
    × (g.I.ByteSource.faults l.input ≡ g.I.ByteSource.faults l.fn.input)
    × (g.O.ByteSink.faults l.output ≡ g.O.ByteSink.faults l.fn.output)
    × HasTaken (g.O.ByteSink.out l.fn.output) (g.I.ByteSource.left l.fn.input) (g.I.ByteSource.left l.input) l.self (g.O.ByteSink.out l.output)

abbrev pub decreases-reads : goal.decreases-reads
decreases-reads g l = 2 ^ 62 - l.self.taken
