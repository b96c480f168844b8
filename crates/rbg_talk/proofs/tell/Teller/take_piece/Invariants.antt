use Rattle.std.proofs.Common.{◌≡◌, ◌+◌, ◌++◌, List, ℕ, take}
use Rattle.std.specs.declared.option.Option.{Option}
use Rattle.rbg_talk.specs.Teller.{IsTeller, StandsAt}
use Rattle.rbg_talk.proofs.tell.Teller.take_piece.Given as goal

abbrev pub invariant-loop-byte : goal.invariant-loop-byte
invariant-loop-byte g l =
    IsTeller l.self
    × (l.self.taken ≡ l.fn.self.taken + l.byte-index)
    × (l.self.way ≡ l.fn.self.way)
    × (g.O.ByteSink.faults l.output ≡ g.O.ByteSink.faults l.fn.output)
    × ((before : Option (List ℕ)) (taken : List ℕ) → StandsAt before taken l.fn.self (g.O.ByteSink.out l.fn.output)
    → StandsAt before (taken ++ take l.byte-index l.piece) l.self (g.O.ByteSink.out l.output))
