use Rattle.std.proofs.Common.{◌≡◌, ◌+◌, ◌++◌, List, ℕ, take}
use Rattle.std.specs.declared.option.Option.{Option}
use Rattle.rbg_talk.specs.Asker.{IsAsker, StandsAt}
use Rattle.rbg_talk.proofs.ask.Asker.take_piece.Given as goal

abbrev pub invariant-loop-byte : goal.invariant-loop-byte
invariant-loop-byte g l =
    IsAsker l.self
    × (l.self.taken ≡ l.fn.self.taken + l.byte-index)
    × (g.O.ByteSink.faults l.output ≡ g.O.ByteSink.faults l.fn.output)
    × ((before : Option (List ℕ)) (taken : List ℕ) → StandsAt before taken l.fn.self (g.O.ByteSink.out l.fn.output)
    → StandsAt before (taken ++ take l.byte-index l.piece) l.self (g.O.ByteSink.out l.output))
