-- What an end rests on: the counts of faults of the input and the output.
-- This project's own.
use Rattle.std.specs.Prelude.{◌≡◌, ℕ, Result, Ok, Err}
use Rattle.rbg_bytes.specs.Streams.{Rose}
use Rattle.rbg_talk.specs.declared.status.Status.{Status}
use Rattle.rbg_talk.specs.declared.status.Status.TheVariants.{Done, Line, Malformed, Cut, Refused, ReadFault, WriteFault}

-- the sink's count rose where a write failed, and is as it was otherwise
abbrev pub HasWriteCause : ℕ → ℕ → Status → Type 0
HasWriteCause before now (WriteFault count) = Rose before now × (count ≡ now)
HasWriteCause before now status = now ≡ before

-- the source's count rose where a read failed, and is as it was otherwise
abbrev pub HasReadCause : ℕ → ℕ → Status → Type 0
HasReadCause before now (ReadFault count) = Rose before now × (count ≡ now)
HasReadCause before now status = now ≡ before

-- the sink's count is as it was where it goes on, and has its cause at an end
abbrev pub HasPieceCause : {T : Type 0} → ℕ → ℕ → Result T Status → Type 0
HasPieceCause before now (Ok done) = now ≡ before
HasPieceCause before now (Err status) = HasWriteCause before now status

-- an end that a write brings
abbrev pub IsWriteEnd : Status → Type 0
IsWriteEnd (WriteFault count) = Unit {0}
IsWriteEnd status = ⊥

-- an end that a line brings
abbrev pub IsLineEnd : Status → Type 0
IsLineEnd (Line number fault) = Unit {0}
IsLineEnd status = ⊥

-- an end that bytes, or the end of the input, can bring
abbrev pub IsOwnEnd : Status → Type 0
IsOwnEnd Done = Unit {0}
IsOwnEnd (Line number fault) = Unit {0}
IsOwnEnd (Malformed offset why) = Unit {0}
IsOwnEnd (Cut offset) = Unit {0}
IsOwnEnd (Refused refusals) = Unit {0}
IsOwnEnd (WriteFault count) = Unit {0}
IsOwnEnd status = ⊥

-- an end that the end of an input of replies brings
abbrev pub IsTellEnd : Status → Type 0
IsTellEnd Done = Unit {0}
IsTellEnd (Cut offset) = Unit {0}
IsTellEnd (Refused refusals) = Unit {0}
IsTellEnd status = ⊥
