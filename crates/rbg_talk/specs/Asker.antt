-- What `ask` keeps between two bytes of its input, and how it goes on and ends.
-- This project's own.
use Rattle.std.specs.Prelude.{◌≡◌, ◌≤◌, ℕ, ◌+◌, ◌^◌, false, List, [], ◌∷◌, ◌++◌, length, take, All, Option, Some, None, Result, Ok, Err}
use Rattle.std.specs.Io.KnownBytes.{Appends}
use Rattle.rbg_bytes.specs.Streams.{AppendsFront}
use Rattle.frame_codec.specs.Frames.{Asked}
use Rattle.rbg_talk.specs.declared.ask.Asker.{Asker}
use Rattle.rbg_talk.specs.declared.status.Status.{Status}
use Rattle.rbg_talk.specs.declared.status.Status.TheVariants.{Line, WriteFault}
use Rattle.rbg_talk.specs.Lines.{is_line_feed, lines}
use Rattle.rbg_talk.specs.Calls.{line_says}
use Rattle.rbg_talk.specs.Asking.{calls, first_fault, frame_behind, frames}
use Rattle.rbg_talk.specs.Ends.{AskEnds}
use Rattle.rbg_talk.specs.Causes.{IsWriteEnd}

-- the bytes of the line that is begun
abbrev pub line_of : Asker → List ℕ
line_of a = take a.len a.line.items

-- the rooms are as large as a line, a string and a frame can be
pub record HasRooms (a : Asker) : Type 0 where
  pub line : length a.line.items ≡ 9000
  pub string : length a.string.items ≡ 4096
  pub frame : length a.frame.items ≡ 4112

-- a line of at most 9,000 bytes is begun, and there are no more lines and calls than bytes
pub record IsAsker (a : Asker) : Type 0 where
  pub rooms : HasRooms a
  pub len : a.len ≤ 9000
  pub number : a.number ≤ a.taken + 1
  pub calls : a.calls + 1 ≤ a.number
  pub taken : a.taken ≤ 2 ^ 62

-- the rooms are as large as they were, and but for the calls and the frame nothing changed
pub record SameLine (old new : Asker) : Type 0 where
  pub line : new.line ≡ old.line
  pub len : new.len ≡ old.len
  pub number : new.number ≡ old.number
  pub taken : new.taken ≡ old.taken
  pub string : new.string ≡ old.string
  pub frame : length new.frame.items ≡ length old.frame.items

-- the calls, the bytes taken and the rooms are as they were
pub record SameCalls (old new : Asker) : Type 0 where
  pub calls : new.calls ≡ old.calls
  pub taken : new.taken ≡ old.taken
  pub line : new.line ≡ old.line
  pub string : new.string ≡ old.string
  pub frame : new.frame ≡ old.frame

-- nothing was taken
pub record Begins (a : Asker) : Type 0 where
  pub len : a.len ≡ 0
  pub number : a.number ≡ 1
  pub calls : a.calls ≡ 0
  pub taken : a.taken ≡ 0

-- the call that a line says, if it says one
abbrev pub listed : Option Asked → List Asked
listed None = []
listed (Some a) = a ∷ []

-- the line that was whole is faulty, and nothing was written; or a front of its call's frame was
abbrev pub LineStops : Asker → Option (List ℕ) → Option (List ℕ) → Status → Type 0
LineStops old before now (Line number fault) = (number ≡ old.number) × (line_says (line_of old) ≡ Err fault) × (now ≡ before)
LineStops old before now (WriteFault count) = (a : Asked) × (line_says (line_of old) ≡ Ok (Some a)) × AppendsFront before now (frame_behind old.calls a)
LineStops old before now status = ⊥

-- what is written for a line behind so many calls: the frame of its call, if it says one
abbrev pub text_behind : ℕ → Option Asked → List ℕ
text_behind before None = []
text_behind before (Some a) = frame_behind before a

-- behind so many calls the frame of one was written, if there is one, and behind the line of this number the next is begun
pub record Wrote (said : Option Asked) (behind at : ℕ) (new : Asker) (before now : Option (List ℕ)) : Type 0 where
  pub text : Appends before now (text_behind behind said)
  pub calls : new.calls ≡ behind + length (listed said)
  pub number : new.number ≡ at + 1
  pub len : new.len ≡ 0

-- so it is; or a front of the frame was written
abbrev pub WritesSaid : {T : Type 0} → Option Asked → ℕ → ℕ → Asker → Option (List ℕ) → Option (List ℕ) → Result T Status → Type 0
WritesSaid said behind at new before now (Ok done) = Wrote said behind at new before now
WritesSaid said behind at new before now (Err status) = (a : Asked) × (said ≡ Some a) × IsWriteEnd status × AppendsFront before now (frame_behind behind a)

-- the line that was begun was whole, said this, and the next is begun
pub record Passed (old new : Asker) (before now : Option (List ℕ)) : Type 0 where
  pub said : Option Asked
  pub says : line_says (line_of old) ≡ Ok said
  pub wrote : Wrote said old.calls old.number new before now

abbrev pub EndsLine : {T : Type 0} → Asker → Asker → Option (List ℕ) → Option (List ℕ) → Result T Status → Type 0
EndsLine old new before now (Ok done) = Passed old new before now
EndsLine old new before now (Err status) = LineStops old before now status

-- These bytes were taken: lines that have their line feeds, each without a fault, and the line that is begun, whatever follows. The
-- frames of the calls of these lines were written.
pub record Stands (before : Option (List ℕ)) (taken line : List ℕ) (n k m : ℕ) (out : Option (List ℕ)) : Type 0 where
  pub ended : List (List ℕ)
  pub cut : (more : List ℕ) → lines (taken ++ more) ≡ ended ++ lines (line ++ more)
  pub begun : All (λ c. is_line_feed c ≡ false) line
  pub sound : first_fault 1 ended ≡ None
  pub number : n ≡ length ended + 1
  pub count : k ≡ length (calls ended)
  pub bytes : m ≡ length taken
  pub text : Appends before out (frames (calls ended))

abbrev pub StandsAt : Option (List ℕ) → List ℕ → Asker → Option (List ℕ) → Type 0
StandsAt before taken a out = Stands before taken (line_of a) a.number a.calls a.taken out

-- some text was written, and the table of ends has this end, with what is left
abbrev pub Asks : Option (List ℕ) → List ℕ → Option (List ℕ) → Option (List ℕ) → Status → Type 0
Asks before taken left out status = (text : List ℕ) × Appends before out text × AskEnds status taken left text

-- it has ended by a row of the table, whatever bytes follow those taken
abbrev pub Stops : Option (List ℕ) → List ℕ → Option (List ℕ) → Status → Type 0
Stops before taken out status =
    (text : List ℕ) × Appends before out text × ((more : List ℕ) (left : Option (List ℕ)) → AskEnds status (taken ++ more) left text)

-- after these bytes it stands so, or it has ended
abbrev pub GoesOn : {T : Type 0} → Option (List ℕ) → List ℕ → Asker → Option (List ℕ) → Result T Status → Type 0
GoesOn before taken a out (Ok done) = StandsAt before taken a out
GoesOn before taken a out (Err status) = Stops before taken out status
