-- How a replay stands, and how it ends.
-- This project's own.
use Rattle.std.specs.Prelude.{◌≡◌, ◌≤◌, ◌<◌, ℕ, ◌+◌, ⊤, List, [], ◌∷◌, ◌++◌, length, take, Option, Some, None, MatchOption, Result, Ok, Err}
use Rattle.std.specs.List.{concat}
use Rattle.std.specs.Io.KnownBytes.{Appends}
use Rattle.rbg_bytes.specs.Streams.{AppendsFront, Rose}
use Rattle.vector_text.specs.declared.case.Case.{Case}
use Rattle.vector_text.specs.declared.case.Family.{Family}
use Rattle.vector_text.specs.declared.reader.TextRefusal as texts
use Rattle.vector_text.specs.Feeding.{Follows, given, most_bytes}
use Rattle.vector_text.specs.Text.{Entry, ACase, entries}
use Rattle.vector_text.specs.Reading.{Begins, Reader, left_of, groups_in}
use Rattle.vector_replay.specs.declared.totals.Totals.{Totals}
use Rattle.vector_replay.specs.declared.totals.ReplayRefusal.{ReplayRefusal}
use Rattle.vector_replay.specs.declared.totals.ReplayRefusal.TheVariants.{Text, WriteFault, OutOfMemory}
use Rattle.vector_replay.specs.Report.{Counted, Faulty, Report, none_yet, report_of, totals_line, with_lines}

-- the report of a text that is read for a family
abbrev pub replayed : Family → List ℕ → Report
replayed family text = report_of none_yet (entries family text)

-- whole lines of a report were written, and those behind them not
abbrev pub StopsBehind : Report → Option (List ℕ) → Option (List ℕ) → Type 0
StopsBehind r before now = (said later : List (List ℕ)) × (r.lines ≡ said ++ later) × Appends before now (concat said)

-- what was written of a report, by the result
abbrev pub Ends : Report → Option (List ℕ) → Option (List ℕ) → Result Totals ReplayRefusal → Type 0
Ends r before now (Ok totals) = (r.end ≡ Counted totals) × Appends before now (concat r.lines)
Ends r before now (Err (Text (texts.TheVariants.Fault line why))) = (r.end ≡ Faulty line why) × Appends before now (concat r.lines)
Ends r before now (Err (Text (texts.TheVariants.ReadFault count))) = StopsBehind r before now
Ends r before now (Err (WriteFault count)) = AppendsFront before now (concat r.lines)
Ends r before now (Err OutOfMemory) = Appends before now []

-- the source's count rose where a read failed, and is as it was otherwise
abbrev pub HasReadCause : {T : Type 0} → ℕ → ℕ → Result T ReplayRefusal → Type 0
HasReadCause before now (Ok done) = now ≡ before
HasReadCause before now (Err (Text (texts.TheVariants.Fault line why))) = now ≡ before
HasReadCause before now (Err (Text (texts.TheVariants.ReadFault count))) = Rose before now × (count ≡ now)
HasReadCause before now (Err (WriteFault count)) = now ≡ before
HasReadCause before now (Err OutOfMemory) = now ≡ before

-- the sink's count rose where a write failed, and is as it was otherwise
abbrev pub HasWriteCause : {T : Type 0} → ℕ → ℕ → Result T ReplayRefusal → Type 0
HasWriteCause before now (Ok done) = now ≡ before
HasWriteCause before now (Err (Text why)) = now ≡ before
HasWriteCause before now (Err (WriteFault count)) = Rose before now × (count ≡ now)
HasWriteCause before now (Err OutOfMemory) = now ≡ before

-- Of the report of the text that a source tells, lines were written, and what is left of it follows these totals.
pub record Stands (family : Family) (left : Option (List ℕ)) (before : Option (List ℕ)) (r : Reader) (t : Totals) (left' now : Option (List ℕ)) : Type 0 where
  pub said : List (List ℕ)
  pub written : Appends before now (concat said)
  pub leads : (more : List ℕ) → Follows left' r.window.room more
      → (text : List ℕ) × Follows left most_bytes text × (replayed family text ≡ with_lines said (report_of t (left_of r more)))

-- no more was counted than lines stand before the place, but for the group that is open
abbrev pub IsCounted : Totals → Reader → Type 0
IsCounted t r = t.passed + t.differed + t.skipped + groups_in r.place.group ≤ r.place.number

-- A case was run and counted, and its lines were written; or its lengths are bad, or a front of its lines was written.
abbrev pub Takes : {T : Type 0} → Totals → Case → Totals → Option (List ℕ) → Option (List ℕ) → Result T ReplayRefusal → Type 0
Takes t c t' before now (Ok done) =
    (said : List (List ℕ)) × Appends before now (concat said) × ((later : List Entry) → report_of t (ACase c ∷ later) ≡ with_lines said (report_of t' later))
Takes t c t' before now (Err (Text (texts.TheVariants.Fault line why))) =
    Appends before now [] × ((later : List Entry) → report_of t (ACase c ∷ later) ≡ record { lines = []; end = Faulty line why })
Takes t c t' before now (Err (Text (texts.TheVariants.ReadFault count))) = ⊥
Takes t c t' before now (Err (WriteFault count)) =
    (said : List (List ℕ)) × AppendsFront before now (concat said) × ((later : List Entry) → (r : Report) × (report_of t (ACase c ∷ later) ≡ with_lines said r))
Takes t c t' before now (Err OutOfMemory) = ⊥

-- the last line was written, or a front of it
abbrev pub Finishes : Totals → Option (List ℕ) → Option (List ℕ) → Result Totals ReplayRefusal → Type 0
Finishes t before now (Ok totals) = (totals ≡ t) × Appends before now (totals_line t)
Finishes t before now (Err (Text why)) = ⊥
Finishes t before now (Err (WriteFault count)) = AppendsFront before now (totals_line t)
Finishes t before now (Err OutOfMemory) = ⊥

-- ---- a text in pieces

-- what is kept of a text between its pieces: a reader, and what was counted
pub record Replayer : Type 0 where
  pub reader : Reader
  pub totals : Totals

-- nothing was read yet
pub record Starts (family : Family) (p : Replayer) : Type 0 where
  pub begins : Begins family p.reader
  pub none : p.totals ≡ none_yet

-- the room for bytes behind a piece
abbrev pub room_behind : List ℕ → Replayer → ℕ
room_behind piece p = (given piece p.reader.window).room

-- Of the report of a text that begins with these bytes, lines were written, and what follows them is told by these totals.
pub record StandsBehind (family : Family) (text : List ℕ) (before : Option (List ℕ)) (p : Replayer) (now : Option (List ℕ)) : Type 0 where
  pub said : List (List ℕ)
  pub written : Appends before now (concat said)
  pub leads : (more : List ℕ) → length more ≤ p.reader.window.room
      → replayed family (text ++ more) ≡ with_lines said (report_of p.totals (left_of p.reader more))

-- A replay goes on: less than 16,386 bytes are kept, and more of the text may follow.
pub record GoesOn (family : Family) (text : List ℕ) (before : Option (List ℕ)) (p : Replayer) (now : Option (List ℕ)) : Type 0 where
  pub stands : StandsBehind family text before p now
  pub short : length p.reader.window.ahead < 16386
  pub more : 0 < p.reader.window.room
  pub counted : IsCounted p.totals p.reader

-- a replay has ended so, whatever may follow the text, of which there is room for so many bytes
abbrev pub EndsBehind : Family → List ℕ → ℕ → Option (List ℕ) → Option (List ℕ) → Result Totals ReplayRefusal → Type 0
EndsBehind family text room before now ended = (more : List ℕ) → length more ≤ room → Ends (replayed family (text ++ more)) before now ended

-- a replay with nothing to read from neither fails at a read nor for want of memory
abbrev pub ReadsNothing : Result Totals ReplayRefusal → Type 0
ReadsNothing (Ok totals) = ⊤
ReadsNothing (Err (Text (texts.TheVariants.Fault line why))) = ⊤
ReadsNothing (Err (Text (texts.TheVariants.ReadFault count))) = ⊥
ReadsNothing (Err (WriteFault count)) = ⊤
ReadsNothing (Err OutOfMemory) = ⊥

-- Of what was read of a text that begins with these bytes, the cases were run: by the result the replay goes on, or has ended.
abbrev pub GoesBy : Replayer → Replayer → Option (List ℕ) → Option (List ℕ) → Option (Result Totals ReplayRefusal) → Type 0
GoesBy old new out_old out_new result = (family : Family) (text : List ℕ) (before : Option (List ℕ)) → StandsBehind family text before old out_old
    → MatchOption result (GoesOn family text before new out_new) (EndsBehind family text new.reader.window.room before out_new)

-- A piece was taken in of a text that begins with these bytes: by the result the replay goes on behind it, or has ended.
abbrev pub Fed : List ℕ → Replayer → Replayer → Option (List ℕ) → Option (List ℕ) → Option (Result Totals ReplayRefusal) → Type 0
Fed piece old new out_old out_new result = (family : Family) (text : List ℕ) (before : Option (List ℕ)) → StandsBehind family text before old out_old
    → MatchOption result (GoesOn family (text ++ take old.reader.window.room piece) before new out_new)
    (EndsBehind family (text ++ take old.reader.window.room piece) new.reader.window.room before out_new)

-- the sink's count, where a replay goes on or has ended
abbrev pub HasFedCause : ℕ → ℕ → Option (Result Totals ReplayRefusal) → Type 0
HasFedCause before now None = now ≡ before
HasFedCause before now (Some ended) = HasWriteCause before now ended
