-- One session of one caller over a source and a sink: what stands between two frames, and what stands at its end.
-- This project's own.
use Rattle.std.specs.Prelude.{◌≡◌, ◌<◌, ◌≤◌, ℕ, ◌+◌, ◌^◌, List, [], ◌∷◌, ◌++◌, length, take, Result}
use Rattle.std.specs.declared.option.Option.{Option}
use Rattle.std.specs.declared.result.Result.TheVariants.{Ok, Err}
use Rattle.std.specs.List.{AllByRecursion}
use Rattle.std.specs.Io.KnownBytes.{Appends, Consumes}
use Rattle.rbg_bytes.specs.Streams.{Rose, TakesAll}
use Rattle.frame_codec.specs.Grammar.{text_of}
use Rattle.frame_codec.specs.Frames.{Asked, replies}
use Rattle.frame_codec.specs.Decoding.{Begun, Reads}
use Rattle.tree_rules.specs.History.{Entry, Opening, acts_of}
use Rattle.tree_rules.specs.Openings.{IsHistory}
use Rattle.tree_core.specs.Made.{AreReads, samples_in}
use Rattle.tree_core.specs.Solo.{SoloView, StandAfter}
use Rattle.session_core.specs.Answers.{Answered, IsAsked, AreRight, asked_of, entries_of, reply_to, service}
use Rattle.session_core.specs.Ends.{Ends, written}
use Rattle.session_core.specs.Inbox.{Waiting}
use Rattle.session_core.specs.declared.end.End.{End}
use Rattle.session_core.specs.declared.end.End.TheVariants.{Bad, ReadFault, WriteFault, Quota}

-- The entries of a session's requests are right behind those of h, over samples of the sources, the tree stands after them, and there was
-- one call for each. The reads among all their acts are exactly those that were made, from these samples to the tree's.
pub record AreMade {S : Type 0} (told : S → Option (List ℕ)) (faults : S → ℕ) (reads : S → ℕ → Option (List ℕ) → S → Type 0) (f : Opening) (o h : List Entry) (samples : List S) (calls : ℕ)
    (t : SoloView S) (es : List Answered) : Type 0 where
  pub right : AreRight 1 f o h es
  pub stand : StandAfter told faults f o (h ++ entries_of es) t.nodes t.sources
  pub calls_are : t.calls ≡ calls + length es
  pub made : AreReads reads faults f.plan samples (samples_in t.sources) (acts_of (entries_of es))

-- a whole session, with entries that are Right: some bytes were taken and some text was written, as the table of ends says
abbrev pub IsHeld : (List Answered → Type 0) → ℕ → End → Option (List ℕ) → Option (List ℕ) → Option (List ℕ) → Option (List ℕ) → Type 0
IsHeld Right max end left_before left_now out_before out_now =
    (taken text : List ℕ) × Consumes left_before left_now taken × Appends out_before out_now text × Ends service Right max end taken left_now text

-- the sink's count rose where a write failed, and is as it was otherwise
abbrev pub HasWriteCause : ℕ → ℕ → End → Type 0
HasWriteCause before now (WriteFault count) = Rose before now × (count ≡ now)
HasWriteCause before now end = now ≡ before

-- the source's count rose where a read failed, and is as it was otherwise
abbrev pub HasReadCause : ℕ → ℕ → End → Type 0
HasReadCause before now (ReadFault count) = Rose before now × (count ≡ now)
HasReadCause before now end = now ≡ before

-- a session between two bytes of its input: what its decoder has, how many frames were answered, the most of them, and the tree
pub record Moment (S : Type 0) : Type 0 where
  pub decoder : Begun
  pub frames : ℕ
  pub max_frames : ℕ
  pub tree : SoloView S

abbrev pub moment : {S : Type 0} → Waiting → ℕ → SoloView S → Moment S
moment w frames t = record { decoder = w.decoder; frames = frames; max_frames = w.max_frames; tree = t }

-- what a session begins with: what its tree stands after, its samples and the calls made then, the most frames, and what the sink tells
pub record Began (S : Type 0) : Type 0 where
  pub f : Opening
  pub o : List Entry
  pub h : List Entry
  pub samples : List S
  pub calls : ℕ
  pub max : ℕ
  pub out : Option (List ℕ)

-- what each step keeps, so that the next request can be answered: some bytes were taken, and each frame among them had one call
pub record IsReady {S : Type 0} (p : Moment S) : Type 0 where
  pub taken : List ℕ
  pub rs : List Asked
  pub reads : Reads taken rs p.decoder
  pub frames : p.frames ≡ length rs
  pub fewer : p.frames < p.max_frames
  pub calls : p.tree.calls + p.max_frames ≤ 2 ^ 40 + p.frames
  pub bound : p.max_frames ≤ 2 ^ 40

-- These bytes were taken so far, they are the frames of the requests of es and a part of the next, the entries of es are right and the
-- tree stands after them, by the reads among their acts, and what is written is their replies.
pub record Stands {S : Type 0} (told : S → Option (List ℕ)) (faults : S → ℕ) (leads : S → ℕ → Option (List ℕ) → S → Type 0) (b : Began S)
    (taken : List ℕ) (es : List Answered) (p : Moment S) (out : Option (List ℕ)) : Type 0 where
  pub reads : Reads taken (asked_of es) p.decoder
  pub asked : AllByRecursion (IsAsked 1) es
  pub history : IsHistory b.f b.o (b.h ++ entries_of es)
  pub frames : p.frames ≡ length es
  pub calls : p.tree.calls ≡ b.calls + length es
  pub max : p.max_frames ≡ b.max
  pub plan : b.f.plan ≡ p.tree.plan
  pub stand : StandAfter told faults b.f b.o (b.h ++ entries_of es) p.tree.nodes p.tree.sources
  pub count : length b.samples ≡ length b.f.plan.sources
  pub made : AreReads leads faults b.f.plan b.samples (samples_in p.tree.sources) (acts_of (entries_of es))
  pub text : Appends b.out out (written service es)

-- a request was answered behind the entries h, over samples of the sources: its entry is right there, the tree stands after it, and the
-- reads of its entry are those that were made
pub record IsAnswered {S : Type 0} (told : S → Option (List ℕ)) (faults : S → ℕ) (reads : S → ℕ → Option (List ℕ) → S → Type 0) (f : Opening) (o h : List Entry)
    (samples : List S) (asked : Asked) (t : SoloView S) : Type 0 where
  pub entry : Entry
  pub is : IsAsked 1 (record { asked = asked; entry = entry })
  pub history : IsHistory f o (h ++ entry ∷ [])
  pub stand : StandAfter told faults f o (h ++ entry ∷ []) t.nodes t.sources
  pub made : AreReads reads faults f.plan samples (samples_in t.sources) entry.acts

-- its reply frame was written, or a front of it where that failed
abbrev pub WritesReply : {S T E : Type 0} → (S → Option (List ℕ)) → (S → ℕ) → (S → ℕ → Option (List ℕ) → S → Type 0) → Opening → List Entry → List Entry → List S → Asked → SoloView S → Option (List ℕ) → Option (List ℕ) → Result T E → Type 0
WritesReply told faults reads f o h samples asked t before now result =
    (a : IsAnswered told faults reads f o h samples asked t) × TakesAll before now result (text_of replies (reply_to asked.head a.entry))

-- the session has ended by a row of the table, whatever bytes follow those taken
abbrev pub Stops : {S : Type 0} → (S → Option (List ℕ)) → (S → ℕ) → (S → ℕ → Option (List ℕ) → S → Type 0) → Began S → List ℕ → SoloView S → Option (List ℕ) → End → Type 0
Stops told faults reads b taken t out end =
    (text : List ℕ) × Appends b.out out text
    × ((more : List ℕ) (left : Option (List ℕ)) → Ends service (AreMade told faults reads b.f b.o b.h b.samples b.calls t) b.max end (taken ++ more) left text)

-- after bytes of a piece the session stands so, or it has ended
abbrev pub GoesOn : {S : Type 0} → (S → Option (List ℕ)) → (S → ℕ) → (S → ℕ → Option (List ℕ) → S → Type 0) → Began S → List ℕ → List ℕ → Moment S → Option (List ℕ) → Result ℕ End → Type 0
GoesOn told faults reads b taken bytes p out (Ok count) = (es : List Answered) × Stands told faults reads b (taken ++ take count bytes) es p out
GoesOn told faults reads b taken bytes p out (Err end) = Stops told faults reads b (taken ++ bytes) p.tree out end

-- after all bytes of a piece the session stands so, or it has ended
abbrev pub PassesOver : {S T : Type 0} → (S → Option (List ℕ)) → (S → ℕ) → (S → ℕ → Option (List ℕ) → S → Type 0) → Began S → List ℕ → Moment S → Option (List ℕ) → Result T End → Type 0
PassesOver told faults reads b taken p out (Ok done) = (es : List Answered) × Stands told faults reads b taken es p out
PassesOver told faults reads b taken p out (Err end) = Stops told faults reads b taken p.tree out end

-- the sink's count is as it was where bytes were taken, and has its cause at an end
abbrev pub HasPieceCause : {T : Type 0} → ℕ → ℕ → Result T End → Type 0
HasPieceCause before now (Ok done) = now ≡ before
HasPieceCause before now (Err end) = HasWriteCause before now end

-- an end that a piece of bytes can bring
abbrev pub IsPieceEnd : End → Type 0
IsPieceEnd (Bad offset why) = Unit {0}
IsPieceEnd (WriteFault count) = Unit {0}
IsPieceEnd (Quota frames) = Unit {0}
IsPieceEnd end = ⊥
