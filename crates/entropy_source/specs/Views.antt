-- What contracts see of a source, its state, and what a start and a draw do to it.
-- This project's own.
use Rattle.std.specs.Prelude.{◌≡◌, ◌≤◌, ◌-◌, ◌^◌, ℕ, List, [], ◌∷◌, length, take, Option, Some, None, IsSome, Result, Ok, Err, MatchResult}
use Rattle.health_tests.specs.declared.numbers.Tail.{Tail}
use Rattle.health_tests.specs.Cutoffs.{AreSound}
use Rattle.health_tests.specs.Windows.{alarm_in}
use Rattle.health_tests.specs.Numbers.{alarm_from}
use Rattle.entropy_source.specs.Source.{SourceAct, SourceState, source_after_all, need_of_block}
use Rattle.entropy_source.specs.Draws.{Drawn, Start, found_in}
use Rattle.entropy_source.specs.Counted.{samples_of, lacking_after}
use Rattle.entropy_source.specs.Outcomes.{Outcome}
use Rattle.entropy_source.specs.Reads.{LeadBy}
use Rattle.entropy_source.specs.declared.answers.SourceRow.{SourceRow}
use Rattle.entropy_source.specs.declared.answers.SourceMode.{SourceMode}
use Rattle.entropy_source.specs.declared.answers.SourceMode.TheVariants.{Idle, Running, Alarmed}
use Rattle.entropy_source.specs.declared.answers.SourceRefusal.{SourceRefusal}
use Rattle.entropy_source.specs.declared.answers.Cause.{Cause}
use Rattle.entropy_source.specs.declared.answers.Cause.TheVariants.{NotStarted, Alarm}
use Rattle.entropy_source.specs.declared.answers.Range.{Range}

-- a source: what is set of it, its numbers, its mode, what its tests keep, and its samples
pub record SourceView (S : Type 0) : Type 0 where
  pub row : SourceRow
  pub taken : ℕ
  pub blocks : ℕ
  pub alarms : ℕ
  pub mode : SourceMode
  pub tail : Option Tail
  pub samples : S

-- the state of a source: its numbers, the samples to come where they are told, and how often they failed
abbrev pub source_state : {S : Type 0} → (S → Option (List ℕ)) → (S → ℕ) → SourceView S → SourceState
source_state told faults v = record {
  taken = v.taken;
  blocks = v.blocks;
  alarms = v.alarms;
  mode = v.mode;
  tail = v.tail;
  told = told v.samples;
  faults = faults v.samples;
}

-- a source as it is opened over these samples
abbrev pub opened_view : {S : Type 0} → SourceRow → Tail → S → SourceView S
opened_view row tail samples =
    record { row = row; taken = 0; blocks = 0; alarms = 0; mode = Idle; tail = Some tail; samples = samples }

-- what the tests keep counts until they alarm
abbrev pub kept_tail : SourceMode → Tail → Option Tail
kept_tail Idle t = Some t
kept_tail Running t = Some t
kept_tail (Alarmed index test) t = None

-- what is set of a source is in range
pub record IsSound (row : SourceRow) : Type 0 where
  pub num_low : 1 ≤ row.num
  pub num_high : row.num ≤ 8000
  pub den_low : 1 ≤ row.den
  pub den_high : row.den ≤ 1000
  pub cutoffs : AreSound row.cutoffs
  pub startup_low : 1 ≤ row.startup
  pub startup_high : row.startup ≤ 65536

-- the tests keep something as long as they have not alarmed
abbrev pub HasTail : SourceMode → Option Tail → Type 0
HasTail Idle tail = IsSome tail
HasTail Running tail = IsSome tail
HasTail (Alarmed index test) tail = tail ≡ None

-- what is true of every source
pub record IsSource {S : Type 0} (v : SourceView S) : Type 0 where
  pub row : IsSound v.row
  pub taken : v.taken ≤ 2 ^ 60
  pub blocks : v.blocks ≤ v.taken
  pub alarms : v.alarms ≤ v.taken
  pub tail : HasTail v.mode v.tail

-- why a source that isn't running is in error
abbrev pub error_of : SourceMode → Option Cause
error_of Idle = Some NotStarted
error_of Running = None
error_of (Alarmed index test) = Some (Alarm index test)

-- the answer to a start, which gives no bytes
abbrev pub without_bytes : {T : Type 0} → Result T SourceRefusal → Result (List ℕ) SourceRefusal
without_bytes (Ok done) = Ok []
without_bytes (Err why) = Err why

-- A start that isn't refused before the first sample: some acts are a start with this result, the state is the one after them,
-- and their reads are those that were made.
pub record HasStarted {S T : Type 0} (told : S → Option (List ℕ)) (faults : S → ℕ) (reads : S → ℕ → Option (List ℕ) → S → Type 0)
    (result : Result T SourceRefusal) (old new : SourceView S) : Type 0 where
  pub acts : List SourceAct
  pub start : Start old.row (source_state told faults old) acts (without_bytes result)
  pub state : source_state told faults new ≡ source_after_all old.row (source_state told faults old) acts
  -- one read after another, from the samples before the start to those after it
  pub made : LeadBy reads faults old.samples acts new.samples
  -- HealthFailed comes exactly where there is an alarm among the samples read now, at the first one; WantOfEntropy exactly where
  -- a read gave none, with what the start-up still lacked; SourceFault exactly where a read failed
  pub outcome : Outcome old.taken (alarm_in old.row.cutoffs [] (samples_of acts)) (old.row.startup - length (samples_of acts)) acts (without_bytes result)

-- the answer to a draw of n bytes, from one count of samples taken to another, by the bytes of its blocks
abbrev pub AnswersDraw : ℕ → ℕ → ℕ → List ℕ → Result (List ℕ) SourceRefusal → Result Range SourceRefusal → Type 0
AnswersDraw from to n out bytes result =
    MatchResult bytes (λ all. (result ≡ Ok (record { from = from; to = to })) × (out ≡ take n all)) (λ why. result ≡ Err why)

-- A draw of n bytes that isn't refused before the first sample: some acts are a draw, with alarms told by what the tests keep of
-- the samples before, the state is the one after them, and their reads are those that were made.
pub record HasDrawn {S : Type 0} (told : S → Option (List ℕ)) (faults : S → ℕ) (reads : S → ℕ → Option (List ℕ) → S → Type 0)
    (n : ℕ) (out : List ℕ) (result : Result Range SourceRefusal) (old new : SourceView S) : Type 0 where
  pub acts : List SourceAct
  pub bytes : Result (List ℕ) SourceRefusal
  pub draw : Drawn old.row (found_in old.row.cutoffs old.tail) (source_state told faults old) (n ∷ []) acts bytes
  pub state : source_state told faults new ≡ source_after_all old.row (source_state told faults old) acts
  -- one read after another, from the samples before the draw to those after it
  pub made : LeadBy reads faults old.samples acts new.samples
  pub answer : AnswersDraw old.taken new.taken n out bytes result
  -- which refusal comes, as of a start; the first alarm is told by what the tests kept of the samples before, and what is missing
  -- is what the present block still lacked
  pub outcome : (t : Tail) → old.tail ≡ Some t → Outcome old.taken (alarm_from old.row.cutoffs t (samples_of acts))
      (lacking_after (need_of_block old.row) (need_of_block old.row) acts) acts bytes
