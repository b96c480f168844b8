-- What the program does, by its words and its status, and what each status rests on.
-- This project's own.
use Rattle.std.specs.Prelude.{◌≡◌, ◌≤◌, ◌<◌, ◌⊎◌, ℕ, zero, suc, List, [], ◌∷◌, length, codes, Option, Some, None}
use Rattle.std.specs.Io.KnownBytes.{Appends, Consumes}
use Rattle.rbg_bytes.specs.Streams.{Rose}
use Rattle.frame_codec.specs.Frames.{Replied, IsReplyScript}
use Rattle.rbg_talk.specs.declared.top.Command as commands
use Rattle.rbg_talk.specs.declared.top.Command.TheVariants.{Ask, Replies, Help}
use Rattle.rbg_talk.specs.declared.way.Way.{Way}
use Rattle.rbg_talk.specs.declared.way.Way.TheVariants.{Show, Bytes}
use Rattle.rbg_talk.specs.declared.status.Status as statuses
use Rattle.rbg_talk.specs.declared.status.Status.TheVariants.{Done, Usage, Line, Malformed, Cut, ReadFault, WriteFault, Refused, Memory}
use Rattle.rbg_talk.specs.Lines.{lines}
use Rattle.rbg_talk.specs.Asking.{Wrong, first_fault}
use Rattle.rbg_talk.specs.Statuses.{help_text}
use Rattle.rbg_talk.specs.Ends.{AskEnds, ReplyEnds, IsBadReplyAt, StopsIn, most_bytes, refusals}

-- what is told of the input and the output at a moment, and their counts of faults
pub record Outside : Type 0 where
  pub left : Option (List ℕ)
  pub out : Option (List ℕ)
  pub input : ℕ
  pub output : ℕ

abbrev pub outside_of : {I O : Type 0} → (I → Option (List ℕ)) → (I → ℕ) → (O → Option (List ℕ)) → (O → ℕ) → I → O → Outside
outside_of left input_faults out output_faults input output =
    record { left = left input; out = out output; input = input_faults input; output = output_faults output }

-- some bytes were taken and some text was written, as a table of ends says
abbrev pub Passes : (List ℕ → Option (List ℕ) → List ℕ → Type 0) → Outside → Outside → Type 0
Passes Ends before now =
    (taken text : List ℕ) × Consumes before.left now.left taken × Appends before.out now.out text × Ends taken now.left text

-- nothing was read, and nothing was written
pub record IsUntouched (before now : Outside) : Type 0 where
  pub left : now.left ≡ before.left
  pub out : now.out ≡ before.out

-- how the program is used was printed, or a front of it
abbrev pub HelpEnds : statuses.Status → List ℕ → Option (List ℕ) → List ℕ → Type 0
HelpEnds Done taken left text = (taken ≡ []) × (text ≡ help_text)
HelpEnds (WriteFault count) taken left text = (taken ≡ []) × StopsIn [] help_text text
HelpEnds status taken left text = ⊥

-- the word for a command
abbrev pub command_word : commands.Command → List ℕ
command_word Ask = codes "ask"
command_word (Replies Show) = codes "show"
command_word (Replies Bytes) = codes "bytes"
command_word Help = codes "--help"

abbrev pub IsCommand : List (List ℕ) → commands.Command → Type 0
IsCommand words command = words ≡ command_word command ∷ []

abbrev pub IsNoCommand : List (List ℕ) → Type 0
IsNoCommand words = (command : commands.Command) → IsCommand words command → ⊥

-- how a command ends
abbrev pub CommandEnds : commands.Command → statuses.Status → List ℕ → Option (List ℕ) → List ℕ → Type 0
CommandEnds Ask status taken left text = AskEnds status taken left text
CommandEnds (Replies way) status taken left text = ReplyEnds way status taken left text
CommandEnds Help status taken left text = HelpEnds status taken left text

-- what was done, by the words and the status
abbrev pub Ran : List (List ℕ) → Outside → Outside → statuses.Status → Type 0
Ran words before now status =
    ((command : commands.Command) × IsCommand words command × Passes (CommandEnds command status) before now)
    ⊎ (IsNoCommand words × (status ≡ Usage) × IsUntouched before now)

-- no count of faults grew
pub record IsFaultless (before now : Outside) : Type 0 where
  pub input : now.input ≡ before.input
  pub output : now.output ≡ before.output

-- A fault of the outside is answered only where its count rose in this call, with that count, and the other count didn't grow.
-- With every other status none grew.
abbrev pub HasStatusCause : Outside → Outside → statuses.Status → Type 0
HasStatusCause before now (ReadFault count) = Rose before.input now.input × (count ≡ now.input) × (now.output ≡ before.output)
HasStatusCause before now (WriteFault count) = Rose before.output now.output × (count ≡ now.output) × (now.input ≡ before.input)
HasStatusCause before now status = IsFaultless before now

-- no count of faults rose
pub record NoneRose (before now : Outside) : Type 0 where
  pub input : Rose before.input now.input → ⊥
  pub output : Rose before.output now.output → ⊥

-- the input is told to be these bytes, no more than can be read, and nothing failed
pub record CanBeServed (bytes : List ℕ) (before now : Outside) : Type 0 where
  pub told : before.left ≡ Some bytes
  pub most : length bytes ≤ most_bytes
  pub none : NoneRose before now

-- the status for the first faulty line, if there is one
abbrev pub ask_status : Option Wrong → statuses.Status
ask_status None = Done
ask_status (Some wrong) = Line wrong.number wrong.fault

-- the status for so many refusals
abbrev pub tell_status : ℕ → statuses.Status
tell_status zero = Done
tell_status (suc n) = Refused (suc n)

-- the status is this one, unless memory was lacking
abbrev pub IsUnlessMemory : statuses.Status → statuses.Status → Type 0
IsUnlessMemory status this = (status ≡ this) ⊎ (status ≡ Memory)

-- Where nothing failed and memory is not lacking, an input is served to its end, or to its first fault: each command ends with the
-- status that its input has.
pub record IsComplete (words : List (List ℕ)) (before now : Outside) (status : statuses.Status) : Type 0 where
  pub asked : (bytes : List ℕ) → CanBeServed bytes before now → IsCommand words Ask → IsUnlessMemory status (ask_status (first_fault 1 (lines bytes)))
  pub told : (way : Way) (bytes : List ℕ) (ps : List Replied) → CanBeServed bytes before now → IsCommand words (Replies way) → IsReplyScript bytes ps [] →
      IsUnlessMemory status (tell_status (refusals ps))
  pub cut : (way : Way) (bytes : List ℕ) (ps : List Replied) (rest : List ℕ) → CanBeServed bytes before now → IsCommand words (Replies way) →
      IsReplyScript bytes ps rest → 0 < length rest → IsUnlessMemory status (Cut (length bytes))
  pub bad : (way : Way) (bytes : List ℕ) (ps : List Replied) (offset why : ℕ) → CanBeServed bytes before now → IsCommand words (Replies way) →
      IsBadReplyAt bytes ps offset why → IsUnlessMemory status (Malformed offset why)
  pub help : NoneRose before now → IsCommand words Help → status ≡ Done
