-- The tables of ends: what was taken, left and written, by the status.
-- This project's own.
use Rattle.std.specs.Prelude.{◌≡◌, ◌<◌, ◌⊎◌, ℕ, ◌+◌, ◌-◌, ◌^◌, Bool, true, false, List, [], ◌∷◌, ◌++◌, length, take, nat_eq, if◌then◌else◌, count_by, flat_map, Option, Some, None}
use Rattle.std.specs.Io.KnownBytes.{IsAtEnd}
use Rattle.frame_codec.specs.Rows.{why_at}
use Rattle.frame_codec.specs.Frames.{Asked, Replied, IsReplyScript, reply_fields}
use Rattle.rbg_talk.specs.declared.grammar.Fault.{Fault}
use Rattle.rbg_talk.specs.declared.way.Way.{Way}
use Rattle.rbg_talk.specs.declared.status.Status.{Status}
use Rattle.rbg_talk.specs.declared.status.Status.TheVariants.{Done, Line, Malformed, Cut, ReadFault, WriteFault, Refused, Memory, Quota}
use Rattle.rbg_talk.specs.Lines.{lines}
use Rattle.rbg_talk.specs.Asking.{calls, first_fault, frame_behind, frames}
use Rattle.rbg_talk.specs.Shown.{written}

-- so many bytes are read at most, but for the last read
abbrev pub most_bytes : ℕ
most_bytes = 2 ^ 62 - 65536

-- the text is whole pieces and a front of the last
abbrev pub StopsIn : List ℕ → List ℕ → List ℕ → Type 0
StopsIn whole last text = (front back : List ℕ) × (last ≡ front ++ back) × (text ≡ whole ++ front)

-- line `number` is the first faulty one, with this fault: of what was taken, where nothing follows, or whatever follows
abbrev pub IsFirstFault : List ℕ → Option (List ℕ) → ℕ → Fault → Type 0
IsFirstFault taken left number fault =
    (IsAtEnd left × (first_fault 1 (lines taken) ≡ Some (record { number = number; fault = fault })))
    ⊎ ((more : List ℕ) → first_fault 1 (lines (taken ++ more)) ≡ Some (record { number = number; fault = fault }))

-- each line that has its line feed is without a fault, and the frames of these lines' calls were written
abbrev pub StopsBehindLines : List ℕ → List ℕ → Type 0
StopsBehindLines taken text =
    (ended : List (List ℕ)) × (last : List ℕ) × (lines taken ≡ ended ++ last ∷ []) × (first_fault 1 ended ≡ None) × (text ≡ frames (calls ended))

-- how `ask` ends
abbrev pub AskEnds : Status → List ℕ → Option (List ℕ) → List ℕ → Type 0
AskEnds Done taken left text = IsAtEnd left × (first_fault 1 (lines taken) ≡ None) × (text ≡ frames (calls (lines taken)))
AskEnds (Line number fault) taken left text = IsFirstFault taken left number fault × (text ≡ frames (calls (lines taken)))
AskEnds (ReadFault count) taken left text = StopsBehindLines taken text
AskEnds (WriteFault count) taken left text =
    (before later : List Asked) × (a : Asked) × (calls (lines taken) ≡ before ++ a ∷ later) × StopsIn (frames before) (frame_behind (length before) a) text
AskEnds Memory taken left text = (taken ≡ []) × (text ≡ [])
AskEnds (Quota bytes) taken left text = StopsBehindLines taken text × (most_bytes < length taken) × (bytes ≡ 2 ^ 62)
AskEnds status taken left text = ⊥

-- a reply that isn't Done
abbrev pub is_refusal : Replied → Bool
is_refusal p = if nat_eq p.head.code 0 then false else true

abbrev pub refusals : List Replied → ℕ
refusals ps = count_by is_refusal ps

-- the byte of b at the offset is the first that no replies go on with, and these are the replies before it
pub record IsBadReplyAt (b : List ℕ) (ps : List Replied) (offset why : ℕ) : Type 0 where
  pub within : offset < length b
  pub rest : List ℕ
  pub before : IsReplyScript (take offset b) ps rest
  pub bad : (others : List Replied) (rest' : List ℕ) → IsReplyScript (take (offset + 1) b) others rest' → ⊥
  pub number : why ≡ why_at reply_fields (length rest)

-- b begins with the frames of these replies
abbrev pub BeginsWithReplies : List ℕ → List Replied → Type 0
BeginsWithReplies b ps = (n : ℕ) × IsReplyScript (take n b) ps []

-- what is written for replies, in order
abbrev pub all_written : Way → List Replied → List ℕ
all_written way ps = flat_map (written way) ps

-- how `show` and `bytes` end
abbrev pub ReplyEnds : Way → Status → List ℕ → Option (List ℕ) → List ℕ → Type 0
ReplyEnds way Done taken left text =
    (ps : List Replied) × IsReplyScript taken ps [] × IsAtEnd left × (refusals ps ≡ 0) × (text ≡ all_written way ps)
ReplyEnds way (Refused count) taken left text =
    (ps : List Replied) × IsReplyScript taken ps [] × IsAtEnd left × (0 < count) × (refusals ps ≡ count) × (text ≡ all_written way ps)
ReplyEnds way (Malformed offset why) taken left text = (ps : List Replied) × IsBadReplyAt taken ps offset why × (text ≡ all_written way ps)
ReplyEnds way (Cut offset) taken left text =
    (ps : List Replied) × (rest : List ℕ) × IsReplyScript taken ps rest × (0 < length rest) × IsAtEnd left × (offset ≡ length taken)
    × (text ≡ all_written way ps)
ReplyEnds way (ReadFault count) taken left text =
    (ps : List Replied) × (rest : List ℕ) × IsReplyScript taken ps rest × (text ≡ all_written way ps)
ReplyEnds way (WriteFault count) taken left text =
    (before : List Replied) × (p : Replied) × BeginsWithReplies taken (before ++ p ∷ []) × StopsIn (all_written way before) (written way p) text
ReplyEnds way Memory taken left text = (taken ≡ []) × (text ≡ [])
ReplyEnds way (Quota bytes) taken left text =
    (ps : List Replied) × (rest : List ℕ) × IsReplyScript taken ps rest × (text ≡ all_written way ps) × (most_bytes < length taken) × (bytes ≡ 2 ^ 62)
ReplyEnds way status taken left text = ⊥
