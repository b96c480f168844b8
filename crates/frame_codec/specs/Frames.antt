-- The frames of version 1: the rows of requests and of replies, scripts of requests and the first bad byte.
-- This project's own protocol.
use Rattle.std.specs.Prelude.{◌≡◌, ◌<◌, ℕ, ◌+◌, List, [], ◌∷◌, length, take, slice_index, if◌then◌else◌, nat_eq, nat_lt, ◌||◌}
use Rattle.frame_codec.specs.declared.table.Span.{Span}
use Rattle.frame_codec.specs.declared.frames.Request.{Request}
use Rattle.frame_codec.specs.declared.frames.ReplyHead.{ReplyHead}
use Rattle.frame_codec.specs.Rows.{Field, Takes, why_at}
use Rattle.frame_codec.specs.Grammar.{Grammar, Framed, IsFrameOf, IsFramePart, BeginsNoFrame, IsScriptOf}

abbrev pub from_to : ℕ → ℕ → List Span
from_to low high = record { low = low; high = high } ∷ []

abbrev pub zero_only : List Span
zero_only = from_to 0 0

abbrev pub field : ℕ → ℕ → (List ℕ → List Span) → Field
field width why spans = record { width = width; why = why; spans = spans }

abbrev pub op_of : List ℕ → ℕ
op_of before = slice_index before 1

-- bit 0, which asks for prediction resistance, in a Generate and a Reseed
abbrev pub flags_of : ℕ → List Span
flags_of op = if nat_eq op 2 || nat_eq op 3 then from_to 0 1 else zero_only

-- how many bytes are asked, in a Generate
abbrev pub counts_of : ℕ → List Span
counts_of op = if nat_eq op 2 then from_to 0 0xffffffff else zero_only

-- the strength that is asked, in an Instantiate and a Generate
abbrev pub strengths_of : ℕ → List Span
strengths_of op = if nat_eq op 1 || nat_eq op 2 then from_to 0 0xffff else zero_only

-- how long the string is: up to 4,096 bytes in an Instantiate, a Generate and a Reseed
abbrev pub lens_of : ℕ → List Span
lens_of op = if nat_lt op 4 then from_to 0 4096 else zero_only

-- The fields of a request, in their order: version, op, flags, node, id, count, strength, length of the string. No byte of a node or
-- an id is bad.
abbrev pub request_fields : List Field
request_fields =
    field 1 1 (λ (before : List ℕ). from_to 1 1)
    ∷ field 1 2 (λ (before : List ℕ). from_to 1 6)
    ∷ field 1 3 (λ (before : List ℕ). flags_of (op_of before))
    ∷ field 1 0 (λ (before : List ℕ). from_to 0 0xff)
    ∷ field 4 0 (λ (before : List ℕ). from_to 0 0xffffffff)
    ∷ field 4 4 (λ (before : List ℕ). counts_of (op_of before))
    ∷ field 2 5 (λ (before : List ℕ). strengths_of (op_of before))
    ∷ field 2 6 (λ (before : List ℕ). lens_of (op_of before))
    ∷ []

-- the numbers of the fields
abbrev pub request_numbers : Request → List ℕ
request_numbers r = 1 ∷ r.op ∷ r.flags ∷ r.node ∷ r.id ∷ r.count ∷ r.strength ∷ r.len ∷ []

abbrev pub request_of : List ℕ → Request
request_of ns = record {
  op = slice_index ns 1;
  flags = slice_index ns 2;
  node = slice_index ns 3;
  id = slice_index ns 4;
  count = slice_index ns 5;
  strength = slice_index ns 6;
  len = slice_index ns 7;
}

abbrev pub requests : Grammar Request
requests = record { fields = request_fields; numbers = request_numbers; head = request_of; len = λ (r : Request). r.len }

-- the head is one that requests may have
abbrev pub IsRequestHead : Request → Type 0
IsRequestHead r = Takes request_fields [] (request_numbers r)

-- a request with its string
abbrev pub Asked : Type 0
Asked = Framed Request

-- b is the frame of the request with its string
abbrev pub IsFrame : List ℕ → Asked → Type 0
IsFrame b a = IsFrameOf requests b a

-- b is a proper prefix of some request frame, perhaps empty
abbrev pub IsPart : List ℕ → Type 0
IsPart b = IsFramePart requests b

-- no request frame begins with b
abbrev pub BeginsNone : List ℕ → Type 0
BeginsNone b = BeginsNoFrame requests b

-- b is the frames of these requests in a row and then a part of a frame
abbrev pub IsScript : List ℕ → List Asked → List ℕ → Type 0
IsScript b rs rest = IsScriptOf requests b rs rest

-- b begins with the frames of these requests
abbrev pub BeginsWith : List ℕ → List Asked → Type 0
BeginsWith b rs = (n : ℕ) × IsScript (take n b) rs []

-- the byte of b at the offset is the first that no script goes on with, and these are the requests before it
pub record IsBadAt (b : List ℕ) (rs : List Asked) (offset why : ℕ) : Type 0 where
  pub within : offset < length b
  pub rest : List ℕ
  pub before : IsScript (take offset b) rs rest
  pub bad : (others : List Asked) (rest' : List ℕ) → IsScript (take (offset + 1) b) others rest' → ⊥
  pub number : why ≡ why_at request_fields (length rest)

abbrev pub code_of : List ℕ → ℕ
code_of before = slice_index before 1

abbrev pub replied_op : List ℕ → ℕ
replied_op before = slice_index before 2

-- the codes of replies: Done, the refusals, and Malformed
abbrev pub codes_served : List Span
codes_served =
    record { low = 0; high = 8 } ∷ record { low = 10; high = 14 } ∷ record { low = 255; high = 255 } ∷ []

-- zero in a Malformed reply
abbrev pub unless_malformed : ℕ → List Span → List Span
unless_malformed code spans = if nat_eq code 255 then zero_only else spans

-- zero in a Done reply
abbrev pub unless_done : ℕ → List Span → List Span
unless_done code spans = if nat_eq code 0 then zero_only else spans

-- how long a payload may be: up to 65,536 bytes of a Generate, 25 of a Status, and none otherwise
abbrev pub payloads : ℕ → ℕ → List Span
payloads code op =
    if nat_eq code 0 then (if nat_eq op 2 then from_to 0 65536 else if nat_eq op 6 then from_to 25 25 else zero_only) else zero_only

-- The fields of a reply, in their order: version, code, op, node, id, a, b, length of the payload.
abbrev pub reply_fields : List Field
reply_fields =
    field 1 1 (λ (before : List ℕ). from_to 1 1)
    ∷ field 1 8 (λ (before : List ℕ). codes_served)
    ∷ field 1 2 (λ (before : List ℕ). unless_malformed (code_of before) (from_to 1 6))
    ∷ field 1 4 (λ (before : List ℕ). unless_malformed (code_of before) (from_to 0 0xff))
    ∷ field 4 5 (λ (before : List ℕ). unless_malformed (code_of before) (from_to 0 0xffffffff))
    ∷ field 8 7 (λ (before : List ℕ). unless_done (code_of before) (from_to 0 0xffffffffffffffff))
    ∷ field 8 7 (λ (before : List ℕ). unless_done (code_of before) (from_to 0 0xffffffffffffffff))
    ∷ field 4 6 (λ (before : List ℕ). payloads (code_of before) (replied_op before))
    ∷ []

abbrev pub reply_numbers : ReplyHead → List ℕ
reply_numbers h = 1 ∷ h.code ∷ h.op ∷ h.node ∷ h.id ∷ h.a ∷ h.b ∷ h.len ∷ []

abbrev pub reply_of : List ℕ → ReplyHead
reply_of ns = record {
  code = slice_index ns 1;
  op = slice_index ns 2;
  node = slice_index ns 3;
  id = slice_index ns 4;
  a = slice_index ns 5;
  b = slice_index ns 6;
  len = slice_index ns 7;
}

abbrev pub replies : Grammar ReplyHead
replies = record { fields = reply_fields; numbers = reply_numbers; head = reply_of; len = λ (h : ReplyHead). h.len }

-- the head is one that replies may have
abbrev pub IsReplyHead : ReplyHead → Type 0
IsReplyHead h = Takes reply_fields [] (reply_numbers h)

-- a reply head with its payload
abbrev pub Replied : Type 0
Replied = Framed ReplyHead

-- b is the reply frame of the head with its payload
abbrev pub IsReply : List ℕ → Replied → Type 0
IsReply b a = IsFrameOf replies b a

-- b is reply frames in a row and then a part of one
abbrev pub IsReplyScript : List ℕ → List Replied → List ℕ → Type 0
IsReplyScript b ps rest = IsScriptOf replies b ps rest
