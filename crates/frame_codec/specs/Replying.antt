-- What the decoder of replies has read, and what a byte more makes of it.
-- This project's own.
use Rattle.std.specs.Prelude.{◌≡◌, ◌<◌, ◌⊎◌, ℕ, ◌+◌, List, [], ◌∷◌, ◌++◌, length}
use Rattle.frame_codec.specs.declared.frames.ReplyHead.{ReplyHead}
use Rattle.frame_codec.specs.declared.table.Table.TheVariants.{Replies}
use Rattle.frame_codec.specs.declared.head.Head as heads
use Rattle.frame_codec.specs.declared.reply_decoder.ReplyStep.{ReplyStep}
use Rattle.frame_codec.specs.declared.reply_decoder.ReplyStep.TheVariants.{More, Head, Payload, Bad}
use Rattle.frame_codec.specs.Rows.{spelled, why_at, IsHeadPart, BeginsNoHead}
use Rattle.frame_codec.specs.Frames.{reply_fields, reply_numbers, Replied, IsReplyHead, IsReplyScript}
use Rattle.frame_codec.specs.Heads.{bytes_of, IsBegun}

-- the bytes of the head that is begun, how many bytes of the payload are still to come, and the number of bytes pushed
pub record Replying : Type 0 where
  pub rest : List ℕ
  pub left : ℕ
  pub offset : ℕ

-- a head of a reply that is begun, of which there are no bytes while a payload is taken
pub record IsReplying (h : heads.Head) (left : ℕ) : Type 0 where
  pub table : h.table ≡ Replies
  pub head : IsBegun h
  pub none : 0 < left → bytes_of h ≡ []

-- the bytes b are a part of a head
pub record StaysInHead (b : List ℕ) (new : Replying) : Type 0 where
  pub part : IsHeadPart reply_fields b
  pub rest : new.rest ≡ b
  pub left : new.left ≡ 0

-- the bytes b are the head h, and its payload comes next
pub record EndsHead (b : List ℕ) (h : ReplyHead) (new : Replying) : Type 0 where
  pub served : IsReplyHead h
  pub bytes : b ≡ spelled reply_fields (reply_numbers h)
  pub rest : new.rest ≡ []
  pub left : new.left ≡ h.len

-- the byte is the next of a payload
pub record TakesPayload (old : Replying) (byte x : ℕ) (new : Replying) : Type 0 where
  pub same : x ≡ byte
  pub rest : new.rest ≡ []
  pub left : old.left ≡ new.left + 1

-- the bytes b are a part of a head, and no head begins with them and the byte after them, which is not kept
pub record LeavesHeads (b longer : List ℕ) (why : ℕ) (new : Replying) : Type 0 where
  pub part : IsHeadPart reply_fields b
  pub none : BeginsNoHead reply_fields longer
  pub number : why ≡ why_at reply_fields (length b)
  pub rest : new.rest ≡ b
  pub left : new.left ≡ 0

-- what one byte is: a byte of a head, or of a payload
abbrev pub ReplySteps : Replying → ℕ → ReplyStep → Replying → Type 0
ReplySteps old byte More new = (old.left ≡ 0) × StaysInHead (old.rest ++ byte ∷ []) new
ReplySteps old byte (Head h) new = (old.left ≡ 0) × EndsHead (old.rest ++ byte ∷ []) h new
ReplySteps old byte (Payload x) new = TakesPayload old byte x new
ReplySteps old byte (Bad at why) new = (old.left ≡ 0) × (at ≡ old.offset) × LeavesHeads old.rest (old.rest ++ byte ∷ []) why new

-- the decoder has the rest; or the rest is a head and a front of its payload, of which so many bytes are to come
abbrev pub Holds : List ℕ → Replying → Type 0
Holds rest d =
    ((d.left ≡ 0) × (rest ≡ d.rest))
    ⊎ ((h : ReplyHead) × (front : List ℕ) × (0 < d.left) × (d.rest ≡ []) × IsReplyHead h
    × (rest ≡ spelled reply_fields (reply_numbers h) ++ front) × (length front + d.left ≡ h.len))

-- the bytes b, all that were pushed, are reply frames and a part of the next
pub record ReplyReads (b : List ℕ) (ps : List Replied) (rest : List ℕ) (d : Replying) : Type 0 where
  pub script : IsReplyScript b ps rest
  pub holds : Holds rest d
  pub offset : d.offset ≡ length b

-- what a decoder that has read b has read after a byte more: a part of a frame, a whole one, or a byte with which no replies go on
abbrev pub ReplyReadsOn : List ℕ → List Replied → List ℕ → ℕ → ReplyStep → Replying → Type 0
ReplyReadsOn b ps rest byte More new = ReplyReads (b ++ byte ∷ []) ps (rest ++ byte ∷ []) new
ReplyReadsOn b ps rest byte (Head h) new =
    (rest ++ byte ∷ [] ≡ spelled reply_fields (reply_numbers h))
    × (((0 < h.len) × ReplyReads (b ++ byte ∷ []) ps (rest ++ byte ∷ []) new)
    ⊎ ((h.len ≡ 0) × ReplyReads (b ++ byte ∷ []) (ps ++ record { head = h; string = [] } ∷ []) [] new))
ReplyReadsOn b ps rest byte (Payload x) new =
    (x ≡ byte)
    × (((0 < new.left) × ReplyReads (b ++ byte ∷ []) ps (rest ++ byte ∷ []) new)
    ⊎ ((h : ReplyHead) × (front : List ℕ) × (rest ≡ spelled reply_fields (reply_numbers h) ++ front)
    × ReplyReads (b ++ byte ∷ []) (ps ++ record { head = h; string = front ++ byte ∷ [] } ∷ []) [] new))
ReplyReadsOn b ps rest byte (Bad at why) new =
    ((others : List Replied) (rest' : List ℕ) → IsReplyScript (b ++ byte ∷ []) others rest' → ⊥)
    × (at ≡ length b) × (why ≡ why_at reply_fields (length rest))
