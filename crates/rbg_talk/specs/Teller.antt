-- What `show` and `bytes` keep between two bytes of their input, and how they go on and end.
-- This project's own.
use Rattle.std.specs.Prelude.{◌≡◌, ◌≤◌, ◌<◌, ◌⊎◌, ℕ, ◌+◌, ◌^◌, Bool, true, false, List, [], ◌++◌, length, take, nat_eq, if◌then◌else◌, Option, Result, Ok, Err}
use Rattle.std.specs.Io.KnownBytes.{Appends}
use Rattle.frame_codec.specs.Rows.{spelled}
use Rattle.frame_codec.specs.Frames.{Replied, IsReplyHead, reply_fields, reply_numbers}
use Rattle.frame_codec.specs.Replying.{Replying, ReplyReads}
use Rattle.rbg_talk.specs.declared.tell.Teller.{Teller}
use Rattle.rbg_talk.specs.declared.way.Way.{Way}
use Rattle.rbg_talk.specs.declared.status.Status.{Status}
use Rattle.rbg_talk.specs.Ends.{ReplyEnds, all_written, refusals}

-- the reply whose payload was taken so far
abbrev pub reply_of : Teller → Replied
reply_of t = record { head = t.head; string = take t.got t.payload.items }

-- the rooms are as large as a payload and a line can be
pub record HasRooms (t : Teller) : Type 0 where
  pub payload : length t.payload.items ≡ 65536
  pub text : length t.text.items ≡ 131585

-- Where a payload is to come, its head is one that replies may have, and so many bytes are to come. There are no more refusals
-- than bytes.
pub record IsTeller (t : Teller) : Type 0 where
  pub rooms : HasRooms t
  pub offset : t.decoder.offset ≡ t.taken
  pub refusals : t.refusals ≤ t.taken
  pub taken : t.taken ≤ 2 ^ 62
  pub head : 0 < t.decoder.left → IsReplyHead t.head
  pub left : 0 < t.decoder.left → t.got + t.decoder.left ≡ t.head.len

-- nothing was taken
pub record Begins (w : Way) (t : Teller) : Type 0 where
  pub way : t.way ≡ w
  pub taken : t.taken ≡ 0
  pub inside : t.inside ≡ false
  pub refusals : t.refusals ≡ 0
  pub reads : ReplyReads [] [] [] t.decoder

-- only the room for the line, the count of refusals and whether a frame is begun may have changed
pub record SameReply (old new : Teller) : Type 0 where
  pub way : new.way ≡ old.way
  pub decoder : new.decoder ≡ old.decoder
  pub head : new.head ≡ old.head
  pub payload : new.payload ≡ old.payload
  pub got : new.got ≡ old.got
  pub taken : new.taken ≡ old.taken
  pub text : length new.text.items ≡ length old.text.items

-- the count of refusals is as it was
pub record KeepsCount (old new : Teller) : Type 0 where
  pub refusals : new.refusals ≡ old.refusals

-- no frame is begun, and the reply was counted where it is a refusal
pub record EndsReply (old new : Teller) : Type 0 where
  pub inside : new.inside ≡ false
  pub refusals : new.refusals ≡ old.refusals + (if nat_eq old.head.code 0 then 0 else 1)

-- These bytes were taken: replies, and a part of the next, which is the head of p and its string where a payload is to come. What is
-- made of the replies was written, and their refusals were counted.
pub record Stands (before : Option (List ℕ)) (taken : List ℕ) (way : Way) (d : Replying) (p : Replied) (begun : Bool) (k : ℕ) (out : Option (List ℕ)) : Type 0 where
  pub ps : List Replied
  pub rest : List ℕ
  pub reads : ReplyReads taken ps rest d
  pub inside : ((begun ≡ true) × (0 < length rest)) ⊎ ((begun ≡ false) × (rest ≡ []))
  pub payload : 0 < d.left → rest ≡ spelled reply_fields (reply_numbers p.head) ++ p.string
  pub count : k ≡ refusals ps
  pub text : Appends before out (all_written way ps)

abbrev pub StandsAt : Option (List ℕ) → List ℕ → Teller → Option (List ℕ) → Type 0
StandsAt before taken t out = Stands before taken t.way t.decoder (reply_of t) t.inside t.refusals out

-- some text was written, and the table of ends has this end, with what is left
abbrev pub Tells : Way → Option (List ℕ) → List ℕ → Option (List ℕ) → Option (List ℕ) → Status → Type 0
Tells way before taken left out status = (text : List ℕ) × Appends before out text × ReplyEnds way status taken left text

-- it has ended by a row of the table, whatever bytes follow those taken
abbrev pub Stops : Way → Option (List ℕ) → List ℕ → Option (List ℕ) → Status → Type 0
Stops way before taken out status =
    (text : List ℕ) × Appends before out text × ((more : List ℕ) (left : Option (List ℕ)) → ReplyEnds way status (taken ++ more) left text)

-- after these bytes it stands so, or it has ended
abbrev pub GoesOn : {T : Type 0} → Way → Option (List ℕ) → List ℕ → Teller → Option (List ℕ) → Result T Status → Type 0
GoesOn way before taken t out (Ok done) = StandsAt before taken t out
GoesOn way before taken t out (Err status) = Stops way before taken out status
