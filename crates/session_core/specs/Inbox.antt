-- What a session has read of its stream, and the request that is to be answered next.
-- This project's own.
use Rattle.std.specs.Prelude.{◌≡◌, ◌≤◌, ℕ, List, [], drop, take, Option, Some, None}
use Rattle.frame_codec.specs.declared.frames.Request.{Request}
use Rattle.frame_codec.specs.declared.decoder.Step.{Step}
use Rattle.frame_codec.specs.declared.decoder.Step.TheVariants.{More, Whole, Bad}
use Rattle.frame_codec.specs.Grammar.{text_of, IsFramed}
use Rattle.frame_codec.specs.Frames.{requests, replies, IsReplyHead}
use Rattle.frame_codec.specs.Decoding.{Begun}
use Rattle.tree_rules.specs.declared.call.Call.{Call}
use Rattle.tree_rules.specs.declared.reply.Reply.{Reply}
use Rattle.session_core.specs.Answers.{call_of, reply_head, reply_frame}

-- what the decoder has read, the request of the frame that was whole last, until it is answered, and the most frames of the session
pub record Waiting : Type 0 where
  pub decoder : Begun
  pub asked : Option Request
  pub max_frames : ℕ

-- a request that is to be answered is framed with the decoder's string
abbrev pub IsWholeFrame : Begun → Option Request → Type 0
IsWholeFrame d None = Unit {0}
IsWholeFrame d (Some r) = IsFramed requests (record { head = r; string = d.string })

pub record IsWaiting (d : Begun) (asked : Option Request) (max_frames : ℕ) : Type 0 where
  pub whole : IsWholeFrame d asked
  pub some : 1 ≤ max_frames

-- the request of a frame that is just whole
abbrev pub whole_of : Step → Option Request
whole_of More = None
whole_of (Whole r) = Some r
whole_of (Bad offset why) = None

-- the call is that of the request
abbrev pub IsCallOf : Option Request → Call → Type 0
IsCallOf None call = Unit {0}
IsCallOf (Some r) call = call ≡ call_of r

-- the reply may be the answer to the request
abbrev pub CanAnswer : Option Request → Reply → Type 0
CanAnswer None reply = Unit {0}
CanAnswer (Some r) reply = IsReplyHead (reply_head r reply)

-- the reply frame to the request, whose payload are the bytes of the buffer from place 32 on
abbrev pub answer_of : Option Request → Reply → List ℕ → List ℕ
answer_of None reply buffer = []
answer_of (Some r) reply buffer = text_of replies (reply_frame r reply (take reply.len (drop 32 buffer)))
