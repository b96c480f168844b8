-- What request frames are answered: the call of a request, its reply frame, and entries of a tree's history in the place of replies.
-- This project's own.
use Rattle.std.specs.Prelude.{◌≡◌, ℕ, List, ◌++◌, map, nat_eq, if◌then◌else◌}
use Rattle.std.specs.List.{AllByRecursion}
use Rattle.frame_codec.specs.declared.frames.Request.{Request}
use Rattle.frame_codec.specs.declared.frames.ReplyHead.{ReplyHead}
use Rattle.frame_codec.specs.Grammar.{text_of}
use Rattle.frame_codec.specs.Frames.{Asked, Replied, replies}
use Rattle.tree_rules.specs.declared.call.Call.{Call}
use Rattle.tree_rules.specs.declared.call.Call.TheVariants.{Instantiate, Generate, Reseed, Uninstantiate, Start, Status}
use Rattle.tree_rules.specs.declared.reply.Reply.{Reply}
use Rattle.tree_rules.specs.History.{Entry, Opening, opened}
use Rattle.tree_rules.specs.Openings.{IsHistory}
use Rattle.tree_rules.specs.Apart.{Apart}
use Rattle.tree_rules.specs.Quiet.{Quiet}
use Rattle.session_core.specs.Ends.{Service}

-- the call that a request asks, by its operation
abbrev pub call_of : Request → Call
call_of r =
    if nat_eq r.op 1 then Instantiate r.node r.strength
    else if nat_eq r.op 2 then Generate r.node r.count r.strength (nat_eq r.flags 1)
    else if nat_eq r.op 3 then Reseed r.node (nat_eq r.flags 1)
    else if nat_eq r.op 4 then Uninstantiate r.node
    else if nat_eq r.op 5 then Start r.node
    else Status r.node

-- the head of the reply frame to a request whose call was answered so, and the frame with the bytes of the answer
abbrev pub reply_head : Request → Reply → ReplyHead
reply_head r reply = record { code = reply.code; op = r.op; node = r.node; id = r.id; a = reply.a; b = reply.b; len = reply.len }

abbrev pub reply_frame : Request → Reply → List ℕ → Replied
reply_frame r reply bytes = record { head = reply_head r reply; string = bytes }

abbrev pub reply_to : Request → Entry → Replied
reply_to r e = reply_frame r e.reply e.bytes

-- a request with the entry of its call
pub record Answered : Type 0 where
  pub asked : Asked
  pub entry : Entry

abbrev pub asked_of : List Answered → List Asked
asked_of es = map (λ (e : Answered). e.asked) es

abbrev pub entries_of : List Answered → List Entry
entries_of es = map (λ (e : Answered). e.entry) es

-- the entry is that of the request's call with its string, which this caller made
pub record IsAsked (caller : ℕ) (e : Answered) : Type 0 where
  pub caller_is : e.entry.caller ≡ caller
  pub call : e.entry.call ≡ call_of e.asked.head
  pub string : e.entry.string ≡ e.asked.string

-- The entries of requests in a row are right behind the opening calls o and the entries h: each is that of its request, and behind these
-- they make a legal history, which uses no sample twice and is quiet after alarms.
pub record AreRight (caller : ℕ) (f : Opening) (o h : List Entry) (es : List Answered) : Type 0 where
  pub asked : AllByRecursion (IsAsked caller) es
  pub history : IsHistory f o (h ++ entries_of es)
  pub apart : Apart f.plan (o ++ (h ++ entries_of es))
  pub quiet : Quiet f.plan (opened f) (o ++ (h ++ entries_of es))

-- each request is one call, and its reply frame is the text of its entry's reply and bytes
abbrev pub service : Service Answered Asked
service = record {
  calls = λ (rs : List Asked). rs;
  call_of = λ (e : Answered). e.asked;
  text = λ (e : Answered). text_of replies (reply_to e.asked.head e.entry);
}
