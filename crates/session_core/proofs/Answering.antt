-- A request that was answered, and its reply frame in the buffer.
use Rattle.std.proofs.Common.{◌≡◌, ◌≤◌, ◌<◌, ◌^◌, ◌+◌, ◌-◌, ◌++◌, ℕ, List, length, take, drop, ap, sym, ◌∙◌, refl, subst, take-take, length-take, lit≤, arith}
use Rattle.std.proofs.lemmas.List.{take_at}
use Rattle.std.specs.Prelude.{Option, Some, None}
use Rattle.frame_codec.specs.declared.frames.Request.{Request}
use Rattle.frame_codec.specs.Grammar.{text_of}
use Rattle.frame_codec.specs.declared.frames.ReplyHead.{ReplyHead}
use Rattle.frame_codec.specs.Rows.{spelled}
use Rattle.frame_codec.specs.Frames.{replies, reply_fields, reply_numbers, IsReplyHead}
use Rattle.frame_codec.specs.Decoding.{Begun}
use Rattle.tree_config.specs.Tree.{Tree}
use Rattle.tree_rules.specs.declared.call.Call.{Call}
use Rattle.tree_rules.specs.declared.reply.Reply.{Reply}
use Rattle.tree_rules.specs.History.{Entry, States}
use Rattle.tree_rules.specs.Served.{Served}
use Rattle.session_core.specs.Answers.{call_of, reply_frame, reply_head, reply_to}
use Rattle.session_core.specs.Inbox.{IsWholeFrame, IsCallOf, CanAnswer, answer_of}
use Rattle.session_core.proofs.Heads.{Early, answers, frame_at, is_head}

-- the frame in the buffer is the answer
pub put_is : (asked : Option Request) (r : Request) (reply : Reply) (h : ReplyHead) (old new : List ℕ) → asked ≡ Some r → CanAnswer asked reply → h ≡ reply_head r reply → 32 ≤ length old
    → take 32 new ≡ take 4 old ++ spelled reply_fields (reply_numbers h) → drop 32 new ≡ drop 32 old → take (32 + reply.len - 4) (drop 4 new) ≡ answer_of asked reply old
put_is asked r reply h old new is can same room front behind =
    let takes : IsReplyHead (reply_head r reply) = subst (λ (o : Option Request). CanAnswer o reply) is can in
    let front' : take 32 new ≡ take 4 old ++ spelled reply_fields (reply_numbers (reply_head r reply)) = subst (λ (x : ReplyHead). take 32 new ≡ take 4 old ++ spelled reply_fields (reply_numbers x)) same front in
    frame_at (reply_head r reply) old new (32 + reply.len) takes room front' behind refl ∙ ap (λ (o : Option Request). answer_of o reply old) (sym is)

-- what stands before the head stays
pub front_stays : (old new head : List ℕ) → 32 ≤ length old → take 32 new ≡ take 4 old ++ head → take 4 new ≡ take 4 old
front_stays old new head room front =
    sym (take-take 4 32 new (lit≤ tt)) ∙ (ap (λ (x : List ℕ). take 4 x) front ∙ take_at (take 4 old) head 4 (omega (arith, length-take 4 old, room)))

-- a reply of the tree may be the answer to the request
pub can_answer : (asked : Option Request) (d : Begun) (c : Call) (p : Tree) (s t : States) (string : List ℕ) (reply : Reply) (bytes : List ℕ) → IsWholeFrame d asked → IsCallOf asked c
    → Served p s t c string reply bytes → reply.a < 2 ^ 64 → reply.b < 2 ^ 64 → reply.len ≤ 65536 → CanAnswer asked reply
can_answer None d c p s t string reply bytes framed is served a64 b64 most = tt
can_answer (Some r) d c p s t string reply bytes framed is served a64 b64 most =
    answers r p s t string reply bytes framed.taken (subst (λ (x : Call). Served p s t x string reply bytes) is served) a64 b64 most

-- a refusal may be the answer to every request
pub can_refuse : (asked : Option Request) (d : Begun) (code a b : ℕ) → IsWholeFrame d asked → 1 ≤ code → code ≤ 8 → a < 2 ^ 64 → b < 2 ^ 64 → CanAnswer asked (record { code = code; a = a; b = b; len = 0 })
can_refuse None d code a b framed least most a64 b64 = tt
can_refuse (Some r) d code a b framed least most a64 b64 =
    is_head r framed.taken (record { code = code; a = a; b = b; len = 0 }) (Early least most refl) a64 b64 (omega arith) (λ done. absurd (omega (arith, done, least)))

-- the call of a request that is to be answered
pub is_call : (asked : Option Request) (r : Request) (c : Call) → asked ≡ Some r → IsCallOf asked c → c ≡ call_of r
is_call asked r c is call = subst (λ (o : Option Request). IsCallOf o c) is call

-- the frame in the buffer is that of the entry
pub answered_text : (asked : Option Request) (r : Request) (reply same : Reply) (e : Entry) (buffer out frame : List ℕ) → asked ≡ Some r → same ≡ reply → frame ≡ answer_of asked same buffer
    → drop 32 buffer ≡ out → e.reply ≡ reply → e.bytes ≡ take reply.len out → frame ≡ text_of replies (reply_to r e)
answered_text asked r reply same e buffer out frame is same_is frame_is behind reply_is bytes_are =
    frame_is ∙ (ap (λ (o : Option Request). answer_of o same buffer) is
    ∙ (ap (λ (x : Reply). text_of replies (reply_frame r x (take x.len (drop 32 buffer)))) same_is
    ∙ (ap (λ (x : List ℕ). text_of replies (reply_frame r reply (take reply.len x))) behind
    ∙ (ap (λ (x : List ℕ). text_of replies (reply_frame r reply x)) (sym bytes_are) ∙ ap (λ (x : Reply). text_of replies (reply_frame r x e.bytes)) (sym reply_is)))))
