-- Every reply of a tree's call has a head that reply frames may have, to the request that asks it.
use Rattle.std.proofs.Common.{◌≡◌, ◌≤◌, ◌<◌, ◌++◌, ◌∷◌, ℕ, List, [], length, map, Bool, true, false, refl, sym, subst, ap, ◌∙◌, ◌+◌, ◌^◌, take, drop, ◌-◌, zero, suc, append_assoc, take-append-drop, inl, inr, arith, ne_eqb}
use Rattle.std.specs.Prelude.{nat_eq, if◌then◌else◌, Option, Some, None, Result, Ok, Err, MatchOption, MatchResult}
use Rattle.std.specs.List.{AllByRecursion}
use Rattle.std.proofs.Math.Seq.{take-append-add}
use Rattle.std.proofs.lemmas.List.{drop_at, length-take}
use Rattle.frame_codec.specs.declared.frames.ReplyHead.{ReplyHead}
use Rattle.frame_codec.specs.declared.frames.Request.{Request}
use Rattle.frame_codec.specs.declared.table.Span.{Span}
use Rattle.frame_codec.specs.Frames.{IsReplyHead, IsRequestHead, codes_served, from_to, payloads, replies, reply_fields, reply_numbers, unless_done, unless_malformed, zero_only}
use Rattle.frame_codec.specs.Grammar.{text_of}
use Rattle.frame_codec.specs.Rows.{IsInOne, spelled}
use Rattle.frame_codec.proofs.Rows.{length-spelled}
use Rattle.session_core.specs.Answers.{call_of, reply_head}
use Rattle.tree_rules.proofs.Seeding.{done_len}
use Rattle.entropy_source.specs.Draws.{portions}
use Rattle.entropy_source.specs.declared.answers.Cause.TheVariants as causes
use Rattle.entropy_source.specs.declared.answers.SourceRefusal.{SourceRefusal}
use Rattle.entropy_source.specs.declared.answers.SourceRefusal.TheVariants.{SourceSpent, InError, SourceFault, HealthFailed, WantOfEntropy}
use Rattle.health_tests.specs.declared.windows.Alarm.{Alarm}
use Rattle.tree_config.specs.Tree.{Tree}
use Rattle.tree_rules.specs.Chain.{Chain, SourceLink, asks_pr, wants}
use Rattle.tree_rules.specs.Fits.{AnswersBy, DrawsAndWorks, Fits, Serves, Starts, at_source, done, found_by, source_reply, start_reply}
use Rattle.tree_rules.specs.Leaves.{HasLen}
use Rattle.tree_rules.specs.Served.{Served, entry_of}
use Rattle.tree_rules.specs.History.{Entry, States}
use Rattle.tree_rules.specs.Links.{Link}
use Rattle.tree_rules.specs.Replies.{chain_of, chain_rows, first_reply, plain_rows, refusal}
use Rattle.tree_rules.specs.Works.{worked}
use Rattle.tree_rules.specs.declared.call.Call.{Call}
use Rattle.tree_rules.specs.declared.call.Call.TheVariants.{Instantiate, Generate, Reseed, Uninstantiate, Start, Status}
use Rattle.tree_rules.specs.declared.reply.Reply.{Reply}
use Rattle.tree_rules.specs.declared.reply.ReplyRow.{ReplyRow}

-- Done, without details, or a refusal with a code that is served, without bytes
pub data Sound (r : Reply) : Type 0 where
  Done : r.code ≡ 0 → r.a ≡ 0 → r.b ≡ 0 → Sound r
  Early : 1 ≤ r.code → r.code ≤ 8 → r.len ≡ 0 → Sound r
  Late : 10 ≤ r.code → r.code ≤ 14 → r.len ≡ 0 → Sound r

first : (rows : List ReplyRow) (x : Reply) → AllByRecursion (λ (r : ReplyRow). Sound r.reply) rows → first_reply rows ≡ Some x → Sound x
first [] x h i = cc
first (r ∷ rows) x (h, hs) i = by r.stands (λ j. first rows x hs j) i where
  by : (b : Bool) → (first_reply rows ≡ Some x → Sound x) → (if b then Some r.reply else first_reply rows) ≡ Some x → Sound x
  by true more i = let is : r.reply ≡ x = cc in subst Sound is h
  by false more i = more i

early : (n a b : ℕ) → 1 ≤ n → n ≤ 8 → Sound (record { code = n; a = a; b = b; len = 0 })
early n a b low high = Early low high refl

late : (n a b : ℕ) → 10 ≤ n → n ≤ 14 → Sound (record { code = n; a = a; b = b; len = 0 })
late n a b low high = Late low high refl

refused : (p : Tree) (c : Call) (string : List ℕ) (ch : Chain) (r : Reply) → refusal p c string ch ≡ Some r → Sound r
refused p c string ch r is =
    first (plain_rows p c string ++ chain_rows c ch) r
    (early 1 _ _ (omega arith) (omega arith), (early 2 _ _ (omega arith) (omega arith), (early 2 _ _ (omega arith) (omega arith), (early 3 _ _ (omega arith) (omega arith), (early 4 _ _ (omega arith) (omega arith), (early 5 _ _ (omega arith) (omega arith), (early 6 _ _ (omega arith) (omega arith), (early 7 _ _ (omega arith) (omega arith), (early 8 _ _ (omega arith) (omega arith), (late 10 _ _ (omega arith) (omega arith), (late 11 _ _ (omega arith) (omega arith), tt))))))))))) is

source_refused : (j : ℕ) (why : SourceRefusal) → Sound (source_reply j why)
source_refused j (SourceSpent taken need) = late 10 _ _ (omega arith) (omega arith)
source_refused j (InError causes.NotStarted) = late 11 _ _ (omega arith) (omega arith)
source_refused j (InError (causes.Alarm index test)) = late 11 _ _ (omega arith) (omega arith)
source_refused j (SourceFault count) = late 12 _ _ (omega arith) (omega arith)
source_refused j (HealthFailed index test) = late 13 _ _ (omega arith) (omega arith)
source_refused j (WantOfEntropy missing) = late 14 _ _ (omega arith) (omega arith)

by_works : (found : List ℕ → List ℕ → Option Alarm) (c : Call) (ls : List Link) (lens : List ℕ) (source : Option SourceLink) (e : Entry)
    → DrawsAndWorks found c ls lens source e → Sound e.reply
by_works found c ls lens None e w = subst Sound (sym w.reply_is) (Done refl refl refl)
by_works found c ls lens (Some t) e (acts, end, drawn, answer) = by end answer where
  by : (end : Result (List ℕ) SourceRefusal) → MatchResult end
      (λ bytes. let w = worked (asks_pr c) (portions t.row lens bytes) e.string ls in
      AnswersBy e (map (at_source t) acts ++ w.acts) (done w.bytes) w.bytes)
      (λ why. AnswersBy e (map (at_source t) acts) (source_reply t.number why) []) → Sound e.reply
  by (Ok bytes) answer = subst Sound (sym answer.reply_is) (Done refl refl refl)
  by (Err why) answer = subst Sound (sym answer.reply_is) (source_refused t.number why)

by_start : (source : Option SourceLink) (e : Entry) → Starts source e → Sound e.reply
by_start None e w = absurd w
by_start (Some t) e (acts, end, start, answer) = by end answer where
  by : (end : Result (List ℕ) SourceRefusal) → AnswersBy e (map (at_source t) acts) (start_reply t.number end) [] → Sound e.reply
  by (Ok bytes) answer = subst Sound (sym answer.reply_is) (Done refl refl refl)
  by (Err why) answer = subst Sound (sym answer.reply_is) (source_refused t.number why)

serves_sound : (found : List ℕ → List ℕ → Option Alarm) (ch : Chain) (e : Entry) (c : Call) → Serves found ch e c → Sound e.reply
serves_sound found ch e (Start j) w = by_start ch.source e w
serves_sound found ch e (Uninstantiate n) w = subst Sound (sym w.reply_is) (Done refl refl refl)
serves_sound found ch e (Status n) w = subst Sound (sym w.reply_is) (Done refl refl refl)
serves_sound found ch e (Instantiate n strength) w = by_works found (Instantiate n strength) ch.links (wants (Instantiate n strength) ch) ch.source e w
serves_sound found ch e (Generate n count strength pr) w = by_works found (Generate n count strength pr) ch.links (wants (Generate n count strength pr) ch) ch.source e w
serves_sound found ch e (Reseed n pr) w = by_works found (Reseed n pr) ch.links (wants (Reseed n pr) ch) ch.source e w

-- the reply of a call that is right
pub sound : (p : Tree) (s : States) (e : Entry) → Fits p s e → Sound e.reply
sound p s e f =
    let ch = chain_of p s e.call e.string in
    by (refusal p e.call e.string ch) refl f.answer where
      by : (o : Option Reply) → refusal p e.call e.string (chain_of p s e.call e.string) ≡ o
          → MatchOption o (Serves (found_by (chain_of p s e.call e.string).source) (chain_of p s e.call e.string) e e.call) (λ reply. AnswersBy e [] reply []) → Sound e.reply
      by (Some r) is a = subst Sound (sym a.reply_is) (refused p e.call e.string (chain_of p s e.call e.string) r is)
      by None is w = let ch = chain_of p s e.call e.string in serves_sound (found_by ch.source) ch e e.call w

-- a span that is cut down to zero for one code alone
unless_bad : (code : ℕ) (spans : List Span) (n : ℕ) → nat_eq code 255 ≡ false → IsInOne spans n → IsInOne (unless_malformed code spans) n
unless_bad code spans n e h = rw e h

unless_zero : (code : ℕ) (spans : List Span) (n : ℕ) → nat_eq code 0 ≡ false → IsInOne spans n → IsInOne (unless_done code spans) n
unless_zero code spans n e h = rw e h

no_payload : (code op n : ℕ) → nat_eq code 0 ≡ false → n ≡ 0 → IsInOne (payloads code op) n
no_payload code op n e is = rw (e, is) (inl (omega arith, omega arith))

abbrev by_op : ℕ → ℕ → ℕ → ℕ → Bool → Call
by_op op node count strength pr =
    if nat_eq op 1 then Instantiate node strength
    else if nat_eq op 2 then Generate node count strength pr
    else if nat_eq op 3 then Reseed node pr
    else if nat_eq op 4 then Uninstantiate node
    else if nat_eq op 5 then Start node
    else Status node

-- how many bytes a call gives is how many its reply may have
some_payload : (op node count strength : ℕ) (pr : Bool) (len : ℕ) → 1 ≤ op → op ≤ 6 → len ≤ 65536 → HasLen (by_op op node count strength pr) len → IsInOne (payloads 0 op) len
some_payload zero node count strength pr len least greatest most has = absurd (omega (arith, least))
some_payload (suc zero) node count strength pr len least greatest most has = inl (omega arith, omega (arith, has))
some_payload (suc (suc zero)) node count strength pr len least greatest most has = inl (omega arith, most)
some_payload (suc (suc (suc zero))) node count strength pr len least greatest most has = inl (omega arith, omega (arith, has))
some_payload (suc (suc (suc (suc zero)))) node count strength pr len least greatest most has = inl (omega arith, omega (arith, has))
some_payload (suc (suc (suc (suc (suc zero))))) node count strength pr len least greatest most has = inl (omega arith, omega (arith, has))
some_payload (suc (suc (suc (suc (suc (suc zero)))))) node count strength pr len least greatest most has = inl (omega (arith, has), omega (arith, has))
some_payload (suc (suc (suc (suc (suc (suc (suc n))))))) node count strength pr len least greatest most has = absurd (omega (arith, greatest))

module _ (r : Request) (takes : IsRequestHead r) where
  op_in : IsInOne (from_to 1 6) r.op
  op_in = takes.2.1

  op_range : (1 ≤ r.op) × (r.op ≤ 6)
  op_range = by takes.2.1 where
    by : IsInOne (from_to 1 6) r.op → (1 ≤ r.op) × (r.op ≤ 6)
    by (inl range) = range
    by (inr none) = absurd none

  -- a head with the numbers of the request
  takes_head : (code a b len : ℕ) → code < 2 ^ 8 → IsInOne codes_served code → nat_eq code 255 ≡ false → a < 2 ^ 64 → IsInOne (unless_done code (from_to 0 0xffffffffffffffff)) a → b < 2 ^ 64
      → IsInOne (unless_done code (from_to 0 0xffffffffffffffff)) b → len < 2 ^ 32 → IsInOne (payloads code r.op) len
      → IsReplyHead (record { code = code; op = r.op; node = r.node; id = r.id; a = a; b = b; len = len })
  takes_head code a b len c8 served other a64 a_in b64 b_in l32 l_in =
      let node = takes.2.2.2.0 in
      let id = takes.2.2.2.2.0 in
      let node_in : IsInOne (from_to 0 0xff) r.node = inl (omega arith, omega (arith, node)) in
      let id_in : IsInOne (from_to 0 0xffffffff) r.id = inl (omega arith, omega (arith, id)) in (
        omega arith,
        inl (omega arith, omega arith),
        (
          c8,
          served,
          (
            takes.2.0,
            unless_bad code (from_to 1 6) r.op other op_in,
            (
              node,
              unless_bad code (from_to 0 0xff) r.node other node_in,
              (
                id,
                unless_bad code (from_to 0 0xffffffff) r.id other id_in,
                (a64, a_in, (b64, b_in, (l32, l_in, refl))),
              ),
            ),
          ),
        ),
      )

  not_code : (n m : ℕ) → (n ≡ m → ⊥) → nat_eq n m ≡ false
  not_code n m ne = ne_eqb n m ne

  pub is_head : (reply : Reply) → Sound reply → reply.a < 2 ^ 64 → reply.b < 2 ^ 64 → reply.len ≤ 65536 → (reply.code ≡ 0 → HasLen (call_of r) reply.len) → IsReplyHead (reply_head r reply)
  is_head reply (Done c a b) a64 b64 most has =
      subst (λ (h : ReplyHead). IsReplyHead h) (zeros reply c a b)
      (takes_head 0 0 0 reply.len (omega arith) (inl (omega arith, omega arith)) refl (omega arith) (inl (omega arith, omega arith)) (omega arith) (inl (omega arith, omega arith)) (omega (arith, most)) (some_payload r.op r.node r.count r.strength (nat_eq r.flags 1) reply.len op_range.0 op_range.1 most (has c))) where
        zeros : (reply : Reply) → reply.code ≡ 0 → reply.a ≡ 0 → reply.b ≡ 0
            → record { code = 0; op = r.op; node = r.node; id = r.id; a = 0; b = 0; len = reply.len } ≡ reply_head r reply
        zeros reply c a b = rw (c, a, b) refl
  is_head reply (Early low high none) a64 b64 most has =
      let zero : nat_eq reply.code 0 ≡ false = not_code reply.code 0 (λ e. omega (arith, e, low)) in
      takes_head reply.code reply.a reply.b reply.len (omega (arith, high)) (inl (omega arith, high)) (not_code reply.code 255 (λ e. omega (arith, e, high)))
      a64 (unless_zero reply.code _ reply.a zero (inl (omega arith, omega (arith, a64)))) b64 (unless_zero reply.code _ reply.b zero (inl (omega arith, omega (arith, b64))))
      (omega (arith, most)) (no_payload reply.code r.op reply.len zero none)
  is_head reply (Late low high none) a64 b64 most has =
      let zero : nat_eq reply.code 0 ≡ false = not_code reply.code 0 (λ e. omega (arith, e, low)) in
      takes_head reply.code reply.a reply.b reply.len (omega (arith, high)) (inr (inl (low, high))) (not_code reply.code 255 (λ e. omega (arith, e, high)))
      a64 (unless_zero reply.code _ reply.a zero (inl (omega arith, omega (arith, a64)))) b64 (unless_zero reply.code _ reply.b zero (inl (omega arith, omega (arith, b64))))
      (omega (arith, most)) (no_payload reply.code r.op reply.len zero none)

-- the reply to a request whose call was answered so may be its answer
pub answers : (r : Request) (p : Tree) (s t : States) (string : List ℕ) (reply : Reply) (bytes : List ℕ) → IsRequestHead r → Served p s t (call_of r) string reply bytes
    → reply.a < 2 ^ 64 → reply.b < 2 ^ 64 → reply.len ≤ 65536 → IsReplyHead (reply_head r reply)
answers r p s t string reply bytes takes served a64 b64 most =
    let fits = served.fits 1 in
    let e = entry_of p s (call_of r) string reply bytes served.acts 1 in
    is_head r takes reply (sound p s e fits) a64 b64 most (λ done. done_len p s e fits done)

-- no payload is longer than 65,536 bytes
short : (a b c : Bool) (n : ℕ) → IsInOne (if a then (if b then from_to 0 65536 else if c then from_to 25 25 else zero_only) else zero_only) n → n ≤ 65536
short true true c n (inl fits) = fits.1
short true true c n (inr none) = absurd none
short true false true n (inl fits) = omega (arith, fits.1)
short true false true n (inr none) = absurd none
short true false false n (inl fits) = omega (arith, fits.1)
short true false false n (inr none) = absurd none
short false b c n (inl fits) = omega (arith, fits.1)
short false b c n (inr none) = absurd none

-- the frame in a buffer: its head ends at place 32, and the payload stands behind it
pub frame_at : (h : ReplyHead) (old new : List ℕ) (end : ℕ) → IsReplyHead h → 32 ≤ length old → take 32 new ≡ take 4 old ++ spelled reply_fields (reply_numbers h)
    → drop 32 new ≡ drop 32 old → end ≡ 32 + h.len → take (end - 4) (drop 4 new) ≡ text_of replies (record { head = h; string = take h.len (drop 32 old) })
frame_at h old new end takes room front behind count =
    let head = spelled reply_fields (reply_numbers h) in
    let size : length head ≡ 28 = length-spelled reply_fields [] (reply_numbers h) takes in
    let whole : new ≡ take 4 old ++ (head ++ drop 32 old) =
    sym (take-append-drop 32 new) ∙ (ap (λ (x : List ℕ). x ++ drop 32 new) front ∙ (append_assoc (take 4 old) head (drop 32 new) ∙ ap (λ (x : List ℕ). take 4 old ++ (head ++ x)) behind)) in
    let cut : drop 4 new ≡ head ++ drop 32 old = ap (λ (x : List ℕ). drop 4 x) whole ∙ drop_at (take 4 old) (head ++ drop 32 old) 4 (omega (arith, length-take 4 old, room)) in
    let counted : end - 4 ≡ length head + h.len = omega (arith, count, size) in
    ap (λ (x : List ℕ). take (end - 4) x) cut ∙ (ap (λ (k : ℕ). take k (head ++ drop 32 old)) counted ∙ take-append-add head (drop 32 old) h.len)
