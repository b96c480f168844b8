-- How `show` and `bytes` go on by a byte of a reply, and how they end.
use Rattle.std.proofs.Common.{◌≡◌, ◌<◌, ℕ, ◌+◌, ◌∷◌, List, [], ◌++◌, length, take, Bool, true, false, cond, sym, ap, ◌∙◌, arith, true≢false, ◌^◌, length-append, append_assoc, append-nil, refl, subst, inl, inr}
use Rattle.std.specs.declared.option.Option.{Option}
use Rattle.std.specs.Prelude.{Result, Ok, Err, OnOk, IfErr, nat_eq, if◌then◌else◌}
use Rattle.std.specs.List.{AllByRecursion}
use Rattle.std.specs.Io.KnownBytes.{Appends, Consumes, Keeps, IsAtEnd}
use Rattle.std.proofs.KnownBytes.{Appends-trans, Appends-nil, Consumes-nil, Consumes-trans, Consumes-kept}
use Rattle.std.proofs.lemmas.List.Sums.{sum_by-append}
use Rattle.std.proofs.lemmas.List.{take_at}
use Rattle.rbg_bytes.specs.Streams.{AppendsFront, TakesAll}
use Rattle.frame_codec.specs.declared.frames.ReplyHead.{ReplyHead}
use Rattle.frame_codec.specs.declared.reply_decoder.ReplyStep.TheVariants.{More, Head, Payload, Bad}
use Rattle.frame_codec.specs.Rows.{spelled}
use Rattle.frame_codec.specs.Grammar.{IsFramed}
use Rattle.frame_codec.specs.Frames.{Replied, IsReplyHead, IsReplyScript, replies, reply_fields, reply_numbers, reply_of}
use Rattle.frame_codec.specs.Replying.{Replying, ReplySteps, ReplyReads, Holds}
use Rattle.frame_codec.proofs.Rows.{spelled-one}
use Rattle.frame_codec.proofs.Scripts.{flat-push}
use Rattle.frame_codec.proofs.ReplyReading.{reply-on}
use Rattle.rbg_talk.specs.declared.way.Way.{Way}
use Rattle.rbg_talk.specs.declared.tell.Teller.{Teller}
use Rattle.rbg_talk.specs.declared.status.Status.{Status}
use Rattle.rbg_talk.specs.declared.status.Status.TheVariants.{Done, Malformed, Cut, Refused, ReadFault, WriteFault, Quota}
use Rattle.rbg_talk.specs.Shown.{written}
use Rattle.rbg_talk.specs.Ends.{BeginsWithReplies, ReplyEnds, all_written, refusals, is_refusal, most_bytes}
use Rattle.rbg_talk.specs.Causes.{IsWriteEnd}
use Rattle.rbg_talk.specs.Teller as tellers
use Rattle.rbg_talk.specs.Teller.{Begins, SameReply, EndsReply, Stands, StandsAt, GoesOn, Stops, Tells}
use Rattle.rbg_talk.proofs.Pieces.{taken_still}

all-last : {X : Type 0} (P : X → Type 0) (xs : List X) (x : X) → AllByRecursion P (xs ++ x ∷ []) → P x
all-last P [] x all = all.0
all-last P (y ∷ xs) x all = all-last P xs x all.1

refusals-push : (ps : List Replied) (q : Replied) → refusals (ps ++ q ∷ []) ≡ refusals ps + refusals (q ∷ [])
refusals-push ps q = sum_by-append (λ (p : Replied). cond (is_refusal p) 1 0) ps (q ∷ [])

-- whole replies are what bytes begin with, whatever follows
begins : (b more : List ℕ) (ps : List Replied) → IsReplyScript b ps [] → BeginsWithReplies (b ++ more) ps
begins b more ps s = (length b, subst (λ (x : List ℕ). IsReplyScript x ps []) (sym (take_at b more (length b) refl)) s)

-- a decoder to which a payload is to come has a head
still_left : (d : Replying) → 0 < d.left → Holds [] d → ⊥
still_left d some (inl none) = omega (arith, some, none.0)
still_left d some (inr more) = absurd cc

module _ (before : Option (List ℕ)) (taken : List ℕ) (way : Way) (d : Replying) (p : Replied) (inside : Bool) (count : ℕ) (out : Option (List ℕ)) (st : Stands before taken way d p inside count out) (byte : ℕ) (new : Replying) (offset : new.offset ≡ d.offset + 1) where
  -- the byte is within a head
  pub go_more : (q : Replied) → ReplySteps d byte More new → Stands before (taken ++ byte ∷ []) way new q true count out
  go_more q steps = record {
    ps = st.ps;
    rest = st.rest ++ byte ∷ [];
    reads = reply-on taken st.ps st.rest byte d More new st.reads offset steps;
    inside = inl (refl, omega (arith, length-append st.rest (byte ∷ [])));
    payload = λ (some : 0 < new.left). absurd (omega (arith, some, steps.1.left));
    count = st.count;
    text = st.text;
  }

  -- the byte ends a head, and its payload comes next
  pub go_head : (h : ReplyHead) (string : List ℕ) → string ≡ [] → ReplySteps d byte (Head h) new → 0 < h.len
      → Stands before (taken ++ byte ∷ []) way new (record { head = h; string = string }) true count out
  go_head h string none steps some =
      let on = reply-on taken st.ps st.rest byte d (Head h) new st.reads offset steps in
      record {
        ps = st.ps;
        rest = st.rest ++ byte ∷ [];
        reads = elim on.1 [ inl r ↦ r.1 | inr r ↦ absurd (omega (arith, some, r.0)) ];
        inside = inl (refl, omega (arith, length-append st.rest (byte ∷ [])));
        payload = λ (more : 0 < new.left). on.0 ∙ (sym (append-nil (spelled reply_fields (reply_numbers h))) ∙ ap (λ (x : List ℕ). spelled reply_fields (reply_numbers h) ++ x) (sym none));
        count = st.count;
        text = st.text;
      }

  -- the byte ends a head without a payload
  pub whole_head : (h : ReplyHead) → ReplySteps d byte (Head h) new → h.len ≡ 0
      → ReplyReads (taken ++ byte ∷ []) (st.ps ++ record { head = h; string = [] } ∷ []) [] new
  whole_head h steps none =
      let on = reply-on taken st.ps st.rest byte d (Head h) new st.reads offset steps in
      elim on.1 [ inl r ↦ absurd (omega (arith, none, r.0)) | inr r ↦ r.1 ]

  -- the byte is the next of a payload
  pub go_payload : (x : ℕ) (q : Replied) → q ≡ record { head = p.head; string = p.string ++ byte ∷ [] } → ReplySteps d byte (Payload x) new → 0 < new.left
      → Stands before (taken ++ byte ∷ []) way new q true count out
  go_payload x q is steps some =
      let on = reply-on taken st.ps st.rest byte d (Payload x) new st.reads offset steps in
      let more : 0 < d.left = omega (arith, steps.left) in
      record {
        ps = st.ps;
        rest = st.rest ++ byte ∷ [];
        reads = elim on.1 [ inl r ↦ r.1 | inr r ↦ absurd (still_left new some r.3.holds) ];
        inside = inl (refl, omega (arith, length-append st.rest (byte ∷ [])));
        payload = λ (left : 0 < new.left).
            ap (λ (y : List ℕ). y ++ byte ∷ []) (st.payload more) ∙ (append_assoc (spelled reply_fields (reply_numbers p.head)) p.string (byte ∷ [])
            ∙ ap (λ (z : Replied). spelled reply_fields (reply_numbers z.head) ++ z.string) (sym is));
        count = st.count;
        text = st.text;
      }

  -- the byte is the last of a payload
  pub whole_payload : (x : ℕ) (q : Replied) → q ≡ record { head = p.head; string = p.string ++ byte ∷ [] } → ReplySteps d byte (Payload x) new → new.left ≡ 0 → IsReplyHead p.head
      → ReplyReads (taken ++ byte ∷ []) (st.ps ++ q ∷ []) [] new
  whole_payload x q is steps none head =
      let on = reply-on taken st.ps st.rest byte d (Payload x) new st.reads offset steps in
      let more : 0 < d.left = omega (arith, steps.left) in
      elim on.1 [
        | inl r ↦ absurd (omega (arith, none, r.0))
        | inr r ↦
            let other : Replied = record { head = r.0; string = r.1 ++ byte ∷ [] } in
            let served = all-last (IsFramed replies) st.ps other r.3.script.served in
            let e : spelled reply_fields (reply_numbers r.0) ++ r.1 ≡ spelled reply_fields (reply_numbers p.head) ++ p.string = sym r.2 ∙ st.payload more in
            let parts = spelled-one reply_fields [] [] (reply_numbers r.0) (reply_numbers p.head) r.1 p.string served.taken head e in
            let same : other ≡ q =
            ap (λ (h : ReplyHead). let z : Replied = record { head = h; string = r.1 ++ byte ∷ [] } in z) (ap reply_of parts.0)
            ∙ (ap (λ (y : List ℕ). let z : Replied = record { head = p.head; string = y ++ byte ∷ [] } in z) parts.1 ∙ sym is) in
            subst (λ (z : Replied). ReplyReads (taken ++ byte ∷ []) (st.ps ++ z ∷ []) [] new) same r.3
      ]

  -- no reply goes on with the byte
  pub stops_bad : (at why : ℕ) → ReplySteps d byte (Bad at why) new → Stops way before (taken ++ byte ∷ []) out (Malformed at why)
  stops_bad at why steps =
      let on = reply-on taken st.ps st.rest byte d (Bad at why) new st.reads offset steps in (
        all_written way st.ps,
        st.text,
        λ more left. (
          st.ps,
          record {
            within = omega (arith, on.1, length-append (taken ++ byte ∷ []) more, length-append taken (byte ∷ []));
            rest = st.rest;
            before = subst (λ (y : List ℕ). IsReplyScript y st.ps st.rest)
                (sym (ap (λ (n : ℕ). take n ((taken ++ byte ∷ []) ++ more)) on.1 ∙ (ap (take (length taken)) (append_assoc taken (byte ∷ []) more) ∙ take_at taken (byte ∷ more) (length taken) refl)))
                st.reads.script;
            bad = λ others rest' script.
                on.0 others rest' (subst (λ (y : List ℕ). IsReplyScript y others rest')
                (take_at (taken ++ byte ∷ []) more (at + 1) (length-append taken (byte ∷ []) ∙ ap (λ (n : ℕ). n + 1) (sym on.1))) script);
            number = on.2;
          },
          refl,
        ),
      )

-- one byte more of a payload
pub more_string : (h : ReplyHead) (a b items : List ℕ) (got x byte : ℕ) → a ≡ take got b ++ x ∷ [] → b ≡ items → x ≡ byte
    → (let r : Replied = record { head = h; string = a } in r) ≡ record { head = h; string = take got items ++ byte ∷ [] }
more_string h a b items got x byte e is same =
    let whole : List ℕ → Replied = λ (s : List ℕ). record { head = h; string = s } in
    ap whole (e ∙ (ap (λ (l : List ℕ). take got l ++ x ∷ []) is ∙ ap (λ (z : ℕ). take got items ++ z ∷ []) same))

-- ---- a reply that is whole

as-count : (b : Bool) → 0 + cond (cond b false true) 1 0 ≡ cond b 0 1
as-count true = refl
as-count false = refl

refused-push : (ps : List Replied) (q : Replied) (k n : ℕ) → k ≡ refusals ps → n ≡ k + (if nat_eq q.head.code 0 then 0 else 1) → n ≡ refusals (ps ++ q ∷ [])
refused-push ps q k n so_far more =
    more ∙ (ap (λ (m : ℕ). m + (if nat_eq q.head.code 0 then 0 else 1)) so_far
    ∙ sym (refusals-push ps q ∙ ap (λ (m : ℕ). refusals ps + m) (as-count (nat_eq q.head.code 0))))

-- what is written with one reply more
text-push : (w : Way) (ps : List Replied) (q : Replied) (before out now : Option (List ℕ)) → Appends before out (all_written w ps) → Appends out now (written w q)
    → Appends before now (all_written w (ps ++ q ∷ []))
text-push w ps q before out now first more =
    subst (λ (x : List ℕ). Appends before now x) (sym (flat-push (written w) ps q)) (Appends-trans before out now (all_written w ps) (written w q) first more)

module _ (before : Option (List ℕ)) (taken : List ℕ) (old t : Teller) (ps : List Replied) (out now : Option (List ℕ)) (reads : ReplyReads taken (ps ++ tellers.reply_of old ∷ []) [] old.decoder) (none : old.decoder.left ≡ 0) (so_far : old.refusals ≡ refusals ps) (text : Appends before out (all_written old.way ps)) (same : SameReply old t) where
  stands_ended : EndsReply old t → Appends out now (written old.way (tellers.reply_of old)) → StandsAt before taken t now
  stands_ended ended more = record {
    ps = ps ++ tellers.reply_of old ∷ [];
    rest = [];
    reads = subst (λ (d : Replying). ReplyReads taken (ps ++ tellers.reply_of old ∷ []) [] d) (sym same.decoder) reads;
    inside = inr (ended.inside, refl);
    payload = λ (some : 0 < t.decoder.left). absurd (omega (arith, some, ap (λ (d : Replying). d.left) same.decoder, none));
    count = refused-push ps (tellers.reply_of old) old.refusals t.refusals so_far ended.refusals;
    text = subst (λ (w : Way). Appends before now (all_written w (ps ++ tellers.reply_of old ∷ []))) (sym same.way) (text-push old.way ps (tellers.reply_of old) before out now text more);
  }

  stops_ended : (count : ℕ) → AppendsFront out now (written old.way (tellers.reply_of old)) → Stops old.way before taken now (WriteFault count)
  stops_ended count front = (
    all_written old.way ps ++ front.0,
    Appends-trans before out now (all_written old.way ps) front.0 text front.3,
    λ more left. (ps, tellers.reply_of old, begins taken more (ps ++ tellers.reply_of old ∷ []) reads.script, (front.0, front.1, front.2, refl)),
  )

  -- it goes on behind the reply, or has ended where the write failed
  pub reply_ended : {T : Type 0} (result : Result T Status) → TakesAll out now result (written old.way (tellers.reply_of old)) → OnOk result (EndsReply old t) → IfErr result IsWriteEnd
      → GoesOn old.way before taken t now result
  reply_ended (Ok done) takes ended kind = stands_ended ended takes
  reply_ended (Err (WriteFault count)) takes ended kind = stops_ended count takes
  reply_ended (Err status) takes ended kind = absurd kind

-- ---- the end of the input

module _ (before : Option (List ℕ)) (taken : List ℕ) (t : Teller) (out : Option (List ℕ)) (st : StandsAt before taken t out) (offset : t.decoder.offset ≡ t.taken) (left : Option (List ℕ)) (at_end : IsAtEnd left) where
  pub ends_cut : t.inside ≡ true → Tells t.way before taken left out (Cut t.taken)
  ends_cut begun =
      let some : 0 < length st.rest = elim st.inside [ inl i ↦ i.1 | inr o ↦ absurd (true≢false (sym begun ∙ o.0)) ] in
      (all_written t.way st.ps, st.text, (st.ps, st.rest, st.reads.script, some, at_end, sym offset ∙ st.reads.offset, refl))

  none_begun : t.inside ≡ false → IsReplyScript taken st.ps []
  none_begun outside =
      let none : st.rest ≡ [] = elim st.inside [ inl i ↦ absurd (true≢false (sym i.0 ∙ outside)) | inr o ↦ o.1 ] in
      subst (λ (r : List ℕ). IsReplyScript taken st.ps r) none st.reads.script

  pub ends_done : t.inside ≡ false → t.refusals ≡ 0 → Tells t.way before taken left out Done
  ends_done outside none = (all_written t.way st.ps, st.text, (st.ps, none_begun outside, at_end, sym st.count ∙ none, refl))

  pub ends_refused : t.inside ≡ false → 0 < t.refusals → Tells t.way before taken left out (Refused t.refusals)
  ends_refused outside some = (all_written t.way st.ps, st.text, (st.ps, none_begun outside, at_end, some, sym st.count, refl))

-- ---- pieces

-- whatever follows a piece
pub stops_more : (way : Way) (before : Option (List ℕ)) (b more : List ℕ) (out : Option (List ℕ)) (status : Status) → Stops way before b out status → Stops way before (b ++ more) out status
stops_more way before b more out status (text, appends, ends) =
    (text, appends, λ further left. subst (λ (x : List ℕ). ReplyEnds way status x left text) (sym (append_assoc b more further)) (ends (more ++ further) left))

-- what was taken so far
pub record HasTaken (before left_before left_now : Option (List ℕ)) (t : Teller) (out : Option (List ℕ)) : Type 0 where
  pub taken : List ℕ
  pub stands : StandsAt before taken t out
  pub consumed : Consumes left_before left_now taken

-- nothing was taken yet
pub taken_none : (w : Way) (t : Teller) (left out : Option (List ℕ)) → Begins w t → HasTaken out left left t out
taken_none w t left out b = record {
  taken = [];
  stands = record {
    ps = [];
    rest = [];
    reads = b.reads;
    inside = inr (b.inside, refl);
    payload = λ (some : 0 < t.decoder.left). absurd (still_left t.decoder some b.reads.holds);
    count = b.refusals;
    text = Appends-nil out;
  };
  consumed = Consumes-nil left;
}

-- what was taken and written by an end
abbrev pub Told : Option (List ℕ) → Option (List ℕ) → Way → Option (List ℕ) → Option (List ℕ) → Status → Type 0
Told before left_before way left_now out' status =
    (taken text : List ℕ) × Consumes left_before left_now taken × Appends before out' text × ReplyEnds way status taken left_now text

module _ (before left_before left_mid : Option (List ℕ)) (t : Teller) (out : Option (List ℕ)) (h : HasTaken before left_before left_mid t out) where
  -- a piece more
  pub taken_more : (left_now : Option (List ℕ)) (piece : List ℕ) (new : Teller) (out' : Option (List ℕ)) → Consumes left_mid left_now piece → StandsAt before (h.taken ++ piece) new out'
      → HasTaken before left_before left_now new out'
  taken_more left_now piece new out' more st = record { taken = h.taken ++ piece; stands = st; consumed = Consumes-trans left_before left_mid left_now h.taken piece h.consumed more }

  -- a read failed
  pub told_failed : (left_now : Option (List ℕ)) (count : ℕ) → Keeps left_mid left_now → Told before left_before t.way left_now out (ReadFault count)
  told_failed left_now count kept =
      (h.taken, all_written t.way h.stands.ps, Consumes-kept left_before left_mid left_now h.taken h.consumed kept, h.stands.text, (h.stands.ps, h.stands.rest, h.stands.reads.script, refl))

  -- the input ended
  pub told_ended : (left_now : Option (List ℕ)) (piece : List ℕ) (status : Status) → Consumes left_mid left_now piece → piece ≡ [] → Tells t.way before h.taken left_now out status
      → Told before left_before t.way left_now out status
  told_ended left_now piece status more none (text, appends, ends) =
      (h.taken, text, taken_still left_before left_mid left_now h.taken piece h.consumed more none, appends, ends)

  -- it ended within a piece
  pub told_stopped : (left_now out' : Option (List ℕ)) (piece : List ℕ) (status : Status) → Consumes left_mid left_now piece → Stops t.way before (h.taken ++ piece) out' status
      → Told before left_before t.way left_now out' status
  told_stopped left_now out' piece status more (text, appends, ends) = (
    h.taken ++ piece,
    text,
    Consumes-trans left_before left_mid left_now h.taken piece h.consumed more,
    appends,
    subst (λ (x : List ℕ). ReplyEnds t.way status x left_now text) (append-nil (h.taken ++ piece)) (ends [] left_now),
  )

  -- too many bytes
  pub told_quota : (bytes : ℕ) → most_bytes < t.taken → t.decoder.offset ≡ t.taken → bytes ≡ 2 ^ 62 → Told before left_before t.way left_mid out (Quota bytes)
  told_quota bytes many offset is = (
    h.taken,
    all_written t.way h.stands.ps,
    h.consumed,
    h.stands.text,
    (h.stands.ps, h.stands.rest, h.stands.reads.script, refl, omega (arith, many, h.stands.reads.offset, offset), is),
  )
