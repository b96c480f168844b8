-- What a byte adds to replies in a row.
use Rattle.std.proofs.Common.{◌≡◌, ◌<◌, inl, inr, ℕ, ◌+◌, ◌∷◌, List, [], ◌++◌, length, sym, ap, ◌∙◌, arith, length-append, append_assoc, append-nil, refl, subst, flat_map}
use Rattle.std.proofs.lemmas.Bool.{cases_lt}
use Rattle.frame_codec.specs.declared.frames.ReplyHead.{ReplyHead}
use Rattle.frame_codec.specs.Rows.{spelled, why_at, IsHeadPart, BeginsNoHead}
use Rattle.frame_codec.specs.Grammar.{text_of, IsFramed, IsFramePart}
use Rattle.frame_codec.specs.Frames.{replies, reply_fields, reply_numbers, Replied, IsReplyHead, IsReplyScript}
use Rattle.frame_codec.proofs.Scripts.{script-more, script-whole, splits-none}
use Rattle.frame_codec.proofs.Grammar.{framed-part, framed-string, framed-none}
use Rattle.frame_codec.proofs.Replies.{exact, replies-free}
use Rattle.frame_codec.specs.declared.reply_decoder.ReplyStep.{ReplyStep}
use Rattle.frame_codec.specs.declared.reply_decoder.ReplyStep.TheVariants.{More, Head, Payload, Bad}
use Rattle.frame_codec.specs.Replying.{Replying, ReplySteps, Holds, ReplyReads, ReplyReadsOn}

whole-head : (h : ReplyHead) (string : List ℕ) → IsReplyHead h → length string ≡ h.len → IsFramed replies (record { head = h; string = string })
whole-head h string is len = record { taken = is; same = refl; string = len }

part-string : (h : ReplyHead) (string : List ℕ) → IsReplyHead h → length string < h.len → IsFramePart replies (spelled reply_fields (reply_numbers h) ++ string)
part-string h string is less =
    framed-string replies (reply_numbers h) string exact is less

pushed : (b : List ℕ) (byte : ℕ) → length (b ++ byte ∷ []) ≡ length b + 1
pushed b byte = length-append b (byte ∷ [])

more-on : (b : List ℕ) (ps : List Replied) (rest : List ℕ) (byte : ℕ) (old new : Replying) → ReplyReads b ps rest old → new.offset ≡ old.offset + 1 →
    IsFramePart replies (rest ++ byte ∷ []) → Holds (rest ++ byte ∷ []) new → ReplyReads (b ++ byte ∷ []) ps (rest ++ byte ∷ []) new
more-on b ps rest byte old new r offset part holds = record {
  script = script-more (text_of replies) (IsFramed replies) b ps rest byte r.script part;
  holds = holds;
  offset = omega (arith, offset, r.offset, pushed b byte);
}

whole-on : (b : List ℕ) (ps : List Replied) (rest : List ℕ) (byte : ℕ) (a : Replied) (old new : Replying) → ReplyReads b ps rest old → new.offset ≡ old.offset + 1 →
    IsFramed replies a → rest ++ byte ∷ [] ≡ text_of replies a → new.left ≡ 0 → new.rest ≡ [] → ReplyReads (b ++ byte ∷ []) (ps ++ a ∷ []) [] new
whole-on b ps rest byte a old new r offset framed e none empty = record {
  script = script-whole (text_of replies) (IsFramed replies) b ps rest byte a r.script framed e;
  holds = inl (none, sym empty);
  offset = omega (arith, offset, r.offset, pushed b byte);
}

-- between frames or within a head
held : (rest : List ℕ) (d : Replying) → Holds rest d → d.left ≡ 0 → rest ≡ d.rest
held rest d (inl h) none = h.1
held rest d (inr h) none = absurd (omega (arith, none, h.2))

-- within a payload
paying : (b : List ℕ) (ps : List Replied) (rest : List ℕ) (byte x : ℕ) (old new : Replying) → ReplyReads b ps rest old → Holds rest old → new.offset ≡ old.offset + 1 →
    ReplySteps old byte (Payload x) new → ReplyReadsOn b ps rest byte (Payload x) new
paying b ps rest byte x old new r (inl h) offset step = absurd (omega (arith, h.0, step.left))
paying b ps rest byte x old new r (inr (h, front, some, empty, is, e, sum)) offset step =
    let text : rest ++ byte ∷ [] ≡ spelled reply_fields (reply_numbers h) ++ (front ++ byte ∷ []) =
    ap (λ (y : List ℕ). y ++ byte ∷ []) e ∙ append_assoc (spelled reply_fields (reply_numbers h)) front (byte ∷ []) in
    let len : length (front ++ byte ∷ []) + new.left ≡ h.len = omega (arith, sum, step.left, length-append front (byte ∷ [])) in (
      step.same,
      elim (cases_lt 0 new.left) [
        | inl more ↦ inl (
          more,
          more-on b ps rest byte old new r offset
              (subst (IsFramePart replies) (sym text) (part-string h (front ++ byte ∷ []) is (omega (arith, len, more))))
              (inr (h, front ++ byte ∷ [], more, step.rest, is, text, len)),
        )
        | inr none ↦ inr (
          h,
          front,
          e,
          whole-on b ps rest byte (record { head = h; string = front ++ byte ∷ [] }) old new r offset (whole-head h (front ++ byte ∷ []) is (omega (arith, len, none))) text (omega (arith, none)) step.rest,
        )
      ],
    )

pub reply-on : (b : List ℕ) (ps : List Replied) (rest : List ℕ) (byte : ℕ) (old : Replying) (step : ReplyStep) (new : Replying) → ReplyReads b ps rest old →
    new.offset ≡ old.offset + 1 → ReplySteps old byte step new → ReplyReadsOn b ps rest byte step new
reply-on b ps rest byte old More new r offset step =
    let same : rest ≡ old.rest = held rest old r.holds step.0 in
    let text : rest ++ byte ∷ [] ≡ old.rest ++ byte ∷ [] = ap (λ (y : List ℕ). y ++ byte ∷ []) same in
    more-on b ps rest byte old new r offset (framed-part replies (rest ++ byte ∷ []) exact (subst (IsHeadPart reply_fields) (sym text) step.1.part)) (inl (step.1.left, text ∙ sym step.1.rest))
reply-on b ps rest byte old (Head h) new r offset step =
    let same : rest ≡ old.rest = held rest old r.holds step.0 in
    let text : rest ++ byte ∷ [] ≡ spelled reply_fields (reply_numbers h) = ap (λ (y : List ℕ). y ++ byte ∷ []) same ∙ step.1.bytes in
    let grouped : rest ++ byte ∷ [] ≡ spelled reply_fields (reply_numbers h) ++ [] = text ∙ sym (append-nil (spelled reply_fields (reply_numbers h))) in (
      text,
      elim (cases_lt 0 h.len) [
        | inl more ↦ inl (
          more,
          more-on b ps rest byte old new r offset
              (subst (IsFramePart replies) (sym grouped) (part-string h [] step.1.served more))
              (inr (h, [], omega (arith, step.1.left, more), step.1.rest, step.1.served, grouped, omega (arith, step.1.left))),
        )
        | inr none ↦ inr (
          omega (arith, none),
          whole-on b ps rest byte (record { head = h; string = [] }) old new r offset (whole-head h [] step.1.served (omega (arith, none))) grouped (omega (arith, step.1.left, none)) step.1.rest,
        )
      ],
    )
reply-on b ps rest byte old (Payload x) new r offset step = paying b ps rest byte x old new r r.holds offset step
reply-on b ps rest byte old (Bad at why) new r offset step =
    let same : rest ≡ old.rest = held rest old r.holds step.0 in
    let text : old.rest ++ byte ∷ [] ≡ rest ++ byte ∷ [] = ap (λ (y : List ℕ). y ++ byte ∷ []) (sym same) in
    let none = framed-none replies (rest ++ byte ∷ []) (subst (BeginsNoHead reply_fields) text step.2.none) in (
      (λ (others : List Replied) (rest' : List ℕ) (t : IsReplyScript (b ++ byte ∷ []) others rest').
          splits-none (text_of replies) (IsFramed replies) replies-free ps others rest byte rest' r.script.served t.served r.script.part t.part none
          (sym (append_assoc (flat_map (text_of replies) ps) rest (byte ∷ [])) ∙ (ap (λ (y : List ℕ). y ++ byte ∷ []) (sym r.script.bytes) ∙ t.bytes))),
      step.1 ∙ r.offset,
      step.2.number ∙ ap (λ (y : List ℕ). why_at reply_fields (length y)) (sym same),
    )
