-- What one byte more makes of a reply head, in the words of the code.
use Rattle.std.proofs.Common.{◌≡◌, inl, ℕ, ◌+◌, ◌∷◌, List, [], ◌++◌, length, take, sym, ap, ◌∙◌, refl, subst}
use Rattle.frame_codec.specs.declared.frames.ReplyHead.{ReplyHead}
use Rattle.frame_codec.specs.declared.table.Table.{Table}
use Rattle.frame_codec.specs.declared.table.Table.TheVariants.{Replies}
use Rattle.frame_codec.specs.declared.head.Head.{Head}
use Rattle.frame_codec.specs.declared.head.HeadStep.TheVariants as heads
use Rattle.frame_codec.specs.declared.reply_decoder.ReplyStep.TheVariants as replied
use Rattle.frame_codec.specs.Rows.{Field, Takes, spelled, why_at, IsHeadPart, BeginsNoHead}
use Rattle.frame_codec.specs.Grammar.{text_of, IsFramed, IsFramePart}
use Rattle.frame_codec.specs.Frames.{replies, reply_fields, reply_numbers}
use Rattle.frame_codec.specs.Heads.{fields_of, numbers_of, bytes_of, IsBegun, HeadSteps}
use Rattle.frame_codec.specs.Replying.{Replying, ReplySteps, ReplyReads}
use Rattle.frame_codec.proofs.Scripts.{script-none}
use Rattle.frame_codec.proofs.Grammar.{framed-part}
use Rattle.frame_codec.proofs.Replies.{exact}
use Rattle.frame_codec.proofs.Heads.{begun-part}
use Rattle.frame_codec.proofs.Decoding.{whole-takes, whole-bytes}

-- what contracts see of a decoder of replies
abbrev pub replying : Head → ℕ → ℕ → Replying
replying h left offset = record { rest = bytes_of h; left = left; offset = offset }

reply-part : (h : Head) → h.table ≡ Replies → IsBegun h → IsHeadPart reply_fields (bytes_of h)
reply-part h table b = subst (λ (t : Table). IsHeadPart (fields_of t) (bytes_of h)) table (begun-part h b)

pub reply-more : (h new : Head) (left offset byte : ℕ) → new.table ≡ Replies → left ≡ 0 → HeadSteps h byte heads.More new →
    ReplySteps (replying h left offset) byte replied.More (replying new left (offset + 1))
reply-more h new left offset byte table none step =
    (none, record { part = subst (IsHeadPart reply_fields) step.1 (reply-part new table step.0); rest = step.1; left = none })

pub reply-bad : (h new : Head) (left offset byte why : ℕ) → h.table ≡ Replies → IsBegun h → left ≡ 0 → HeadSteps h byte (heads.Bad why) new →
    ReplySteps (replying h left offset) byte (replied.Bad offset why) (replying new left (offset + 1))
reply-bad h new left offset byte why table b none step = (
  none,
  refl,
  record {
    part = reply-part h table b;
    none = subst (λ (t : Table). BeginsNoHead (fields_of t) (bytes_of h ++ byte ∷ [])) table step.0;
    number = step.1 ∙ ap (λ (t : Table). why_at (fields_of t) (length (bytes_of h))) table;
    rest = ap bytes_of step.2;
    left = none;
  },
)

pub reply-head : (h mid new : Head) (r : ReplyHead) (left offset byte : ℕ) → mid.table ≡ Replies → left ≡ 0 → HeadSteps h byte heads.Whole mid →
    r ≡ replies.head (take (length reply_fields) mid.numbers) → bytes_of new ≡ [] →
    ReplySteps (replying h left offset) byte (replied.Head r) (replying new r.len (offset + 1))
reply-head h mid new r left offset byte table none step same empty =
    let fields : fields_of mid.table ≡ reply_fields = ap fields_of table in
    let all : take (length reply_fields) mid.numbers ≡ numbers_of mid =
    ap (λ (k : ℕ). take k mid.numbers) (sym (step.0.index ∙ ap (λ (f : List Field). length f) fields)) in
    let taken : Takes reply_fields [] (numbers_of mid) = subst (λ (f : List Field). Takes f [] (numbers_of mid)) fields (whole-takes mid step.0) in
    let numbers : reply_numbers r ≡ numbers_of mid = ap reply_numbers (same ∙ ap replies.head all) ∙ exact (numbers_of mid) taken in (
      none,
      record {
        served = subst (λ (x : List ℕ). Takes reply_fields [] x) (sym numbers) taken;
        bytes = sym step.1 ∙ (whole-bytes mid step.0 ∙ (ap (λ (f : List Field). spelled f (numbers_of mid)) fields ∙ ap (λ (x : List ℕ). spelled reply_fields x) (sym numbers)));
        rest = empty;
        left = refl;
      },
    )

-- nothing has been read yet
pub fresh-replies : (h : Head) → h.table ≡ Replies → IsBegun h → bytes_of h ≡ [] → ReplyReads [] [] [] (replying h 0 0)
fresh-replies h table b empty =
    let part : IsFramePart replies [] = framed-part replies [] exact (subst (IsHeadPart reply_fields) empty (reply-part h table b)) in
    record { script = script-none (text_of replies) (IsFramed replies) part; holds = inl (refl, sym empty); offset = refl }
