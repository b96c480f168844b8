-- The status of an input that is served to its end, and the laws of reply frames on which it rests.
use Rattle.std.proofs.Common.{◌≡◌, ◌≤◌, ◌<◌, inl, inr, ℕ, zero, suc, ◌+◌, ◌∷◌, List, [], ◌++◌, length, take, drop, sym, ap, ◌∙◌, arith, length-append, append-nil, refl, subst, take-append-drop, take-take}
use Rattle.std.specs.Prelude.{Option, Some, None, slice_index}
use Rattle.std.specs.Io.KnownBytes.{Consumes}
use Rattle.std.proofs.lemmas.List.{take-append-le}
use Rattle.std.proofs.lemmas.Bool.{cases_lt}
use Rattle.frame_codec.specs.Rows.{why_at}
use Rattle.frame_codec.specs.Grammar.{text_of, IsFramed}
use Rattle.frame_codec.specs.Frames.{reply_fields, replies, Replied, IsReplyScript}
use Rattle.frame_codec.proofs.Scripts.{splits-one, splits-front}
use Rattle.frame_codec.proofs.Replies.{replies-free}
use Rattle.rbg_talk.specs.declared.way.Way.{Way}
use Rattle.rbg_talk.specs.declared.way.Way.TheVariants.{Show, Bytes}
use Rattle.rbg_talk.specs.declared.top.Command.{Command}
use Rattle.rbg_talk.specs.declared.top.Command.TheVariants as commands
use Rattle.rbg_talk.specs.declared.status.Status.{Status}
use Rattle.rbg_talk.specs.declared.status.Status.TheVariants.{Done, Usage, Line, Malformed, Cut, ReadFault, WriteFault, Refused, Memory, Quota}
use Rattle.rbg_talk.specs.Lines.{lines}
use Rattle.rbg_talk.specs.Asking.{first_fault}
use Rattle.rbg_talk.specs.Ends.{AskEnds, ReplyEnds, IsBadReplyAt, most_bytes, refusals}
use Rattle.rbg_talk.specs.Run.{Outside, Passes, CommandEnds, HelpEnds, IsCommand, command_word, Ran, HasStatusCause, NoneRose, ask_status, tell_status, IsUnlessMemory, IsComplete}

-- ---- replies in a row

replies-one : (b : List ℕ) (ps others : List Replied) (rest rest' : List ℕ) → IsReplyScript b ps rest → IsReplyScript b others rest' → (ps ≡ others) × (rest ≡ rest')
replies-one b ps others rest rest' s t = splits-one (text_of replies) (IsFramed replies) replies-free ps others rest rest' s.served t.served s.part t.part (sym s.bytes ∙ t.bytes)

replies-front : (b more : List ℕ) (ps : List Replied) (rest : List ℕ) → IsReplyScript (b ++ more) ps rest → (first later : List Replied) × (rest' : List ℕ) × (ps ≡ first ++ later) × IsReplyScript b first rest'
replies-front b more ps rest s = splits-front (text_of replies) (IsFramed replies) b more ps rest s.served s.part s.bytes

-- of two bad bytes none comes first
not-before : (b : List ℕ) (rs others : List Replied) (offset why offset' why' : ℕ) → IsBadReplyAt b rs offset why → IsBadReplyAt b others offset' why' → offset < offset' → ⊥
not-before b rs others offset why offset' why' s t less =
    let le : offset + 1 ≤ offset' = omega (arith, less) in
    let inner : take (offset + 1) (take offset' b) ≡ take (offset + 1) b = take-take (offset + 1) offset' b le in
    let whole : take offset' b ≡ take (offset + 1) b ++ drop (offset + 1) (take offset' b) =
    sym (take-append-drop (offset + 1) (take offset' b)) ∙ ap (λ (x : List ℕ). x ++ drop (offset + 1) (take offset' b)) inner in
    let front = replies-front (take (offset + 1) b) (drop (offset + 1) (take offset' b)) others t.rest (subst (λ (x : List ℕ). IsReplyScript x others t.rest) whole t.before) in
    s.bad front.0 front.2 front.4

same-offset : (b : List ℕ) (rs others : List Replied) (offset why offset' why' : ℕ) → IsBadReplyAt b rs offset why → IsBadReplyAt b others offset' why' → offset ≡ offset'
same-offset b rs others offset why offset' why' s t = elim (cases_lt offset offset') [
  | inl less ↦ absurd (not-before b rs others offset why offset' why' s t less)
  | inr ge ↦ elim (cases_lt offset' offset) [
    | inl less ↦ absurd (not-before b others rs offset' why' offset why t s less)
    | inr ge' ↦ omega (arith, ge, ge')
  ]
]

one-bad : (b : List ℕ) (rs others : List Replied) (offset why offset' why' : ℕ) → IsBadReplyAt b rs offset why → IsBadReplyAt b others offset' why' →
    (rs ≡ others) × (offset ≡ offset') × (why ≡ why')
one-bad b rs others offset why offset' why' s t =
    let e = same-offset b rs others offset why offset' why' s t in
    let same = replies-one (take offset' b) rs others s.rest t.rest (subst (λ (o : ℕ). IsReplyScript (take o b) rs s.rest) e s.before) t.before in
    (same.0, e, s.number ∙ (ap (λ (x : List ℕ). why_at reply_fields (length x)) same.1 ∙ sym t.number))

-- a script has no bad byte
script-not-bad : (b : List ℕ) (rs others : List Replied) (rest : List ℕ) (offset why : ℕ) → IsReplyScript b rs rest → IsBadReplyAt b others offset why → ⊥
script-not-bad b rs others rest offset why s t =
    let front = replies-front (take (offset + 1) b) (drop (offset + 1) b) rs rest (subst (λ (x : List ℕ). IsReplyScript x rs rest) (sym (take-append-drop (offset + 1) b)) s) in
    t.bad front.0 front.2 front.4

-- a bad byte stays where it is, whatever follows
bad-more : (b more : List ℕ) (rs : List Replied) (offset why : ℕ) → IsBadReplyAt b rs offset why → IsBadReplyAt (b ++ more) rs offset why
bad-more b more rs offset why s =
    let front : take offset (b ++ more) ≡ take offset b = take-append-le offset b more (omega (arith, s.within)) in
    let next : take (offset + 1) (b ++ more) ≡ take (offset + 1) b = take-append-le (offset + 1) b more (omega (arith, s.within)) in
    record {
      within = omega (arith, s.within, length-append b more);
      rest = s.rest;
      before = subst (λ (x : List ℕ). IsReplyScript x rs s.rest) (sym front) s.before;
      bad = λ (others : List Replied) (rest' : List ℕ) (t : IsReplyScript (take (offset + 1) (b ++ more)) others rest'). s.bad others rest' (subst (λ (x : List ℕ). IsReplyScript x others rest') next t);
      number = s.number;
    }

-- ---- ends that no fault of the outside brings

abbrev IsInner : Status → Type 0
IsInner (ReadFault count) = ⊥
IsInner (WriteFault count) = ⊥
IsInner status = Unit {0}

inner : (before now : Outside) (status : Status) → NoneRose before now → HasStatusCause before now status → IsInner status
inner before now (ReadFault count) none cause = none.input cause.0
inner before now (WriteFault count) none cause = none.output cause.0
inner before now status none cause = tt

-- all bytes were taken
taken-all : (bytes taken ys : List ℕ) → bytes ≡ taken ++ ys → ys ≡ [] → taken ≡ bytes
taken-all bytes taken ys all none = sym (all ∙ (ap (λ (y : List ℕ). taken ++ y) none ∙ append-nil taken))

-- more bytes than there are
too-many : (bytes taken ys : List ℕ) → bytes ≡ taken ++ ys → length bytes ≤ most_bytes → most_bytes < length taken → ⊥
too-many bytes taken ys all most many = omega (arith, ap length all, length-append taken ys, most, many)

-- ---- `ask`

ask-ends : (bytes taken text : List ℕ) (left : Option (List ℕ)) (status : Status) → Consumes (Some bytes) left taken → length bytes ≤ most_bytes → IsInner status → AskEnds status taken left text
    → IsUnlessMemory status (ask_status (first_fault 1 (lines bytes)))
ask-ends bytes taken text None status all most own ends = absurd all
ask-ends bytes taken text (Some ys) Done all most own ends =
    inl (sym (ap ask_status (sym (ap (λ (b : List ℕ). first_fault 1 (lines b)) (taken-all bytes taken ys all ends.0)) ∙ ends.1)))
ask-ends bytes taken text (Some ys) (Line number fault) all most own (inl here, written) =
    inl (sym (ap ask_status (sym (ap (λ (b : List ℕ). first_fault 1 (lines b)) (taken-all bytes taken ys all here.0)) ∙ here.1)))
ask-ends bytes taken text (Some ys) (Line number fault) all most own (inr whatever, written) =
    inl (sym (ap ask_status (ap (λ (b : List ℕ). first_fault 1 (lines b)) all ∙ whatever ys)))
ask-ends bytes taken text (Some ys) Memory all most own ends = inr refl
ask-ends bytes taken text (Some ys) (Quota count) all most own ends = absurd (too-many bytes taken ys all most ends.1)
ask-ends bytes taken text (Some ys) (ReadFault count) all most own ends = absurd own
ask-ends bytes taken text (Some ys) (WriteFault count) all most own ends = absurd own
ask-ends bytes taken text (Some ys) Usage all most own ends = absurd ends
ask-ends bytes taken text (Some ys) (Malformed offset why) all most own ends = absurd ends
ask-ends bytes taken text (Some ys) (Cut offset) all most own ends = absurd ends
ask-ends bytes taken text (Some ys) (Refused count) all most own ends = absurd ends

-- ---- `show` and `bytes`

refused-status : (n : ℕ) → 0 < n → Refused n ≡ tell_status n
refused-status zero some = absurd (omega (arith, some))
refused-status (suc n) some = refl

module _ (way : Way) (bytes taken text ys : List ℕ) (all : bytes ≡ taken ++ ys) (most : length bytes ≤ most_bytes) where
  moved-script : (ps : List Replied) (rest : List ℕ) → ys ≡ [] → IsReplyScript taken ps rest → IsReplyScript bytes ps rest
  moved-script ps rest none s = subst (λ (b : List ℕ). IsReplyScript b ps rest) (taken-all bytes taken ys all none) s

  moved-bad : (ps : List Replied) (offset why : ℕ) → IsBadReplyAt taken ps offset why → IsBadReplyAt bytes ps offset why
  moved-bad ps offset why bad = subst (λ (b : List ℕ). IsBadReplyAt b ps offset why) (sym all) (bad-more taken ys ps offset why bad)

  whole-ends : (status : Status) (ps : List Replied) → IsInner status → IsReplyScript bytes ps [] → ReplyEnds way status taken (Some ys) text → IsUnlessMemory status (tell_status (refusals ps))
  whole-ends Done ps own s (qs, t, none, zeros, written) =
      inl (sym (ap tell_status (ap refusals (replies-one bytes ps qs [] [] s (moved-script qs [] none t)).0 ∙ zeros)))
  whole-ends (Refused count) ps own s (qs, t, none, some, counted, written) =
      inl (refused-status count some ∙ sym (ap tell_status (ap refusals (replies-one bytes ps qs [] [] s (moved-script qs [] none t)).0 ∙ counted)))
  whole-ends (Malformed offset why) ps own s (qs, bad, written) = absurd (script-not-bad bytes ps qs [] offset why s (moved-bad qs offset why bad))
  whole-ends (Cut offset) ps own s (qs, rest, t, some, none, at, written) =
      absurd (omega (arith, some, ap length (replies-one bytes ps qs [] rest s (moved-script qs rest none t)).1))
  whole-ends Memory ps own s ends = inr refl
  whole-ends (Quota count) ps own s (qs, rest, t, written, many, is) = absurd (too-many bytes taken ys all most many)
  whole-ends (ReadFault count) ps own s ends = absurd own
  whole-ends (WriteFault count) ps own s ends = absurd own
  whole-ends Usage ps own s ends = absurd ends
  whole-ends (Line number fault) ps own s ends = absurd ends

  cut-ends : (status : Status) (ps : List Replied) (rest : List ℕ) → IsInner status → IsReplyScript bytes ps rest → 0 < length rest → ReplyEnds way status taken (Some ys) text
      → IsUnlessMemory status (Cut (length bytes))
  cut-ends Done ps rest own s inside (qs, t, none, zeros, written) = absurd (omega (arith, inside, ap length (replies-one bytes ps qs rest [] s (moved-script qs [] none t)).1))
  cut-ends (Refused count) ps rest own s inside (qs, t, none, some, counted, written) =
      absurd (omega (arith, inside, ap length (replies-one bytes ps qs rest [] s (moved-script qs [] none t)).1))
  cut-ends (Malformed offset why) ps rest own s inside (qs, bad, written) = absurd (script-not-bad bytes ps qs rest offset why s (moved-bad qs offset why bad))
  cut-ends (Cut offset) ps rest own s inside (qs, rest', t, some, none, at, written) =
      inl (ap Cut (at ∙ ap length (taken-all bytes taken ys all none)))
  cut-ends Memory ps rest own s inside ends = inr refl
  cut-ends (Quota count) ps rest own s inside (qs, rest', t, written, many, is) = absurd (too-many bytes taken ys all most many)
  cut-ends (ReadFault count) ps rest own s inside ends = absurd own
  cut-ends (WriteFault count) ps rest own s inside ends = absurd own
  cut-ends Usage ps rest own s inside ends = absurd ends
  cut-ends (Line number fault) ps rest own s inside ends = absurd ends

  bad-ends : (status : Status) (ps : List Replied) (offset why : ℕ) → IsInner status → IsBadReplyAt bytes ps offset why → ReplyEnds way status taken (Some ys) text
      → IsUnlessMemory status (Malformed offset why)
  bad-ends Done ps offset why own bad (qs, t, none, zeros, written) = absurd (script-not-bad bytes qs ps [] offset why (moved-script qs [] none t) bad)
  bad-ends (Refused count) ps offset why own bad (qs, t, none, some, counted, written) = absurd (script-not-bad bytes qs ps [] offset why (moved-script qs [] none t) bad)
  bad-ends (Malformed at number) ps offset why own bad (qs, other, written) =
      let same = one-bad bytes qs ps at number offset why (moved-bad qs at number other) bad in
      inl (ap (λ (o : ℕ). Malformed o number) same.1 ∙ ap (λ (w : ℕ). Malformed offset w) same.2)
  bad-ends (Cut at) ps offset why own bad (qs, rest, t, some, none, is, written) = absurd (script-not-bad bytes qs ps rest offset why (moved-script qs rest none t) bad)
  bad-ends Memory ps offset why own bad ends = inr refl
  bad-ends (Quota count) ps offset why own bad (qs, rest, t, written, many, is) = absurd (too-many bytes taken ys all most many)
  bad-ends (ReadFault count) ps offset why own bad ends = absurd own
  bad-ends (WriteFault count) ps offset why own bad ends = absurd own
  bad-ends Usage ps offset why own bad ends = absurd ends
  bad-ends (Line number fault) ps offset why own bad ends = absurd ends

-- what is left of told bytes is told
told-left : (bytes taken : List ℕ) (left : Option (List ℕ)) → Consumes (Some bytes) left taken → (ys : List ℕ) × (left ≡ Some ys) × (bytes ≡ taken ++ ys)
told-left bytes taken None all = absurd all
told-left bytes taken (Some ys) all = (ys, refl, all)

-- ---- commands by their words

abbrev letter : Command → ℕ
letter commands.Ask = 97
letter (commands.Replies Show) = 115
letter (commands.Replies Bytes) = 98
letter commands.Help = 45

letter-is : (c : Command) → slice_index (command_word c) 0 ≡ letter c
letter-is commands.Ask = refl
letter-is (commands.Replies Show) = refl
letter-is (commands.Replies Bytes) = refl
letter-is commands.Help = refl

by-letter : (c d : Command) → letter c ≡ letter d → c ≡ d
by-letter commands.Ask commands.Ask e = refl
by-letter commands.Ask (commands.Replies Show) e = absurd (omega (arith, e))
by-letter commands.Ask (commands.Replies Bytes) e = absurd (omega (arith, e))
by-letter commands.Ask commands.Help e = absurd (omega (arith, e))
by-letter (commands.Replies Show) commands.Ask e = absurd (omega (arith, e))
by-letter (commands.Replies Show) (commands.Replies Show) e = refl
by-letter (commands.Replies Show) (commands.Replies Bytes) e = absurd (omega (arith, e))
by-letter (commands.Replies Show) commands.Help e = absurd (omega (arith, e))
by-letter (commands.Replies Bytes) commands.Ask e = absurd (omega (arith, e))
by-letter (commands.Replies Bytes) (commands.Replies Show) e = absurd (omega (arith, e))
by-letter (commands.Replies Bytes) (commands.Replies Bytes) e = refl
by-letter (commands.Replies Bytes) commands.Help e = absurd (omega (arith, e))
by-letter commands.Help commands.Ask e = absurd (omega (arith, e))
by-letter commands.Help (commands.Replies Show) e = absurd (omega (arith, e))
by-letter commands.Help (commands.Replies Bytes) e = absurd (omega (arith, e))
by-letter commands.Help commands.Help e = refl

abbrev first-of : List (List ℕ) → List ℕ
first-of [] = []
first-of (word ∷ words) = word

-- words are one command at most
one-command : (words : List (List ℕ)) (c d : Command) → IsCommand words c → IsCommand words d → c ≡ d
one-command words c d is other =
    by-letter c d (sym (letter-is c) ∙ (ap (λ (ws : List (List ℕ)). slice_index (first-of ws) 0) (sym is ∙ other) ∙ letter-is d))

-- what words did that are this command
did : (words : List (List ℕ)) (before now : Outside) (status : Status) (d : Command) → IsCommand words d → Ran words before now status → Passes (CommandEnds d status) before now
did words before now status d is (inl (c, other, passes)) = subst (λ (e : Command). Passes (CommandEnds e status) before now) (one-command words c d other is) passes
did words before now status d is (inr none) = absurd (none.0 d is)

-- ---- how `--help` ends

help-ends : (taken text : List ℕ) (left : Option (List ℕ)) (status : Status) → IsInner status → HelpEnds status taken left text → status ≡ Done
help-ends taken text left Done own ends = refl
help-ends taken text left (WriteFault count) own ends = absurd own
help-ends taken text left status own ends = absurd ends

module _ (words : List (List ℕ)) (before now : Outside) (status : Status) (ran : Ran words before now status) (cause : HasStatusCause before now status) where
  -- some bytes of those told were taken, and the rest is left
  abbrev Took : Command → List ℕ → Type 0
  Took d bytes = (taken text ys : List ℕ) × (bytes ≡ taken ++ ys) × CommandEnds d status taken (Some ys) text

  took : (d : Command) (bytes : List ℕ) → IsCommand words d → before.left ≡ Some bytes → Took d bytes
  took d bytes is told =
      let passes = did words before now status d is ran in
      let rest = told-left bytes passes.0 now.left (subst (λ (l : Option (List ℕ)). Consumes l now.left passes.0) told passes.2) in
      (passes.0, passes.1, rest.0, rest.2, subst (λ (l : Option (List ℕ)). CommandEnds d status passes.0 l passes.1) rest.1 passes.4)

  pub complete : IsComplete words before now status
  complete = record {
    asked = λ bytes served is.
        let t = took commands.Ask bytes is served.told in
        ask-ends bytes t.0 t.1 (Some t.2) status t.3 served.most (inner before now status served.none cause) t.4;
    told = λ way bytes ps served is script.
        let t = took (commands.Replies way) bytes is served.told in
        whole-ends way bytes t.0 t.1 t.2 t.3 served.most status ps (inner before now status served.none cause) script t.4;
    cut = λ way bytes ps rest served is script inside.
        let t = took (commands.Replies way) bytes is served.told in
        cut-ends way bytes t.0 t.1 t.2 t.3 served.most status ps rest (inner before now status served.none cause) script inside t.4;
    bad = λ way bytes ps offset why served is bad.
        let t = took (commands.Replies way) bytes is served.told in
        bad-ends way bytes t.0 t.1 t.2 t.3 served.most status ps offset why (inner before now status served.none cause) bad t.4;
    help = λ none is.
        let passes = did words before now status commands.Help is ran in
        help-ends passes.0 passes.1 now.left status (inner before now status none cause) passes.4;
  }
