-- How a session goes on by the bytes of a frame, and how it ends there.
use Rattle.std.proofs.Common.{◌≡◌, ◌<◌, ℕ, ◌+◌, ◌∷◌, List, [], ◌++◌, length, take, drop, sym, ap, ◌∙◌, arith, length-append, append_assoc, append-nil, refl, subst, inl, inr, take-append-drop}
use Rattle.std.specs.declared.option.Option.{Option}
use Rattle.std.specs.Io.KnownBytes.{Appends}
use Rattle.std.proofs.KnownBytes.{Appends-trans}
use Rattle.std.proofs.lemmas.List.{take_all}
use Rattle.rbg_bytes.specs.Streams.{AppendsFront}
use Rattle.frame_codec.specs.Grammar.{text_of}
use Rattle.frame_codec.specs.Frames.{Asked, replies, IsScript, IsBadAt, BeginsWith}
use Rattle.frame_codec.specs.Decoding.{Begun, Reads}
use Rattle.frame_codec.proofs.RequestLaws.{bad-more, script-begins, begins-more}
use Rattle.tree_rules.specs.History.{Act, Entry, acts_of}
use Rattle.tree_core.specs.Made.{AreReads, samples_in}
use Rattle.tree_core.specs.Solo.{SoloView, StandAfter}
use Rattle.tree_core.proofs.Made.{acts_more, reads_on, samples_count}
use Rattle.session_core.specs.declared.end.End.TheVariants.{Bad, WriteFault, Quota}
use Rattle.session_core.specs.Ends.{written, malformed}
use Rattle.session_core.specs.Answers.{Answered, asked_of, entries_of, reply_to, service}
use Rattle.session_core.specs.Session.{AreMade, Began, Moment, IsAnswered, Stands, Stops}
use Rattle.session_core.proofs.Replies.{asked-push, behind-push, entries-push, written-push, asked-more, history-more, right}

-- the frames up to a place are a beginning, whatever follows
beginning : (taken bytes more : List ℕ) (rs : List Asked) (count : ℕ) → IsScript (taken ++ take count bytes) rs [] → BeginsWith ((taken ++ bytes) ++ more) rs
beginning taken bytes more rs count script =
    let parts : (taken ++ take count bytes) ++ (drop count bytes ++ more) ≡ (taken ++ bytes) ++ more =
    append_assoc taken (take count bytes) (drop count bytes ++ more)
    ∙ (ap (λ (x : List ℕ). taken ++ x) (sym (append_assoc (take count bytes) (drop count bytes) more) ∙ ap (λ (x : List ℕ). x ++ more) (take-append-drop count bytes))
    ∙ sym (append_assoc taken bytes more)) in
    subst (λ (x : List ℕ). BeginsWith x rs) parts (begins-more (taken ++ take count bytes) (drop count bytes ++ more) rs (script-begins (taken ++ take count bytes) rs script))

module _ {S : Type 0} (told : S → Option (List ℕ)) (faults : S → ℕ) (reads : S → ℕ → Option (List ℕ) → S → Type 0) (b : Began S) (taken bytes : List ℕ) (es : List Answered) (p : Moment S) (out : Option (List ℕ)) (st : Stands told faults reads b taken es p out) where
  -- all bytes are within a frame
  pub go_more : (count : ℕ) (d : Begun) (max : ℕ) → count ≡ length bytes → Reads (taken ++ bytes) (asked_of es) d → max ≡ p.max_frames
      → Stands told faults reads b (taken ++ take count bytes) es (record { decoder = d; frames = p.frames; max_frames = max; tree = p.tree }) out
  go_more count d max all reads same =
      let whole : take count bytes ≡ bytes = take_all count bytes (omega (arith, all)) in
      record {
        reads = subst (λ (x : List ℕ). Reads (taken ++ x) (asked_of es) d) (sym whole) reads;
        asked = st.asked;
        history = st.history;
        frames = st.frames;
        calls = st.calls;
        max = same ∙ st.max;
        plan = st.plan;
        stand = st.stand;
        count = st.count;
        made = st.made;
        text = st.text;
      }

  -- what was answered so far
  made : AreMade told faults reads b.f b.o b.h b.samples b.calls p.tree es
  made = record { right = right b.f b.o b.h es st.asked st.history; stand = st.stand; calls_are = st.calls; made = st.made }

  fewer : p.frames < p.max_frames → length es < b.max
  fewer less = omega (arith, st.frames, st.max, less)

  module _ (a : Asked) (t : SoloView S) (is : IsAnswered told faults reads b.f b.o (b.h ++ entries_of es) (samples_in p.tree.sources) a t) (one : t.calls ≡ p.tree.calls + 1) where
    abbrev e : Answered
    e = record { asked = a; entry = is.entry }

    abbrev more : List Answered
    more = es ++ e ∷ []

    stand_more : StandAfter told faults b.f b.o (b.h ++ entries_of more) t.nodes t.sources
    stand_more = subst (λ (h : List Entry). StandAfter told faults b.f b.o h t.nodes t.sources) (sym (behind-push b.h es e)) is.stand

    -- what was answered with this request
    -- the reads that were made with it
    reads_more : AreReads reads faults b.f.plan b.samples (samples_in t.sources) (acts_of (entries_of more))
    reads_more =
        subst (λ (z : List Act). AreReads reads faults b.f.plan b.samples (samples_in t.sources) z)
        (sym (ap (λ (x : List Entry). acts_of x) (entries-push es e) ∙ acts_more (entries_of es) is.entry))
        (reads_on reads faults b.f.plan b.samples (samples_in p.tree.sources) (samples_in t.sources) (acts_of (entries_of es)) is.entry.acts
        (samples_count p.tree.sources ∙ (st.stand.source_count ∙ sym st.count)) st.made is.made)

    made_more : AreMade told faults reads b.f b.o b.h b.samples b.calls t more
    made_more = record {
      right = right b.f b.o b.h more (asked-more es e st.asked is.is) (history-more b.f b.o b.h es e is.history);
      stand = stand_more;
      calls_are = omega (arith, one, st.calls, length-append es (e ∷ []));
      made = reads_more;
    }

    -- what is written with one reply more
    answered_text : (out' : Option (List ℕ)) → Appends out out' (text_of replies (reply_to a.head is.entry)) → Appends b.out out' (written service more)
    answered_text out' text =
        subst (λ (x : List ℕ). Appends b.out out' x) (sym (written-push es e))
        (Appends-trans b.out out out' (written service es) (text_of replies (reply_to a.head is.entry)) st.text text)

    -- the end of a frame, answered
    pub go_whole : (count : ℕ) (d : Begun) (max : ℕ) (out' : Option (List ℕ)) → Reads (taken ++ take count bytes) (asked_of es ++ a ∷ []) d → max ≡ p.max_frames → t.plan ≡ p.tree.plan
        → Appends out out' (text_of replies (reply_to a.head is.entry))
        → Stands told faults reads b (taken ++ take count bytes) more (record { decoder = d; frames = p.frames + 1; max_frames = max; tree = t }) out'
    go_whole count d max out' reads same plan text = record {
      reads = subst (λ (rs : List Asked). Reads (taken ++ take count bytes) rs d) (sym (asked-push es e)) reads;
      asked = asked-more es e st.asked is.is;
      history = history-more b.f b.o b.h es e is.history;
      frames = omega (arith, st.frames, length-append es (e ∷ []));
      calls = omega (arith, one, st.calls, length-append es (e ∷ []));
      max = same ∙ st.max;
      plan = st.plan ∙ sym plan;
      stand = stand_more;
      count = st.count;
      made = reads_more;
      text = answered_text out' text;
    }

    -- the frames up to this one are a beginning of what was taken, and their entries answer them
    script_more : (count : ℕ) (d : Begun) → Reads (taken ++ take count bytes) (asked_of es ++ a ∷ []) d → d.rest ≡ [] → IsScript (taken ++ take count bytes) (asked_of more) []
    script_more count d reads none =
        subst (λ (rs : List Asked). IsScript (taken ++ take count bytes) rs []) (sym (asked-push es e))
        (subst (λ (x : List ℕ). IsScript (taken ++ take count bytes) (asked_of es ++ a ∷ []) x) none reads.script)

    -- the end of the last frame, answered
    pub go_quota : (count : ℕ) (d : Begun) (out' : Option (List ℕ)) → Reads (taken ++ take count bytes) (asked_of es ++ a ∷ []) d → d.rest ≡ [] → p.frames + 1 ≡ p.max_frames
        → Appends out out' (text_of replies (reply_to a.head is.entry)) → Stops told faults reads b (taken ++ bytes) t out' (Quota (p.frames + 1))
    go_quota count d out' reads none full text =
        let last : p.frames + 1 ≡ b.max = full ∙ st.max in
        let count_of : length more ≡ b.max = omega (arith, length-append es (e ∷ []), st.frames, last) in (
          written service more,
          answered_text out' text,
          λ (later : List ℕ) (left : Option (List ℕ)). (
            asked_of more,
            more,
            beginning taken bytes later (asked_of more) count (script_more count d reads none),
            ([], append-nil (asked_of more)),
            made_more,
            count_of,
            last,
            refl,
          ),
        )

    -- a reply that could not be written whole
    pub go_unanswered : (count fault : ℕ) (d : Begun) (out' : Option (List ℕ)) → Reads (taken ++ take count bytes) (asked_of es ++ a ∷ []) d → d.rest ≡ [] → p.frames < p.max_frames
        → AppendsFront out out' (text_of replies (reply_to a.head is.entry)) → Stops told faults reads b (taken ++ bytes) t out' (WriteFault fault)
    go_unanswered count fault d out' reads none less (front, back, parts, text) = (
      written service es ++ front,
      Appends-trans b.out out out' _ front st.text text,
      λ (later : List ℕ) (left : Option (List ℕ)). inl (
        asked_of more,
        es,
        e,
        beginning taken bytes later (asked_of more) count (script_more count d reads none),
        ([], append-nil (asked_of more)),
        made_more,
        fewer less,
        (front, back, parts, refl),
      ),
    )

  -- a byte with which no frame goes on, told to the caller
  pub go_bad : (offset why : ℕ) (out' : Option (List ℕ)) → IsBadAt (taken ++ bytes) (asked_of es) offset why → p.frames < p.max_frames
      → Appends out out' (malformed offset why) → Stops told faults reads b (taken ++ bytes) p.tree out' (Bad offset why)
  go_bad offset why out' bad less text = (
    written service es ++ malformed offset why,
    Appends-trans b.out out out' _ (malformed offset why) st.text text,
    λ (later : List ℕ) (left : Option (List ℕ)). (
      asked_of es,
      es,
      bad-more (taken ++ bytes) later (asked_of es) offset why bad,
      refl,
      made,
      fewer less,
      refl,
    ),
  )

  -- such a byte, which could not be told whole
  pub go_untold : (offset why fault : ℕ) (out' : Option (List ℕ)) → IsBadAt (taken ++ bytes) (asked_of es) offset why → p.frames < p.max_frames
      → AppendsFront out out' (malformed offset why) → Stops told faults reads b (taken ++ bytes) p.tree out' (WriteFault fault)
  go_untold offset why fault out' bad less (front, back, parts, text) = (
    written service es ++ front,
    Appends-trans b.out out out' _ front st.text text,
    λ (later : List ℕ) (left : Option (List ℕ)). inr (
      asked_of es,
      es,
      offset,
      why,
      bad-more (taken ++ bytes) later (asked_of es) offset why bad,
      refl,
      made,
      fewer less,
      (front, back, parts, refl),
    ),
  )
