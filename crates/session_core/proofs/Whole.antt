-- How a session begins and ends.
use Rattle.std.proofs.Common.{◌≡◌, ◌<◌, ◌≤◌, ◌^◌, ℕ, ◌+◌, ◌*◌, ◌∷◌, List, [], ◌++◌, length, sym, ap, ◌∙◌, arith, append-nil, refl, subst}
use Rattle.std.specs.declared.option.Option.{Option}
use Rattle.std.specs.Io.KnownBytes.{Consumes, IsAtEnd, Keeps}
use Rattle.std.proofs.KnownBytes.{Consumes-nil, Consumes-trans, Consumes-kept, Appends-nil}
use Rattle.frame_codec.specs.Frames.{IsScript}
use Rattle.frame_codec.specs.Decoding.{Begun, Reads}
use Rattle.frame_codec.proofs.Lengths.{longest, reads-short}
use Rattle.tree_rules.specs.History.{Entry, Opening}
use Rattle.tree_rules.specs.Openings.{IsHistory}
use Rattle.tree_core.specs.Made.{samples_in}
use Rattle.tree_core.specs.Solo.{SoloView, StandAfter}
use Rattle.tree_core.proofs.Made.{reads_none, samples_count}
use Rattle.session_core.specs.declared.end.End.{End}
use Rattle.session_core.specs.declared.end.End.TheVariants.{Read, Cut, ReadFault}
use Rattle.session_core.specs.Ends.{Ends, written}
use Rattle.session_core.specs.Answers.{Answered, asked_of, service}
use Rattle.session_core.specs.Session.{AreMade, Began, Moment, IsReady, Stands, Stops, IsHeld}
use Rattle.session_core.proofs.Replies.{right}

-- what stands between two reads: the bytes that were taken from the source, and what the session has come to by them
pub record HasTaken {S : Type 0} (told : S → Option (List ℕ)) (faults : S → ℕ) (reads : S → ℕ → Option (List ℕ) → S → Type 0) (b : Began S) (left_before left_now : Option (List ℕ)) (p : Moment S) (out : Option (List ℕ)) : Type 0 where
  pub taken : List ℕ
  pub es : List Answered
  pub stands : Stands told faults reads b taken es p out
  pub consumed : Consumes left_before left_now taken

no-bytes : (xs : List ℕ) → (0 < length xs → ⊥) → xs ≡ []
no-bytes [] none = refl
no-bytes (x ∷ xs) none = absurd (none (omega arith))

-- a read of no bytes takes none
taken-still : (left_before left_mid left_now : Option (List ℕ)) (taken piece : List ℕ) → Consumes left_before left_mid taken → Consumes left_mid left_now piece → piece ≡ [] →
    Consumes left_before left_now taken
taken-still left_before left_mid left_now taken piece first more none =
    subst (λ (x : List ℕ). Consumes left_before left_now x) (ap (λ (x : List ℕ). taken ++ x) none ∙ append-nil taken)
    (Consumes-trans left_before left_mid left_now taken piece first more)

-- how far into the input a session is that may still answer a frame
pub offset-bound : {S : Type 0} (p : Moment S) → IsReady p → p.decoder.offset < longest * p.max_frames
offset-bound p r = omega (arith, reads-short r.taken r.rs p.decoder r.reads, r.frames, r.fewer)

-- a session that begins is ready
pub ready-first : {S : Type 0} (d : Begun) (max : ℕ) (t : SoloView S) → Reads [] [] d → 0 < max → t.calls + max ≤ 2 ^ 40
    → IsReady (record { decoder = d; frames = 0; max_frames = max; tree = t })
ready-first d max t reads some few = record { taken = []; rs = []; reads = reads; frames = refl; fewer = some; calls = omega (arith, few); bound = omega (arith, few) }

module _ {S : Type 0} (told : S → Option (List ℕ)) (faults : S → ℕ) (reads : S → ℕ → Option (List ℕ) → S → Type 0) where
  -- nothing was taken yet
  pub taken-none : (f : Opening) (o h : List Entry) (d : Begun) (max most : ℕ) (t : SoloView S) (out left : Option (List ℕ)) → max ≡ most → Reads [] [] d → IsHistory f o h → f.plan ≡ t.plan
      → StandAfter told faults f o h t.nodes t.sources
      → HasTaken told faults reads (record { f = f; o = o; h = h; samples = samples_in t.sources; calls = t.calls; max = most; out = out }) left left (record { decoder = d; frames = 0; max_frames = max; tree = t }) out
  taken-none f o h d max most t out left same begun history plan stand = record {
    taken = [];
    es = [];
    stands = record {
      reads = begun;
      asked = tt;
      history = subst (λ (x : List Entry). IsHistory f o x) (sym (append-nil h)) history;
      frames = refl;
      calls = omega arith;
      max = same;
      plan = plan;
      stand = subst (λ (x : List Entry). StandAfter told faults f o x t.nodes t.sources) (sym (append-nil h)) stand;
      count = samples_count t.sources ∙ stand.source_count;
      made = reads_none reads faults f.plan (samples_in t.sources);
      text = Appends-nil out;
    };
    consumed = Consumes-nil left;
  }

  -- a piece more was taken
  pub taken-more : (b : Began S) (left_before left_mid left_now : Option (List ℕ)) (p q : Moment S) (out out' : Option (List ℕ)) (piece : List ℕ)
      → (h : HasTaken told faults reads b left_before left_mid p out) → Consumes left_mid left_now piece → ((es : List Answered) × Stands told faults reads b (h.taken ++ piece) es q out')
      → HasTaken told faults reads b left_before left_now q out'
  taken-more b left_before left_mid left_now p q out out' piece h more on = record {
    taken = h.taken ++ piece;
    es = on.0;
    stands = on.1;
    consumed = Consumes-trans left_before left_mid left_now h.taken piece h.consumed more;
  }

  module _ (b : Began S) (left_before left_mid : Option (List ℕ)) (p : Moment S) (out : Option (List ℕ)) (h : HasTaken told faults reads b left_before left_mid p out) where
    few : p.frames < p.max_frames → length h.es < b.max
    few less = omega (arith, h.stands.frames, h.stands.max, less)

    are_made : AreMade told faults reads b.f b.o b.h b.samples b.calls p.tree h.es
    are_made = record { right = right b.f b.o b.h h.es h.stands.asked h.stands.history; stand = h.stands.stand; calls_are = h.stands.calls; made = h.stands.made }

    -- the source ended between two frames
    pub session-read : (left_now : Option (List ℕ)) (piece : List ℕ) → Consumes left_mid left_now piece → piece ≡ [] → IsAtEnd left_now → p.frames < p.max_frames
        → (0 < length p.decoder.rest → ⊥) → IsHeld (AreMade told faults reads b.f b.o b.h b.samples b.calls p.tree) b.max (Read p.frames) left_before left_now b.out out
    session-read left_now piece more none ended less outside = (
      h.taken,
      written service h.es,
      taken-still left_before left_mid left_now h.taken piece h.consumed more none,
      h.stands.text,
      (
        asked_of h.es,
        h.es,
        subst (λ (r : List ℕ). IsScript h.taken (asked_of h.es) r) (no-bytes p.decoder.rest outside) h.stands.reads.script,
        ended,
        refl,
        are_made,
        few less,
        h.stands.frames,
        refl,
      ),
    )

    -- the source ended within a frame
    pub session-cut : (left_now : Option (List ℕ)) (piece : List ℕ) (offset : ℕ) → offset ≡ p.decoder.offset → Consumes left_mid left_now piece → piece ≡ [] → IsAtEnd left_now
        → p.frames < p.max_frames → 0 < length p.decoder.rest → IsHeld (AreMade told faults reads b.f b.o b.h b.samples b.calls p.tree) b.max (Cut offset) left_before left_now b.out out
    session-cut left_now piece offset is more none ended less inside = (
      h.taken,
      written service h.es,
      taken-still left_before left_mid left_now h.taken piece h.consumed more none,
      h.stands.text,
      (
        asked_of h.es,
        h.es,
        p.decoder.rest,
        h.stands.reads.script,
        inside,
        ended,
        refl,
        are_made,
        few less,
        is ∙ h.stands.reads.offset,
        refl,
      ),
    )

    -- a read failed
    pub session-failed : (left_now : Option (List ℕ)) (count : ℕ) → Keeps left_mid left_now → p.frames < p.max_frames
        → IsHeld (AreMade told faults reads b.f b.o b.h b.samples b.calls p.tree) b.max (ReadFault count) left_before left_now b.out out
    session-failed left_now count kept less = (
      h.taken,
      written service h.es,
      Consumes-kept left_before left_mid left_now h.taken h.consumed kept,
      h.stands.text,
      (
        asked_of h.es,
        h.es,
        p.decoder.rest,
        h.stands.reads.script,
        refl,
        are_made,
        few less,
        refl,
      ),
    )

    -- a piece of bytes ended the session
    pub session-ended : (left_now out' : Option (List ℕ)) (piece : List ℕ) (end : End) (t : SoloView S) → Consumes left_mid left_now piece → Stops told faults reads b (h.taken ++ piece) t out' end
        → IsHeld (AreMade told faults reads b.f b.o b.h b.samples b.calls t) b.max end left_before left_now b.out out'
    session-ended left_now out' piece end t more stops = (
      h.taken ++ piece,
      stops.0,
      Consumes-trans left_before left_mid left_now h.taken piece h.consumed more,
      stops.1,
      subst (λ (x : List ℕ). Ends service (AreMade told faults reads b.f b.o b.h b.samples b.calls t) b.max end x left_now stops.0) (append-nil (h.taken ++ piece)) (stops.2 [] left_now),
    )
