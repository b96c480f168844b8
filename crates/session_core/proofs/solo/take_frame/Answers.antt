use Rattle.std.proofs.Common.{◌∙◌, ◌++◌, ◌∷◌, [], arith, length-append, subst, sym, ap, take}
use Rattle.frame_codec.specs.Frames.{Asked}
use Rattle.frame_codec.specs.Decoding.{Begun, Reads}
use Rattle.session_core.specs.Answers.{asked_of, entries_of}
use Rattle.session_core.specs.Inbox.{whole_of}
use Rattle.session_core.specs.Session.{moment}
use Rattle.session_core.proofs.Feeding.{HasFed, fed-more, fed-all, fed-whole, fed-bad}
use Rattle.session_core.proofs.GoingOn.{go_more, go_whole, go_quota, go_unanswered, go_bad, go_untold}
use Rattle.session_core.proofs.solo.take_frame.Goals as goal

pub returns-in-More-clause-goes : goal.returns-in-More-clause-goes
returns-in-More-clause-goes g c b taken es st =
    let d = c.feed-count.new.self.decoder in
    let f : HasFed taken (asked_of es) c.args.bytes.now c.feed-count.result.0 c.args.inbox.now.decoder c.feed-count.result.1 d =
    record { reads = st.reads; within = c.feed-count.ensures.within; offset = c.feed-count.ensures.offset; feeds = c.feed-count.ensures.step } in (
      es,
      go_more g.S.Samples.told g.S.Samples.faults g.S.Samples.reads b taken c.args.bytes.now es (moment c.args.inbox.now c.args.frames.now c.args.tree.now) _ st c.feed-count.result.0 d _
          (fed-all taken (asked_of es) c.args.bytes.now _ _ _ _ f c.in-More.is) (fed-more taken (asked_of es) c.args.bytes.now _ _ _ _ f c.in-More.is) c.feed-count.ensures.max_frames,
    )

pub returns-in-More-clause-ready : goal.returns-in-More-clause-ready
returns-in-More-clause-ready g c =
    let r = c.requires.ready in
    let d = c.feed-count.new.self.decoder in
    let f : HasFed r.taken r.rs c.args.bytes.now c.feed-count.result.0 c.args.inbox.now.decoder c.feed-count.result.1 d =
    record { reads = r.reads; within = c.feed-count.ensures.within; offset = c.feed-count.ensures.offset; feeds = c.feed-count.ensures.step } in
    record {
      taken = r.taken ++ c.args.bytes.now;
      rs = r.rs;
      reads = fed-more r.taken r.rs c.args.bytes.now _ _ _ _ f c.in-More.is;
      frames = r.frames;
      fewer = omega (arith, r.fewer, c.feed-count.ensures.max_frames);
      calls = omega (arith, r.calls, c.feed-count.ensures.max_frames);
      bound = omega (arith, r.bound, c.feed-count.ensures.max_frames);
    }

pub returns-else-frames-max_frames-clause-ready : goal.returns-else-frames-max_frames-clause-ready
returns-else-frames-max_frames-clause-ready g c =
    let r = c.requires.ready in
    let d = c.feed-count.new.self.decoder in
    let f : HasFed r.taken r.rs c.args.bytes.now c.feed-count.result.0 c.args.inbox.now.decoder c.feed-count.result.1 d =
    record { reads = r.reads; within = c.feed-count.ensures.within; offset = c.feed-count.ensures.offset; feeds = c.feed-count.ensures.step } in
    let asked : Asked = record { head = c.in-Whole.field-0; string = d.string } in
    let read = fed-whole r.taken r.rs c.args.bytes.now _ _ _ _ c.in-Whole.field-0 f c.in-Whole.is in
    let max = c.answer.ensures.max_frames ∙ c.feed-count.ensures.max_frames in
    record {
      taken = r.taken ++ take c.feed-count.result.0 c.args.bytes.now;
      rs = r.rs ++ asked ∷ [];
      reads = subst (λ (x : Begun). Reads (r.taken ++ take c.feed-count.result.0 c.args.bytes.now) (r.rs ++ asked ∷ []) x) (sym c.answer.ensures.decoder) read.0;
      frames = omega (arith, r.frames, length-append r.rs (asked ∷ []));
      fewer = omega (arith, r.fewer, c.if-frames-max_frames.false, max);
      calls = omega (arith, r.calls, c.answer.ensures.calls, max);
      bound = omega (arith, r.bound, max);
    }

pub returns-then-frames-max_frames-clause-goes : goal.returns-then-frames-max_frames-clause-goes
returns-then-frames-max_frames-clause-goes g c b taken es st =
    let d = c.feed-count.new.self.decoder in
    let f : HasFed taken (asked_of es) c.args.bytes.now c.feed-count.result.0 c.args.inbox.now.decoder c.feed-count.result.1 d =
    record { reads = st.reads; within = c.feed-count.ensures.within; offset = c.feed-count.ensures.offset; feeds = c.feed-count.ensures.step } in
    let read = fed-whole taken (asked_of es) c.args.bytes.now _ _ _ _ c.in-Whole.field-0 f c.in-Whole.is in
    let on = c.in-Ok-answer.ensures.replies c.in-Whole.field-0 (c.feed-count.ensures.asked ∙ ap whole_of c.in-Whole.is) b.f b.o (b.h ++ entries_of es) st.history st.plan st.stand in
    go_quota g.S.Samples.told g.S.Samples.faults g.S.Samples.reads b taken c.args.bytes.now es (moment c.args.inbox.now c.args.frames.now c.args.tree.now) _ st
    (record { head = c.in-Whole.field-0; string = d.string }) c.answer.new.tree on.0 c.answer.ensures.calls c.feed-count.result.0 d _ read.0 read.1
    (c.if-frames-max_frames.true ∙ (c.max_frames.ensures.max_frames ∙ (c.answer.ensures.max_frames ∙ c.feed-count.ensures.max_frames))) on.1

pub returns-else-frames-max_frames-clause-goes : goal.returns-else-frames-max_frames-clause-goes
returns-else-frames-max_frames-clause-goes g c b taken es st =
    let d = c.feed-count.new.self.decoder in
    let f : HasFed taken (asked_of es) c.args.bytes.now c.feed-count.result.0 c.args.inbox.now.decoder c.feed-count.result.1 d =
    record { reads = st.reads; within = c.feed-count.ensures.within; offset = c.feed-count.ensures.offset; feeds = c.feed-count.ensures.step } in
    let asked : Asked = record { head = c.in-Whole.field-0; string = d.string } in
    let read = fed-whole taken (asked_of es) c.args.bytes.now _ _ _ _ c.in-Whole.field-0 f c.in-Whole.is in
    let on = c.in-Ok-answer.ensures.replies c.in-Whole.field-0 (c.feed-count.ensures.asked ∙ ap whole_of c.in-Whole.is) b.f b.o (b.h ++ entries_of es) st.history st.plan st.stand in
    let reads = subst (λ (x : Begun). Reads (taken ++ take c.feed-count.result.0 c.args.bytes.now) (asked_of es ++ asked ∷ []) x) (sym c.answer.ensures.decoder) read.0 in (
      _,
      go_whole g.S.Samples.told g.S.Samples.faults g.S.Samples.reads b taken c.args.bytes.now es (moment c.args.inbox.now c.args.frames.now c.args.tree.now) _ st
          asked c.answer.new.tree on.0 c.answer.ensures.calls c.feed-count.result.0 c.answer.new.inbox.decoder _ _ reads (c.answer.ensures.max_frames ∙ c.feed-count.ensures.max_frames) c.answer.ensures.plan on.1,
    )

pub returns-in-Err-answer-clause-goes : goal.returns-in-Err-answer-clause-goes
returns-in-Err-answer-clause-goes g c b taken es st =
    let d = c.feed-count.new.self.decoder in
    let f : HasFed taken (asked_of es) c.args.bytes.now c.feed-count.result.0 c.args.inbox.now.decoder c.feed-count.result.1 d =
    record { reads = st.reads; within = c.feed-count.ensures.within; offset = c.feed-count.ensures.offset; feeds = c.feed-count.ensures.step } in
    let read = fed-whole taken (asked_of es) c.args.bytes.now _ _ _ _ c.in-Whole.field-0 f c.in-Whole.is in
    let on = c.in-Err-answer.ensures.replies c.in-Whole.field-0 (c.feed-count.ensures.asked ∙ ap whole_of c.in-Whole.is) b.f b.o (b.h ++ entries_of es) st.history st.plan st.stand in
    go_unanswered g.S.Samples.told g.S.Samples.faults g.S.Samples.reads b taken c.args.bytes.now es (moment c.args.inbox.now c.args.frames.now c.args.tree.now) _ st
    (record { head = c.in-Whole.field-0; string = d.string }) c.answer.new.tree on.0 c.answer.ensures.calls c.feed-count.result.0 c.fault_count-in-Err-answer.result d _ read.0 read.1 c.requires.ready.fewer on.1

pub returns-in-Ok-clause-goes : goal.returns-in-Ok-clause-goes
returns-in-Ok-clause-goes g c b taken es st =
    let d = c.feed-count.new.self.decoder in
    let f : HasFed taken (asked_of es) c.args.bytes.now c.feed-count.result.0 c.args.inbox.now.decoder c.feed-count.result.1 d =
    record { reads = st.reads; within = c.feed-count.ensures.within; offset = c.feed-count.ensures.offset; feeds = c.feed-count.ensures.step } in
    let bad = fed-bad taken (asked_of es) c.args.bytes.now _ _ _ _ c.in-Bad.offset c.in-Bad.why f c.in-Bad.is in
    go_bad g.S.Samples.told g.S.Samples.faults g.S.Samples.reads b taken c.args.bytes.now es (moment c.args.inbox.now c.args.frames.now c.args.tree.now) _ st c.in-Bad.offset c.in-Bad.why _ bad c.requires.ready.fewer c.in-Ok.ensures.bytes

pub returns-in-Err-clause-goes : goal.returns-in-Err-clause-goes
returns-in-Err-clause-goes g c b taken es st =
    let d = c.feed-count.new.self.decoder in
    let f : HasFed taken (asked_of es) c.args.bytes.now c.feed-count.result.0 c.args.inbox.now.decoder c.feed-count.result.1 d =
    record { reads = st.reads; within = c.feed-count.ensures.within; offset = c.feed-count.ensures.offset; feeds = c.feed-count.ensures.step } in
    let bad = fed-bad taken (asked_of es) c.args.bytes.now _ _ _ _ c.in-Bad.offset c.in-Bad.why f c.in-Bad.is in
    go_untold g.S.Samples.told g.S.Samples.faults g.S.Samples.reads b taken c.args.bytes.now es (moment c.args.inbox.now c.args.frames.now c.args.tree.now) _ st c.in-Bad.offset c.in-Bad.why c.fault_count.result _ bad c.requires.ready.fewer c.in-Err.ensures.bytes
