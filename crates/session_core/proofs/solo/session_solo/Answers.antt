use Rattle.std.proofs.Common.{◌≡◌, ◌<◌, [], take, length, ◌∙◌, ◌++◌, List, ℕ, ap, subst, arith, refl, true, false}
use Rattle.std.specs.Prelude.{Vec}
use Rattle.std.specs.declared.alloc.Global.{Global}
use Rattle.tree_core.specs.Made.{samples_in}
use Rattle.session_core.specs.Answers.{Answered}
use Rattle.session_core.specs.Session.{Began, Stands, Stops, moment}
use Rattle.std.proofs.lemmas.List.{length-take, with_items_is}
use Rattle.session_core.proofs.Whole.{taken-none, taken-more, offset-bound, ready-first, session-read, session-cut, session-failed, session-ended}
use Rattle.session_core.proofs.solo.session_solo.Goals as goal

pub returns-in-Err-clause-table : goal.returns-in-Err-clause-table
returns-in-Err-clause-table g c f o h history plan stand =
    session-failed g.S.Samples.told g.S.Samples.faults g.S.Samples.reads _ _ _ _ _ (c.reads.invariant.6 f o h history plan stand) _ c.fault_count.result c.in-Err.ensures.bytes c.reads.invariant.0.fewer

pub returns-then-inside-clause-table : goal.returns-then-inside-clause-table
returns-then-inside-clause-table g c f o h history plan stand =
    let none : take c.in-Ok.count c.read.new.self ≡ [] = rw (c.if-count-eq0.true) refl in
    session-cut g.S.Samples.told g.S.Samples.faults g.S.Samples.reads _ _ _ _ _ (c.reads.invariant.6 f o h history plan stand) _ _ c.offset.result c.offset.ensures c.in-Ok.ensures.bytes.0 none
    (c.in-Ok.ensures.bytes.1 c.if-count-eq0.true (omega (arith, c.read.ensures.long))) c.reads.invariant.0.fewer (c.if-inside.ensures.0 refl)

pub returns-then-count-eq0-clause-table : goal.returns-then-count-eq0-clause-table
returns-then-count-eq0-clause-table g c f o h history plan stand =
    let none : take c.in-Ok.count c.read.new.self ≡ [] = rw (c.if-count-eq0.true) refl in
    session-read g.S.Samples.told g.S.Samples.faults g.S.Samples.reads _ _ _ _ _ (c.reads.invariant.6 f o h history plan stand) _ _ c.in-Ok.ensures.bytes.0 none
    (c.in-Ok.ensures.bytes.1 c.if-count-eq0.true (omega (arith, c.read.ensures.long))) c.reads.invariant.0.fewer
    (λ (some : 0 < length c.reads.buffers.inbox.decoder.rest). let contrary : false ≡ true = c.if-inside.ensures.1 some in absurd cc)

pub take_piece-requires-clause-offset : goal.take_piece-requires-clause-offset
take_piece-requires-clause-offset g c =
    let r = c.reads.invariant.0 in
    omega (arith, offset-bound (moment c.reads.buffers.inbox c.reads.frames c.reads.tree) r, r.bound, ap (λ (x : List ℕ). length x) c.front-piece.ensures, length-take c.in-Ok.count c.read.new.self, c.read.ensures.long)

pub returns-in-Err-take_piece-clause-table : goal.returns-in-Err-take_piece-clause-table
returns-in-Err-take_piece-clause-table g c f o h history plan stand =
    let k = c.reads.invariant.6 f o h history plan stand in
    let b : Began _ = record { f = f; o = o; h = h; samples = samples_in c.args.tree.now.sources; calls = c.args.tree.now.calls; max = c.args.buffers.now.inbox.max_frames; out = g.O.ByteSink.out c.args.output.now } in
    session-ended g.S.Samples.told g.S.Samples.faults g.S.Samples.reads _ _ _ _ _ k _ _ _ c.in-Err-take_piece.end c.take_piece.new.tree c.in-Ok.ensures.bytes.0
    (subst (λ (x : List ℕ). Stops g.S.Samples.told g.S.Samples.faults g.S.Samples.reads b (k.taken ++ x) c.take_piece.new.tree (g.O.ByteSink.out c.take_piece.new.output) c.in-Err-take_piece.end) c.front-piece.ensures (c.in-Err-take_piece.ensures.goes b k.taken k.es k.stands))

pub reads-smaller : goal.reads-smaller
reads-smaller g c =
    let r = c.reads.invariant.0 in
    omega (
      arith,
      c.in_default.ensures.offset,
      c.in_default.ensures.max,
      c.if-count-eq0.false,
      offset-bound (moment c.reads.buffers.inbox c.reads.frames c.reads.tree) r,
      ap (λ (x : List ℕ). length x) c.front-piece.ensures,
      c.in-Ok.ensures.bound,
      length-take c.in-Ok.count c.read.new.self,
    )

pub reads-init : goal.reads-init
reads-init g c = (
  ready-first _ _ _ c.restart.ensures.reads (omega (arith, c.restart.ensures.some)) (omega (arith, c.requires.calls, c.restart.ensures.max_frames)),
  c.restart.ensures.max_frames,
  (ap (λ (v : Vec ℕ Global). length v.items) c.restart.ensures.reply ∙ c.requires.room),
  refl,
  refl,
  refl,
  λ f o h history plan stand. taken-none g.S.Samples.told g.S.Samples.faults g.S.Samples.reads f o h _ _ _ _ _ _ c.restart.ensures.max_frames c.restart.ensures.reads history plan stand,
)

pub reads-preserved : goal.reads-preserved
reads-preserved g c = (
  c.in_default.ensures.ready,
  c.in_default.ensures.max ∙ c.reads.invariant.1,
  (let same = with_items_is c.reads.buffers.reply c.take_piece.new.buffer (omega (arith, c.take_piece.auto.buffer, c.deref_mut.ensures.len)) in ap (λ (x : List ℕ). length x) same ∙ (c.take_piece.auto.buffer ∙ (ap (λ (x : List ℕ). length x) c.deref_mut.ensures.value ∙ c.reads.invariant.2))),
  c.in_default.ensures.plan ∙ c.reads.invariant.3,
  c.in-Ok.ensures.cause.kept ∙ c.reads.invariant.4,
  c.in_default.ensures.cause ∙ c.reads.invariant.5,
  λ f o h history plan stand.
      let k = c.reads.invariant.6 f o h history plan stand in
      let b : Began _ = record { f = f; o = o; h = h; samples = samples_in c.args.tree.now.sources; calls = c.args.tree.now.calls; max = c.args.buffers.now.inbox.max_frames; out = g.O.ByteSink.out c.args.output.now } in
      taken-more g.S.Samples.told g.S.Samples.faults g.S.Samples.reads _ _ _ _ (moment c.reads.buffers.inbox c.reads.frames c.reads.tree) (moment c.take_piece.new.inbox c.take_piece.new.frames c.take_piece.new.tree) _ _ _ k c.in-Ok.ensures.bytes.0
      (subst (λ (x : List ℕ). (es : List Answered) × Stands g.S.Samples.told g.S.Samples.faults g.S.Samples.reads b (k.taken ++ x) es (moment c.take_piece.new.inbox c.take_piece.new.frames c.take_piece.new.tree) (g.O.ByteSink.out c.take_piece.new.output)) c.front-piece.ensures (c.in_default.ensures.goes b k.taken k.es k.stands)),
)
