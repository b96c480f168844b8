use Rattle.std.proofs.Common.{◌≡◌, ◌<◌, ◌∙◌, [], ℕ, take, length, refl, subst, arith, length-take}
use Rattle.rbg_bytes.specs.Streams.{Rose}
use Rattle.rbg_talk.specs.Causes.{HasWriteCause}
use Rattle.rbg_talk.proofs.Causing.{own_read}
use Rattle.rbg_talk.proofs.Lining.{taken_none, taken_more, asked_failed, asked_ended, asked_stopped, asked_quota}
use Rattle.rbg_talk.proofs.ask.Asker.ask.Goals as goal

pub reads-init : goal.reads-init
reads-init g c = (c.requires.asker, refl, refl, taken_none c.args.self.now _ _ c.requires.begins)

pub returns-in-Err-clause-ends : goal.returns-in-Err-clause-ends
returns-in-Err-clause-ends g c = asked_failed _ _ _ c.reads.self _ c.reads.invariant.3 _ c.fault_count.result c.in-Err.ensures.bytes

pub returns-in-Err-clause-read : goal.returns-in-Err-clause-read
returns-in-Err-clause-read g c = (subst (λ (n : ℕ). Rose n (g.I.ByteSource.faults c.read.new.self)) c.reads.invariant.1 c.in-Err.ensures.cause.failed, c.fault_count.ensures)

pub returns-in-Err-clause-write : goal.returns-in-Err-clause-write
returns-in-Err-clause-write g c = c.reads.invariant.2

pub returns-then-count-eq0-clause-ends : goal.returns-then-count-eq0-clause-ends
returns-then-count-eq0-clause-ends g c =
    let none : take c.in-Ok.count c.read.new.buf ≡ [] = rw (c.if-count-eq0.true) refl in
    let h = c.reads.invariant.3 in
    let some : 0 < length c.reads.piece = omega (arith, c.requires.piece, c.reads.auto.piece) in
    asked_ended _ _ _ c.reads.self _ h _ _ _ c.finish.result c.in-Ok.ensures.bytes.0 none
    (c.finish.ensures.ends _ _ h.taken h.stands (c.in-Ok.ensures.bytes.1 c.if-count-eq0.true (omega (arith, c.read.auto.buf, some))))

pub returns-then-count-eq0-clause-read : goal.returns-then-count-eq0-clause-read
returns-then-count-eq0-clause-read g c = own_read _ _ c.finish.result c.finish.ensures.kind (c.in-Ok.ensures.cause.kept ∙ c.reads.invariant.1)

pub returns-then-count-eq0-clause-write : goal.returns-then-count-eq0-clause-write
returns-then-count-eq0-clause-write g c = subst (λ (n : ℕ). HasWriteCause n (g.O.ByteSink.faults c.finish.new.output) c.finish.result) c.reads.invariant.2 c.finish.ensures.cause

pub finish-requires : goal.finish-requires
finish-requires g c = record { asker = c.reads.invariant.0 }

pub take_piece-requires-clause-asker : goal.take_piece-requires-clause-asker
take_piece-requires-clause-asker g c = c.reads.invariant.0

pub take_piece-requires-clause-bound : goal.take_piece-requires-clause-bound
take_piece-requires-clause-bound g c =
    omega (arith, c.reads-test.true, c.requires.piece, c.read.auto.buf, c.reads.auto.piece, length-take c.in-Ok.count c.read.new.buf)

pub returns-in-Err-take_piece-clause-ends : goal.returns-in-Err-take_piece-clause-ends
returns-in-Err-take_piece-clause-ends g c =
    let h = c.reads.invariant.3 in
    asked_stopped _ _ _ c.reads.self _ h _ _ _ c.in-Err-take_piece.status c.in-Ok.ensures.bytes.0 (c.in-Err-take_piece.ensures.goes _ h.taken h.stands)

pub returns-in-Err-take_piece-clause-read : goal.returns-in-Err-take_piece-clause-read
returns-in-Err-take_piece-clause-read g c = own_read _ _ c.in-Err-take_piece.status c.in-Err-take_piece.ensures.kind (c.in-Ok.ensures.cause.kept ∙ c.reads.invariant.1)

pub returns-in-Err-take_piece-clause-write : goal.returns-in-Err-take_piece-clause-write
returns-in-Err-take_piece-clause-write g c = subst (λ (n : ℕ). HasWriteCause n (g.O.ByteSink.faults c.take_piece.new.output) c.in-Err-take_piece.status) c.reads.invariant.2 c.in-Err-take_piece.ensures.cause

pub reads-smaller : goal.reads-smaller
reads-smaller g c =
    omega (arith, c.in_default.ensures.taken, c.if-count-eq0.false, c.reads-test.true, c.in-Ok.ensures.bound, length-take c.in-Ok.count c.read.new.buf)

pub reads-preserved : goal.reads-preserved
reads-preserved g c = (
  c.in_default.ensures.asker,
  c.in-Ok.ensures.cause.kept ∙ c.reads.invariant.1,
  c.in_default.ensures.cause ∙ c.reads.invariant.2,
  (let h = c.reads.invariant.3 in taken_more _ _ _ c.reads.self _ h _ _ c.take_piece.new.self _ c.in-Ok.ensures.bytes.0 (c.in_default.ensures.goes _ h.taken h.stands)),
)

pub returns-clause-ends : goal.returns-clause-ends
returns-clause-ends g c = asked_quota _ _ _ c.reads.self _ c.reads.invariant.3 _ (omega (arith, c.reads-test.false)) refl

pub returns-clause-read : goal.returns-clause-read
returns-clause-read g c = c.reads.invariant.1

pub returns-clause-write : goal.returns-clause-write
returns-clause-write g c = c.reads.invariant.2
