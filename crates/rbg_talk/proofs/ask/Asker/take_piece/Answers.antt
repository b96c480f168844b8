use Rattle.std.proofs.Common.{◌∙◌, ◌++◌, List, ℕ, ◌+◌, take, drop, sym, refl, subst, arith, append-nil}
use Rattle.rbg_talk.specs.Causes.{HasWriteCause}
use Rattle.rbg_talk.specs.Asker.{StandsAt, Stops}
use Rattle.rbg_talk.proofs.Pieces.{next_taken, all_taken}
use Rattle.rbg_talk.proofs.Lining.{stops_more}
use Rattle.rbg_talk.proofs.ask.Asker.take_piece.Goals as goal

pub loop-byte-init : goal.loop-byte-init
loop-byte-init g c = (
  c.requires.asker,
  omega arith,
  refl,
  λ before taken st. subst (λ (x : List ℕ). StandsAt before x c.args.self.now (g.O.ByteSink.out c.args.output.now)) (sym (append-nil taken)) st,
)

pub take-requires-clause-asker : goal.take-requires-clause-asker
take-requires-clause-asker g c = c.loop-byte.invariant.0

pub take-requires-clause-bound : goal.take-requires-clause-bound
take-requires-clause-bound g c = omega (arith, c.loop-byte.invariant.1, c.requires.bound, c.loop-byte-test.true)

pub returns-in-Err-clause-goes : goal.returns-in-Err-clause-goes
returns-in-Err-clause-goes g c before taken st =
    let stops = c.in-Err.ensures.goes before (taken ++ take c.loop-byte.byte-index c.args.piece.now) (c.loop-byte.invariant.3 before taken st) in
    subst (λ (x : List ℕ). Stops before x (g.O.ByteSink.out c.take.new.output) c.in-Err.status) (all_taken taken c.args.piece.now c.loop-byte.byte-index c.loop-byte-test.true)
    (stops_more before _ (drop (c.loop-byte.byte-index + 1) c.args.piece.now) _ c.in-Err.status stops)

pub returns-in-Err-clause-cause : goal.returns-in-Err-clause-cause
returns-in-Err-clause-cause g c = subst (λ (n : ℕ). HasWriteCause n (g.O.ByteSink.faults c.take.new.output) c.in-Err.status) c.loop-byte.invariant.2 c.in-Err.ensures.cause

pub loop-byte-preserved : goal.loop-byte-preserved
loop-byte-preserved g c = (
  c.in-Ok.ensures.asker,
  omega (arith, c.in-Ok.ensures.taken, c.loop-byte.invariant.1),
  c.in-Ok.ensures.cause ∙ c.loop-byte.invariant.2,
  λ before taken st.
      subst (λ (x : List ℕ). StandsAt before x c.take.new.self (g.O.ByteSink.out c.take.new.output)) (next_taken taken c.args.piece.now c.loop-byte.byte-index c.loop-byte-test.true)
      (c.in-Ok.ensures.goes before (taken ++ take c.loop-byte.byte-index c.args.piece.now) (c.loop-byte.invariant.3 before taken st)),
)
