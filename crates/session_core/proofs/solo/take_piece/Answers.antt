use Rattle.std.proofs.Common.{◌≡◌, ◌++◌, ◌∙◌, take, List, ℕ, arith, length-drop, subst, take_all}
use Rattle.session_core.specs.Answers.{Answered}
use Rattle.session_core.specs.Session.{Began, Stands, moment}
use Rattle.session_core.proofs.Pieces.{taken_more, stopped_within}
use Rattle.session_core.proofs.solo.take_piece.Goals as goal

pub frames-preserved : goal.frames-preserved
frames-preserved g c = (
  c.in-Ok.ensures.ready,
  omega (arith, c.in-Ok.ensures.count.1, length-drop c.frames.at c.args.piece.now, c.frames-test.true),
  omega (arith, c.in-Ok.ensures.count.2, c.frames.invariant.2),
  c.in-Ok.ensures.cause ∙ c.frames.invariant.3,
  c.in-Ok.ensures.max ∙ c.frames.invariant.4,
  c.in-Ok.ensures.plan ∙ c.frames.invariant.5,
  λ (b : Began _) (taken : List ℕ) (es : List Answered) (st : Stands g.S.Samples.told g.S.Samples.faults g.S.Samples.reads b taken es (moment c.args.inbox.now c.args.frames.now c.args.tree.now) (g.O.ByteSink.out c.args.output.now)).
      let so_far = c.frames.invariant.6 b taken es st in
      let on = c.in-Ok.ensures.goes b (taken ++ take c.frames.at c.args.piece.now) so_far.0 so_far.1 in
      (on.0, taken_more g.S.Samples.told g.S.Samples.faults g.S.Samples.reads b taken c.args.piece.now on.0 c.frames.at c.in-Ok.count _ _ on.1),
)

pub returns-in-Err-clause-goes : goal.returns-in-Err-clause-goes
returns-in-Err-clause-goes g c b taken es st =
    let so_far = c.frames.invariant.6 b taken es st in
    stopped_within g.S.Samples.told g.S.Samples.faults g.S.Samples.reads b taken c.args.piece.now c.frames.at _ _ c.in-Err.end (c.in-Err.ensures.goes b (taken ++ take c.frames.at c.args.piece.now) so_far.0 so_far.1)

pub returns-clause-goes : goal.returns-clause-goes
returns-clause-goes g c b taken es st =
    let so_far = c.frames.invariant.6 b taken es st in
    let all : take c.frames.at c.args.piece.now ≡ c.args.piece.now = take_all c.frames.at c.args.piece.now (omega (arith, c.frames-test.false)) in
    (so_far.0, subst (λ (x : List ℕ). Stands g.S.Samples.told g.S.Samples.faults g.S.Samples.reads b (taken ++ x) so_far.0 (moment c.frames.inbox c.frames.frames c.frames.tree) (g.O.ByteSink.out c.frames.output)) all so_far.1)
