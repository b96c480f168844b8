use Rattle.std.proofs.Common.{◌≡◌, ℕ, false, subst, arith, length-take}
use Rattle.std.specs.List.{All}
use Rattle.std.proofs.lemmas.List.{take_all}
use Rattle.std.proofs.lemmas.Bool.{ne_eqb}
use Rattle.std.proofs.lemmas.List.Elements.{All-more}
use Rattle.vector_text.specs.Feeding.{is_line_feed}
use Rattle.vector_text.proofs.Lining.{line_found}
use Rattle.vector_text.proofs.feed.line_end.Goals as goal

pub returns-then-byte-eq10-clause-some : goal.returns-then-byte-eq10-clause-some
returns-then-byte-eq10-clause-some c =
    line_found c.args.ahead.now c.loop-i.i c.uncarried.result c.loop-i-test.true c.if-byte-eq10.true c.loop-i.invariant
    (omega (arith, c.uncarried.ensures.bound, length-take c.loop-i.i c.args.ahead.now)) c.uncarried.ensures.value

pub loop-i-preserved : goal.loop-i-preserved
loop-i-preserved c =
    All-more (λ (x : ℕ). is_line_feed x ≡ false) c.args.ahead.now c.loop-i.i 0 c.loop-i-test.true c.loop-i.invariant (ne_eqb _ 10 c.if-byte-eq10.false)

pub returns-clause-none : goal.returns-clause-none
returns-clause-none c =
    subst (All (λ (x : ℕ). is_line_feed x ≡ false)) (take_all c.loop-i.i c.args.ahead.now (omega arith)) c.loop-i.invariant
