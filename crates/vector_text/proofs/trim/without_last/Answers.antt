use Rattle.std.proofs.Common.{◌∙◌, sym, arith}
use Rattle.vector_text.specs.Trims.{is_blank}
use Rattle.vector_text.proofs.Trimming.{last_more, last_stops}
use Rattle.vector_text.proofs.trim.without_last.Goals as goal

pub returns-then-not-is : goal.returns-then-not-is
returns-then-not-is c =
    last_stops (is_blank c.args.blank) c.args.text.now c.loop-end.end c.loop-end-test.true c.loop-end.invariant.0 (sym c.is.ensures ∙ c.if-not-is.true) c.loop-end.invariant.1

pub loop-end-preserved : goal.loop-end-preserved
loop-end-preserved c = (
  omega (arith, c.loop-end.invariant.0),
  last_more (is_blank c.args.blank) c.args.text.now c.loop-end.end c.loop-end-test.true c.loop-end.invariant.0 (sym c.is.ensures ∙ c.if-not-is.false) c.loop-end.invariant.1,
)
