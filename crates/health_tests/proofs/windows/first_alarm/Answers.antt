use Rattle.std.proofs.Common.{sym, arith}
use Rattle.std.specs.Prelude.{Some, None}
use Rattle.health_tests.proofs.Longer.{least_is_first}
use Rattle.health_tests.proofs.windows.first_alarm.Goals as goal

pub returns-in-Some : goal.returns-in-Some
returns-in-Some c =
    sym (least_is_first c.args.cutoffs c.args.samples.now (Some (record { at = c.loop-at.at; test = c.in-Some.test }))
    (omega arith, sym c.in-Some.ensures, c.loop-at.invariant))

pub returns : goal.returns
returns c = sym (least_is_first c.args.cutoffs c.args.samples.now None (λ k h. c.loop-at.invariant k (omega arith)))
