use Rattle.std.proofs.Common.{take, ap, ◌∙◌}
use Rattle.health_tests.specs.Windows.{first_alarm}
use Rattle.rbg_bench.proofs.RunByRun.{found}
use Rattle.rbg_bench.proofs.runs.by_step.Goals as goal

pub returns-in-Some-clause-alarm : goal.returns-in-Some-clause-alarm
returns-in-Some-clause-alarm c =
    let seen = take c.loop-at.at c.args.samples.now in
    found c.loop-at.tests.cutoffs c.args.samples.now c.loop-at.at c.in-Some.test c.loop-at-test.true
    (c.first_alarm_goes_on.ensures.stays c.loop-at.tests.cutoffs) (c.in-Some.ensures.alarm seen c.loop-at.invariant.stands)
    ∙ ap (λ l. first_alarm l c.args.samples.now) c.loop-at.invariant.cutoffs
