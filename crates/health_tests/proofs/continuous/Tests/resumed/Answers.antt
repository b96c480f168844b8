use Rattle.health_tests.proofs.Telling.{passed, failed}
use Rattle.health_tests.proofs.continuous.Tests.resumed.Goals as goal

pub returns-then-not-is_left-clause-refused : goal.returns-then-not-is_left-clause-refused
returns-then-not-is_left-clause-refused c =
    failed c.args.cutoffs c.args.tail c.is_left.result c.are_sound.ensures c.is_left.ensures c.if-not-is_left.true

pub invariant_of-result : goal.invariant_of-result
invariant_of-result c =
    passed c.args.cutoffs c.args.tail c.is_left.result c.are_sound.ensures c.is_left.ensures c.if-not-is_left.false
