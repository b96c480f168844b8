use Rattle.std.proofs.Common.{[]}
use Rattle.health_tests.proofs.Stepping.{stands_fresh}
use Rattle.health_tests.proofs.continuous.Tests.fresh.Goals as goal

pub invariant_of-result : goal.invariant_of-result
invariant_of-result c = ([], stands_fresh c.args.cutoffs)

pub returns-clause-empty : goal.returns-clause-empty
returns-clause-empty c = stands_fresh c.args.cutoffs
