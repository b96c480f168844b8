use Rattle.std.proofs.Common.{◌≡◌, take}
use Rattle.health_tests.specs.Stands.{StandsFor}
use Rattle.rbg_bench.proofs.runs.by_step.Given as goal

abbrev pub invariant-loop-at : goal.invariant-loop-at
invariant-loop-at l = record {
  cutoffs : l.tests.cutoffs ≡ l.fn.cutoffs;
  stands : StandsFor l.tests (take l.at l.samples);
}
