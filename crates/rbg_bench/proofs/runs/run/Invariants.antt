use Rattle.std.proofs.Common.{◌≡◌, ◌*◌, ◌≤◌, drop}
use Rattle.rbg_bench.specs.Runs.{totals_of}
use Rattle.rbg_bench.proofs.runs.run.Given as goal

abbrev pub invariant-loop-number : goal.invariant-loop-number
invariant-loop-number l = record {
  totals : l.totals ≡ totals_of l.fn.cutoffs l.number l.fn.samples;
  rest : drop 1 l.samples ≡ drop 1 l.fn.samples;
  samples : l.totals.samples ≤ l.number * 16777216;
  alarms : l.totals.alarms ≤ l.number;
}
