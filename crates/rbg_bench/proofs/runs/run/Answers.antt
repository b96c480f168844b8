use Rattle.std.proofs.Common.{◌≡◌, ◌≤◌, refl, sym, ap, arith, length, drop}
use Rattle.std.specs.Prelude.{slice_set, ◌%◌}
use Rattle.std.proofs.lemmas.List.{length-set}
use Rattle.rbg_bench.proofs.RunByRun.{totals-none, put_first, run_more}
use Rattle.rbg_bench.proofs.runs.run.Goals as goal

pub loop-number-init : goal.loop-number-init
loop-number-init c = record {
  totals = sym (totals-none c.args.cutoffs c.args.samples.now);
  rest = refl;
  samples = omega arith;
  alarms = omega arith;
}

pub loop-number-preserved : goal.loop-number-preserved
loop-number-preserved c =
    let x = c.loop-number.samples in
    let y = c.args.samples.now in
    let n = c.loop-number.number in
    let len = c.loop-number.auto.samples in
    let some : 1 ≤ length x = omega (arith, len, c.requires.some) in
    let put : length (slice_set x 0 (n % 256)) ≡ length x = length-set x 0 (n % 256) in
    record {
      totals =
          run_more c.args.cutoffs x y n c.loop-number.totals c.with-totals.result c.alarm_by.result some len c.loop-number.invariant.rest
          c.loop-number.invariant.totals c.alarm_by.ensures.alarm c.with-totals.ensures.value;
      rest = ap (drop 1) (put_first x y (n % 256) some c.loop-number.invariant.rest);
      samples = omega (arith, len, put, c.with-totals.ensures.samples, c.loop-number.invariant.samples, c.requires.bound);
      alarms = omega (arith, c.with-totals.ensures.alarms, c.loop-number.invariant.alarms);
    }
