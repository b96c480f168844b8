use Rattle.std.proofs.Common.{◌≡◌, ◌+◌, ◌≤◌, length}
use Rattle.turn_table.specs.Counters.{IsReady}
use Rattle.turn_bench.proofs.work.run.Given as goal

abbrev pub invariant-loop-i : goal.invariant-loop-i
invariant-loop-i g l = record {
  ready : IsReady l.turns.table l.turns.callers l.pass;
  counted : length l.pass.view.mine ≡ length l.initial.pass.view.mine + l.added;
  most : l.added ≤ l.i;
}
