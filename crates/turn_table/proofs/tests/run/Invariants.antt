use Rattle.turn_table.specs.Counters.{IsReady}
use Rattle.turn_table.proofs.tests.run.Given as goal

abbrev pub invariant-loop-i : goal.invariant-loop-i
invariant-loop-i g l = IsReady l.turns.table l.turns.callers l.pass
