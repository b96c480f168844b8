use Rattle.turn_table.specs.Counters.{IsReady, Goes}
use Rattle.turn_table.proofs.counters.take.Given as goal

abbrev pub invariant-loop : goal.invariant-loop
invariant-loop g l = record { ready : IsReady l.turns.table l.turns.callers l.pass; goes : Goes l.initial.pass.view l.pass.view }
