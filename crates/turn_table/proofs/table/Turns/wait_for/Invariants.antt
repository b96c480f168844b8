use Rattle.std.proofs.Common.{◌≡◌}
use Rattle.turn_table.specs.Calls.{SeesOn}
use Rattle.turn_table.proofs.table.Turns.wait_for.Given as goal

abbrev pub invariant-loop : goal.invariant-loop
invariant-loop g l = record { own : l.pass.table ≡ l.initial.pass.table; sees : SeesOn l.initial.pass.view l.pass.view }
