use Rattle.std.proofs.Common.{◌≡◌}
use Rattle.shared_tree.specs.Carries.{Stays}
use Rattle.shared_tree.proofs.waits.take_later.Given as goal

abbrev pub invariant-loop : goal.invariant-loop
invariant-loop g l = (l.pass.table ≡ l.initial.pass.table) × Stays l.fn.slot l.initial.pass.view l.pass.view
