use Rattle.std.proofs.Common.{◌≡◌}
use Rattle.shared_tree.specs.Passes.{IsPassOf}
use Rattle.shared_tree.proofs.tests.crowd.restart.Given as goal

abbrev pub invariant-loop : goal.invariant-loop
invariant-loop g l = IsPassOf l.tree l.pass × (l.pass.view.opening ≡ l.initial.pass.view.opening)
