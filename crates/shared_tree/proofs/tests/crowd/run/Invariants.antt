use Rattle.std.proofs.Common.{◌≡◌}
use Rattle.shared_tree.specs.Passes.{IsPassOf}
use Rattle.shared_tree.proofs.tests.crowd.run.Given as goal

abbrev pub invariant-loop-i : goal.invariant-loop-i
invariant-loop-i g l = IsPassOf l.tree l.pass × (l.pass.view.opening ≡ l.initial.pass.view.opening)
