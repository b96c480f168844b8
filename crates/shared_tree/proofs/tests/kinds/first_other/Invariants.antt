use Rattle.shared_tree.specs.Passes.{IsPassOf}
use Rattle.shared_tree.proofs.tests.kinds.first_other.Given as goal

abbrev pub invariant-loop-i : goal.invariant-loop-i
invariant-loop-i g l = IsPassOf l.tree l.pass
