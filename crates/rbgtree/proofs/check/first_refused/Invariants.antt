use Rattle.std.proofs.Common.{◌≡◌, drop}
use Rattle.rbgtree.specs.Check.{first_refused}
use Rattle.rbgtree.proofs.check.first_refused.Given as goal

abbrev pub invariant-loop-line : goal.invariant-loop-line
invariant-loop-line l = first_refused (drop l.line-index l.lines) ≡ first_refused l.lines
