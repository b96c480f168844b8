use Rattle.std.proofs.Common.{◌≡◌, false, drop}
use Rattle.health_tests.specs.Blocks.{AllDiffer}
use Rattle.health_tests.proofs.numbers.is_like.Given as goal

-- what is left tells of the whole
abbrev pub invariant-loop-i : goal.invariant-loop-i
invariant-loop-i l = l.like ≡ false → AllDiffer l.last l.certain (drop l.i l.block) → AllDiffer l.fn.before l.certain l.block
