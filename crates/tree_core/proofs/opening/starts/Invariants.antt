use Rattle.std.proofs.Common.{◌≡◌, ℕ, map}
use Rattle.std.specs.List.{range_with_len}
use Rattle.tree_rules.specs.declared.call.Call.TheVariants.{Start}
use Rattle.tree_core.proofs.opening.starts.Given as goal

abbrev pub invariant-loop-j : goal.invariant-loop-j
invariant-loop-j l = l.calls.items ≡ map (λ (j : ℕ). Start j) (range_with_len 0 l.j)
