use Rattle.std.proofs.Common.{◌≡◌, ◌++◌, ℕ, map}
use Rattle.std.specs.Prelude.{◌==◌, filter}
use Rattle.std.specs.List.{range_with_len}
use Rattle.tree_rules.specs.declared.call.Call.TheVariants.{Instantiate}
use Rattle.tree_rules.specs.Openings.{depth}
use Rattle.tree_core.proofs.opening.add_depth.Given as goal

abbrev pub invariant-loop-n : goal.invariant-loop-n
invariant-loop-n l = l.calls.items ≡ l.initial.calls.items ++ map (λ (n : ℕ). Instantiate n 0) (filter (λ n. depth l.plan n == l.depth) (range_with_len 0 l.n))
