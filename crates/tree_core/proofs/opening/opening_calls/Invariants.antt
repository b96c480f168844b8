use Rattle.std.proofs.Common.{◌≡◌, ◌+◌, ◌++◌, ℕ, map, length}
use Rattle.std.specs.Prelude.{◌==◌, filter, flat_map}
use Rattle.std.specs.List.{range_with_len}
use Rattle.tree_rules.specs.declared.call.Call.TheVariants.{Instantiate}
use Rattle.tree_rules.specs.Openings.{depth}
use Rattle.tree_core.specs.Opened.{start_calls}
use Rattle.tree_core.proofs.opening.opening_calls.Given as goal

abbrev pub invariant-loop-d : goal.invariant-loop-d
invariant-loop-d l = l.calls.items ≡ start_calls l.plan ++ map (λ (n : ℕ). Instantiate n 0)
    (flat_map (λ d. filter (λ n. depth l.plan n == d + 1) (range_with_len 0 (length l.plan.nodes))) (range_with_len 0 l.d))
