-- How a node's seedings and generates in number grow.
-- This project's own.
use Rattle.std.specs.Prelude.{◌≤◌, ℕ, ◌+◌}
use Rattle.rbg_nodes.specs.Node.{NodeState}
use Rattle.tree_rules.specs.History.{SlotState, NodeIs, SourceIs}

-- by at most so many each
pub record IsRaised (most : ℕ) (x y : NodeState) : Type 0 where
  pub seeds_low : x.seeds ≤ y.seeds
  pub seeds_high : y.seeds ≤ x.seeds + most
  pub gives_low : x.gives ≤ y.gives
  pub gives_high : y.gives ≤ x.gives + most

-- they are at most so many
pub record AreCounts (most : ℕ) (x : NodeState) : Type 0 where
  pub seeds : x.seeds ≤ most
  pub gives : x.gives ≤ most

abbrev pub HasCounts : ℕ → SlotState → Type 0
HasCounts most (NodeIs x) = AreCounts most x
HasCounts most (SourceIs x) = Unit {0}
