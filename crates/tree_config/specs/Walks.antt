-- What following parents from a node comes to, and the depths of all nodes.
-- This project's own.
use Rattle.std.specs.Prelude.{◌≡◌, ℕ, ◌<◌, ◌≤◌, List, length, slice_index, Option, Some}
use Rattle.tree_config.specs.declared.ways.Way.{Way}
use Rattle.tree_config.specs.declared.ways.Way.TheVariants.{Root, Back, Lost}
use Rattle.tree_config.specs.Graph.{after, IsOnCycle, HasDepth}

abbrev pub Walks : List (Option ℕ) → ℕ → Way → Type 0
Walks ps n (Root depth) = HasDepth ps n depth × ¬ IsOnCycle ps n
Walks ps n Back = IsOnCycle ps n
Walks ps n Lost = ((m : ℕ) × (after ps (length ps) n ≡ Some m)) × ¬ IsOnCycle ps n

-- these are the depths of the nodes, and at most the limit
pub record HaveDepths (limit : ℕ) (ps : List (Option ℕ)) (depths : List ℕ) : Type 0 where
  pub count : length depths ≡ length ps
  pub each : (n : ℕ) → n < length ps → HasDepth ps n (slice_index depths n) × slice_index depths n ≤ limit
