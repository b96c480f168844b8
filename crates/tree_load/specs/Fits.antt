-- When every number of the counts after calls fits 64 bits; the counts of nodes in a list.
-- This project's own.
use Rattle.std.specs.Prelude.{◌<◌, ◌≤◌, ◌+◌, ◌^◌, ℕ, List, length, get_or, false}
use Rattle.rbg_nodes.specs.declared.node.NodeCounts.{NodeCounts}
use Rattle.tree_config.specs.Tree.{Tree}
use Rattle.tree_core.specs.declared.solo.SourceCounts.{SourceCounts}
use Rattle.tree_load.specs.Tally.{asks, node_tally, source_tally}

-- the counts of node n out of those of all nodes
abbrev pub counts_in : List NodeCounts → ℕ → NodeCounts
counts_in before n = get_or before n (record { live = false; counter = 0; seeds = 0; gives = 0 })

-- Every number that the counts of nodes after calls come of is below 2^64: a node's reseed counter with how often it is asked, by itself
-- and by its children so far below it, and its seedings and generates after the calls.
pub record AllFit (p : Tree) (before : ℕ → NodeCounts) (own : ℕ → List ℕ) : Type 0 where
  pub asked : (far n : ℕ) → far ≤ length p.nodes → n < length p.nodes → (before n).counter + length (asks far p (λ m. (before m).counter) own n) < 2 ^ 64
  pub seeds : (n : ℕ) → n < length p.nodes → (node_tally p before own n).seeds < 2 ^ 64
  pub gives : (n : ℕ) → n < length p.nodes → (node_tally p before own n).gives < 2 ^ 64

-- and those of source j
pub record SourceFits (p : Tree) (before : ℕ → NodeCounts) (own : ℕ → List ℕ) (j : ℕ) (source : SourceCounts) : Type 0 where
  pub blocks : (source_tally p before own j source).blocks < 2 ^ 64
  pub taken : (source_tally p before own j source).taken < 2 ^ 64
